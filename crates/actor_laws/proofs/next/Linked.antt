-- A sound content that goes on is linked: its numbers differ, and each awaited value is owed once.
use Rattle.std.proofs.Common.{◌≡◌, ℕ, ◌≤◌, ◌&&◌, Bool, true, false, nat_eq, List, [], ◌∷◌, IsTrue, refl, sym, ◌∙◌, arith}
use Rattle.std.specs.List.{slice_get, sum_by}
use Rattle.std.proofs.lemmas.Bool.{and_from}
use Rattle.std.proofs.lemmas.List.Sums.{sum_by-cons}
use Rattle.ids.specs.declared.outcome.Progress.TheVariants.{Active}
use Rattle.ids.specs.declared.returns.Return.{Return}
use Rattle.ids.specs.declared.returns.Return.TheVariants.{Whole, Local}
use Rattle.ids.specs.declared.work.Frame.{Frame}
use Rattle.frames.specs.Frames.{is_vacant}
use Rattle.sub_rules.specs.declared.content.Content.{Content}
use Rattle.sub_rules.specs.Debts.{HasDebtors, IsSound, awaits_at, is_numbered, one_if, same_return}
use Rattle.subcomputation.specs.Fitting.{awaited_in, is_linked, numbers_of, owed_by, same_once}
use Rattle.departure.specs.Links.{times}
use Rattle.departure.proofs.LinkedCounts.{same_from}
use Rattle.departure.proofs.LinkedSound.{tells_number, tells_return, times_awaited, times_number, times_owed}

-- the value of the whole is awaited in no slot
none_await : (frames : List Frame) → sum_by (awaits_at Whole) frames ≡ 0
none_await [] = refl
none_await (f ∷ fs) =
    let rest = none_await fs in
    omega (arith, sum_by-cons (awaits_at Whole) f fs)

of_both : (a b : Bool) → one_if (a && b) ≤ one_if a
of_both true true = omega arith
of_both true false = omega arith
of_both false b = omega arith

-- at most as many frames await a value in a slot of frame n as have that number
few_await : (n j : ℕ) (frames : List Frame) → sum_by (awaits_at (Local n j)) frames ≤ sum_by (is_numbered n) frames
few_await n j [] = omega arith
few_await n j (f ∷ fs) =
    let rest = few_await n j fs in
    let here : awaits_at (Local n j) f ≤ is_numbered n f =
    of_both (nat_eq f.number n) (is_vacant (slice_get f.slots j)) in
    omega (arith, sum_by-cons (awaits_at (Local n j)) f fs, sum_by-cons (is_numbered n) f fs)

-- so no value is awaited twice
awaited_once : (c : Content) → IsSound c → (r : Return) → times same_return r (awaited_in c.frames) ≤ 1
awaited_once c sound Whole =
    let none = none_await c.frames in
    omega (arith, times_awaited Whole c.frames)
awaited_once c sound (Local n j) =
    let few = few_await n j c.frames in
    let once = sound.once n in
    omega (arith, times_awaited (Local n j) c.frames)

pub sound_linked : (c : Content) → c.progress ≡ Active → IsSound c → IsTrue (is_linked c)
sound_linked c is sound =
    let debts : HasDebtors c.frames c.records = rw is at sound.owed in
    and_from (same_once nat_eq (numbers_of c) (numbers_of c)) (same_once same_return (awaited_in c.frames) (owed_by c))
    (same_from nat_eq tells_number (numbers_of c) (numbers_of c) (record {
      equal = λ n. refl;
      once = λ n. let once = sound.once n in omega (arith, times_number n c);
    }))
    (same_from same_return tells_return (awaited_in c.frames) (owed_by c) (record {
      equal = λ r. times_awaited r c.frames ∙ sym (debts.each r) ∙ sym (times_owed r c);
      once = λ r. awaited_once c sound r;
    }))

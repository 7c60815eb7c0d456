-- Calls in two parts.
use Rattle.std.proofs.Common.{◌≡◌, ℕ, suc, ◌+◌, ◌-◌, ◌<◌, ◌≤◌, ◌⊎◌, inl, inr, List, [], ◌∷◌, ◌++◌, length, Option, None, refl, sym, ◌∙◌, ap, subst, arith, add-zero, add-suc, length-append}
use mathlib.Core.Path.{fun_ext}
use Rattle.std.proofs.lemmas.Bool.{cases_lt}
use Rattle.disk.specs.Device.{Device, passed}
use Rattle.checkpoint.specs.Calls.{DeviceCall, Fails, Passed, Stopped, after, changed}
use Rattle.checkpoint.specs.Commit.{opening}

after-append : (d : Device) (a b : List DeviceCall) → after d (a ++ b) ≡ after (after d a) b
unfolding after
after-append d [] b = refl
after-append d (call ∷ a) b = after-append (passed d (changed d.file call)) a b

same_plan : (plan later : ℕ → Option (List ℕ)) → ((i : ℕ) → later i ≡ plan (i + 0)) → later ≡ plan
same_plan plan later h = fun_ext (λ i. h i ∙ ap plan (add-zero i))

-- one call
pub fails_alone : (call : DeviceCall) (plan : ℕ → Option (List ℕ)) (d new : Device) → Fails call (plan 0) d new
    → Stopped (call ∷ []) plan d new
unfolding Stopped
fails_alone call plan d new fails = inl fails

pub passes_alone : (call : DeviceCall) (plan : ℕ → Option (List ℕ)) (d new : Device) → plan 0 ≡ None
    → new ≡ passed d (changed d.file call) → Passed (call ∷ []) plan d new
unfolding after
passes_alone call plan d new first is =
    record { made = is; unplanned = λ i h. let e : i ≡ 0 = omega arith in ap plan e ∙ first }

-- none
pub none_passed : (plan : ℕ → Option (List ℕ)) (d : Device) → Passed [] plan d d
unfolding after
none_passed plan d = record { made = refl; unplanned = λ i h. absurd (omega (arith, h)) }

-- a read leaves the file
pub read_file : (plan : ℕ → Option (List ℕ)) (d new : Device) → Passed opening plan d new → new.file ≡ d.file
unfolding after
read_file plan d new is = ap (λ (x : Device). x.file) is.made

-- one of the first calls failed
pub stop_first : (a b : List DeviceCall) (plan : ℕ → Option (List ℕ)) (d new : Device) → Stopped a plan d new
    → Stopped (a ++ b) plan d new
unfolding Stopped
stop_first [] b plan d new stop = absurd stop
stop_first (call ∷ a) b plan d new (inl fails) = inl fails
stop_first (call ∷ a) b plan d new (inr rest) =
    inr (rest.0, stop_first a b (λ i. plan (suc i)) (passed d (changed d.file call)) new rest.1)

-- they passed, and a later one failed
pub stop_later : (a b : List DeviceCall) (plan later : ℕ → Option (List ℕ)) (d e new : Device) → Passed a plan d e
    → ((i : ℕ) → later i ≡ plan (i + length a)) → Stopped b later e new → Stopped (a ++ b) plan d new
unfolding Stopped after
stop_later [] b plan later d e new before shift stop =
    subst (λ f. Stopped b f d new) (same_plan plan later shift) (subst (λ x. Stopped b later x new) before.made stop)
stop_later (call ∷ a) b plan later d e new before shift stop =
    let rest : Passed a (λ i. plan (suc i)) (passed d (changed d.file call)) e =
    record { made = before.made; unplanned = λ i h. before.unplanned (suc i) (omega arith) } in
    inr (
      before.unplanned 0 (omega arith),
      stop_later a b (λ i. plan (suc i)) later (passed d (changed d.file call)) e new rest (λ i. shift i
          ∙ ap plan (add-suc i (length a))) stop,
    )

unplanned_both : (a b : List DeviceCall) (plan later : ℕ → Option (List ℕ)) (i : ℕ)
    → ((j : ℕ) → j < length a → plan j ≡ None) → ((j : ℕ) → later j ≡ plan (j + length a))
    → ((j : ℕ) → j < length b → later j ≡ None) → i < length (a ++ b) → (i < length a) ⊎ (length a ≤ i) → plan i ≡ None
unplanned_both a b plan later i one shift two h (inl below) = one i below
unplanned_both a b plan later i one shift two h (inr above) =
    let e : i - length a + length a ≡ i = omega arith in
    ap plan (sym e) ∙ sym (shift (i - length a)) ∙ two (i - length a) (omega (arith, length-append a b))

-- all of them passed
pub passed_both : (a b : List DeviceCall) (plan later : ℕ → Option (List ℕ)) (d e f : Device) → Passed a plan d e
    → ((i : ℕ) → later i ≡ plan (i + length a)) → Passed b later e f → Passed (a ++ b) plan d f
unfolding after
passed_both a b plan later d e f one shift two = record {
  made = two.made ∙ ap (λ x. after x b) one.made ∙ sym (after-append d a b);
  unplanned = λ i h. unplanned_both a b plan later i one.unplanned shift two.unplanned h (cases_lt i (length a));
}

-- the plan after so many calls
pub one_later : (plan later : ℕ → Option (List ℕ)) → ((i : ℕ) → later i ≡ plan (suc i)) → (i : ℕ)
    → later i ≡ plan (i + 1)
one_later plan later h i = let e : suc i ≡ i + 1 = omega arith in h i ∙ ap plan e

pub both_later : (plan later last : ℕ → Option (List ℕ)) (m n : ℕ) → ((i : ℕ) → later i ≡ plan (i + m))
    → ((i : ℕ) → last i ≡ later (i + n)) → (i : ℕ) → last i ≡ plan (i + (n + m))
both_later plan later last m n one two i = let e : i + n + m ≡ i + (n + m) =
    omega arith in two i ∙ one (i + n) ∙ ap plan e

-- whether a device can be cut doesn't change
after-can_cut : (d : Device) (calls : List DeviceCall) → (after d calls).can_cut ≡ d.can_cut
unfolding after
after-can_cut d [] = refl
after-can_cut d (call ∷ calls) = after-can_cut (passed d (changed d.file call)) calls

pub passed-can_cut : (calls : List DeviceCall) (plan : ℕ → Option (List ℕ)) (d new : Device) → Passed calls plan d new
    → new.can_cut ≡ d.can_cut
passed-can_cut calls plan d new is = ap (λ (x : Device). x.can_cut) is.made ∙ after-can_cut d calls

pub stopped-can_cut : (calls : List DeviceCall) (plan : ℕ → Option (List ℕ)) (d new : Device) → Stopped calls plan d new
    → new.can_cut ≡ d.can_cut
unfolding Stopped
stopped-can_cut [] plan d new stop = absurd stop
stopped-can_cut (call ∷ calls) plan d new (inl fails) = fails.failed.same
stopped-can_cut (call ∷ calls) plan d new (inr rest) =
    stopped-can_cut calls (λ i. plan (suc i)) (passed d (changed d.file call)) new rest.1

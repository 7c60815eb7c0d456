-- Saved values that agree, and what is known by them.
use Rattle.std.proofs.Common.{◌≡◌, ◌≤◌, ◌+◌, ℕ, ℤ, zero, suc, Bool, true, false, cond, List, [], ◌∷◌, length, take, Option, Some, None, Ordering, Less, Equal, Greater, refl, ◌∙◌, arith}
use Rattle.std.specs.List.{AllByRecursion, filter}
use Rattle.std.specs.Ordering.{is_eq, match_ordering}
use Rattle.ids.specs.Keyed as keyed
use Rattle.saved_values.specs.Places.{is_under, place_cmp, stripped}
use Rattle.saved_values.specs.Saved.{known_by, place_of, put_saved, saved_under, value_of}
use Rattle.saved_values.specs.declared.value.SavedValue.{SavedValue}
use Rattle.saved_values.proofs.Places.{place_same}
use Rattle.serial_meaning.specs.Places.{Call, task_at, value_at}
use Rattle.serial_meaning.specs.Job.{JobOf}
use Rattle.serial_meaning.proofs.FrameLaws.{joined_value}
use Rattle.agreement_laws.specs.Agreement.{AllSavedAgree, IsSavedOf, KnownAgrees}
use Rattle.agreement_laws.proofs.Places.{joined_before}

-- what is looked up agrees
pub known_agrees : (job : JobOf) (saved : List SavedValue) → AllSavedAgree job saved → KnownAgrees job (known_by saved)
known_agrees job [] all place v is = cc
known_agrees job (x ∷ saved) all place v is =
    by_order (place_cmp place x.place) refl (known_agrees job saved all.1 place v) is
  where
    here : place_cmp place x.place ≡ Equal → Some x.value ≡ Some v → value_at job.program job.input place ≡ Some v
    here e at = let same : place ≡ x.place = place_same place x.place e in rw same (all.0 ∙ at)

    by_order : (r : Ordering) → place_cmp place x.place ≡ r
        → (known_by saved place ≡ Some v → value_at job.program job.input place ≡ Some v)
        → value_of (cond (is_eq r) (Some x) (keyed.item_at place_of place_cmp place saved)) ≡ Some v
        → value_at job.program job.input place ≡ Some v
    by_order Less e later at = later at
    by_order Equal e later at = here e at
    by_order Greater e later at = later at

-- one more
put_agree : (job : JobOf) (x : SavedValue) (saved : List SavedValue) → IsSavedOf job x → AllSavedAgree job saved
    → AllSavedAgree job (keyed.put place_of place_cmp x saved)
put_agree job x [] own all = (own, tt)
put_agree job x (y ∷ saved) own all = by_order (place_cmp x.place y.place) (put_agree job x saved own all.1)
  where
    by_order : (r : Ordering) → AllSavedAgree job (keyed.put place_of place_cmp x saved)
        → AllSavedAgree job (match_ordering r (x ∷ y ∷ saved) (x ∷ saved) (y ∷ keyed.put place_of place_cmp x saved))
    by_order Less rest = (own, all)
    by_order Equal rest = (own, all.1)
    by_order Greater rest = (all.0, rest)

take_agree : (job : JobOf) (n : ℕ) (saved : List SavedValue) → AllSavedAgree job saved
    → AllSavedAgree job (take n saved)
take_agree job zero saved all = tt
take_agree job (suc n) [] all = tt
take_agree job (suc n) (x ∷ saved) all = (all.0, take_agree job n saved all.1)

pub put_saved_agrees : (job : JobOf) (x : SavedValue) (saved : List SavedValue) → IsSavedOf job x
    → AllSavedAgree job saved → AllSavedAgree job (put_saved x saved)
put_saved_agrees job x saved own all =
    take_agree job 64 (keyed.put place_of place_cmp x saved) (put_agree job x saved own all)

-- those below a place
pub under_agrees : (job : JobOf) (root : List ℕ) (saved : List SavedValue) → AllSavedAgree job saved
    → AllSavedAgree job (saved_under root saved)
under_agrees job root [] all = tt
under_agrees job root (x ∷ saved) all = by_test (is_under root x.place) (under_agrees job root saved all.1)
  where
    by_test : (b : Bool) → AllSavedAgree job (saved_under root saved)
        → AllSavedAgree job (cond b (x ∷ saved_under root saved) (saved_under root saved))
    by_test true rest = (all.0, rest)
    by_test false rest = rest

-- the value of a task whose last steps go to successors is that of the task before these
pub stripped_value : (job : JobOf) (place : List ℕ) (task : Call) → length place ≤ 1024
    → task_at job.program job.input place ≡ Some task
    → value_at job.program job.input (stripped place) ≡ value_at job.program job.input place
stripped_value job [] task short at = refl
stripped_value job (zero ∷ q) task short at =
    let j = joined_before job.program job.input zero q task at in
    stripped_value job q j.before (omega (arith, short)) j.at
    ∙ joined_value job.program job.input q j.before.thread j.before.numbers j.successor j.slots
    (omega (arith, short)) j.at j.turn
stripped_value job (suc i ∷ q) task short at = refl

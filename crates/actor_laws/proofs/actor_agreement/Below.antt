-- Values of places below one: those that go with a task, and those that the clearinghouse saves.
use Rattle.std.proofs.Common.{◌≡◌, ℕ, zero, suc, Bool, true, false, cond, List, [], ◌∷◌, length, take, IsTrue, refl, Ordering, Less, Equal, Greater, arith}
use Rattle.std.specs.List.{AllByRecursion}
use Rattle.std.specs.Ordering.{match_ordering}
use Rattle.std.proofs.lemmas.Bool.{and_from, lt-ltb}
use Rattle.ids.specs.Keyed as keyed
use Rattle.ids.specs.declared.work.Task.{Task}
use Rattle.saved_values.specs.Places.{is_saved_place, is_under, place_cmp}
use Rattle.saved_values.specs.Saved.{place_of, put_saved, saved_under}
use Rattle.saved_values.specs.declared.value.SavedValue.{SavedValue}
use Rattle.node_steps.specs.Cases.{saved_fit}
use Rattle.actor_laws.specs.actor_agreement.Values.{AreBelowRoot}

-- those that a node hands on with a task
pub under_fit : (task : Task) (saved : List SavedValue) → IsTrue (saved_fit task (saved_under task.place saved))
under_fit task [] = refl
under_fit task (x ∷ saved) = by_test (is_under task.place x.place) refl (under_fit task saved)
  where
    by_test : (b : Bool) → is_under task.place x.place ≡ b → IsTrue (saved_fit task (saved_under task.place saved))
        → IsTrue (saved_fit task (cond b (x ∷ saved_under task.place saved) (saved_under task.place saved)))
    by_test true e rest = and_from (is_under task.place x.place) (saved_fit task (saved_under task.place saved)) e rest
    by_test false e rest = rest

-- those that go with the task at the root
pub root_fit : (task : Task) (saved : List SavedValue) → task.place ≡ [] → AreBelowRoot saved
    → IsTrue (saved_fit task saved)
root_fit task [] at below = refl
root_fit task (x ∷ saved) at below =
    let here : IsTrue (is_under task.place x.place) = rw at below.0 in
    and_from (is_under task.place x.place) (saved_fit task saved) here (root_fit task saved at below.1)

-- a place of a saved value is one
pub saved_below : (place : List ℕ) → IsTrue (is_saved_place place) → IsTrue (is_under [] place)
saved_below [] saved = cc
saved_below (step ∷ before) saved = rw (lt-ltb 0 (length (step ∷ before)) (omega arith)) refl

-- one more
module _ (P : SavedValue → Type 0) where
  put_each : (x : SavedValue) (saved : List SavedValue) → P x → AllByRecursion P saved
      → AllByRecursion P (keyed.put place_of place_cmp x saved)
  put_each x [] own all = (own, tt)
  put_each x (y ∷ saved) own all = by_order (place_cmp x.place y.place) (put_each x saved own all.1)
    where
      by_order : (r : Ordering) → AllByRecursion P (keyed.put place_of place_cmp x saved)
          → AllByRecursion P (match_ordering r (x ∷ y ∷ saved) (x ∷ saved) (y ∷ keyed.put place_of place_cmp x saved))
      by_order Less rest = (own, all)
      by_order Equal rest = (own, all.1)
      by_order Greater rest = (all.0, rest)

  take_each : (n : ℕ) (saved : List SavedValue) → AllByRecursion P saved → AllByRecursion P (take n saved)
  take_each zero saved all = tt
  take_each (suc n) [] all = tt
  take_each (suc n) (x ∷ saved) all = (all.0, take_each n saved all.1)

  put_saved_each : (x : SavedValue) (saved : List SavedValue) → P x → AllByRecursion P saved
      → AllByRecursion P (put_saved x saved)
  put_saved_each x saved own all = take_each 64 (keyed.put place_of place_cmp x saved) (put_each x saved own all)

pub put_below : (x : SavedValue) (saved : List SavedValue) → IsTrue (is_saved_place x.place) → AreBelowRoot saved
    → AreBelowRoot (put_saved x saved)
put_below x saved is below = put_saved_each (λ (y : SavedValue). IsTrue (is_under [] y.place)) x saved
    (saved_below x.place is) below

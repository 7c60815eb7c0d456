-- A join where values of kids are known has no more slots, and no other holes.
use Rattle.std.proofs.Common.{◌≡◌, ℕ, ℤ, ◌≤◌, suc, List, [], ◌∷◌, length, map, Option, Some, None, refl, sym, ap, subst}
use Rattle.std.specs.List.{AllByRecursion}
use Rattle.kind_check.specs.Total.{HoleFits}
use Rattle.kind_check.specs.declared.turn.Slot.{Slot}
use Rattle.kind_check.specs.declared.turn.Slot.TheVariants.{Filled, Awaits}
use Rattle.kind_check.specs.declared.turn.Turn.{Turn}
use Rattle.kind_check.specs.declared.turn.Turn.TheVariants.{Sends, Joins}
use Rattle.sub_rules.specs.Resuming.{Known, nothing_known, slot_by, resumed, resumed_slot, resumed_slots}
use Rattle.sub_rules.specs.Turning.{SlotsFew}

-- where nothing is known, all is as it is
pub nothing_fills : (place : List ℕ) (slots : List Slot) → resumed_slots nothing_known place slots ≡ slots
nothing_fills place [] = refl
nothing_fills place (Filled v ∷ slots) = ap (λ (xs : List Slot). Filled v ∷ xs) (nothing_fills place slots)
nothing_fills place (Awaits kid ∷ slots) = ap (λ (xs : List Slot). Awaits kid ∷ xs) (nothing_fills place slots)

pub nothing_changes : (place : List ℕ) (turn : Turn) → resumed nothing_known place turn ≡ turn
nothing_changes place (Sends v) = refl
nothing_changes place (Joins t slots) = ap (Joins t) (nothing_fills place slots)

pub known_nothing : (known : Known) (place : List ℕ) (slots : List Slot) → known ≡ nothing_known
    → slots ≡ resumed_slots known place slots
known_nothing known place slots is = rw is (sym (nothing_fills place slots))

resumed_length : (known : Known) (place : List ℕ) (slots : List Slot)
    → length (resumed_slots known place slots) ≡ length slots
resumed_length known place [] = refl
resumed_length known place (slot ∷ slots) = ap suc (resumed_length known place slots)

resumed_holes : (known : Known) (place : List ℕ) (slots : List Slot) → AllByRecursion HoleFits slots
    → AllByRecursion HoleFits (resumed_slots known place slots)
resumed_holes known place [] all = tt
resumed_holes known place (Filled v ∷ slots) all = (tt, resumed_holes known place slots all.1)
resumed_holes known place (Awaits kid ∷ slots) all =
    (by_value (known (kid.hole ∷ place)), resumed_holes known place slots all.1)
  where
    by_value : (o : Option ℤ) → HoleFits (slot_by kid o)
    by_value None = all.0
    by_value (Some v) = tt

pub resumed_few : (known : Known) (place : List ℕ) (slots : List Slot) → SlotsFew slots
    → SlotsFew (resumed_slots known place slots)
resumed_few known place slots few = record {
  count = rw (resumed_length known place slots) few.count;
  holes = resumed_holes known place slots few.holes;
}

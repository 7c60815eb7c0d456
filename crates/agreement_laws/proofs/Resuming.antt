-- A join of which some slots are given the values that they receive.
use Rattle.std.proofs.Common.{◌≡◌, ℕ, ℤ, ◌+◌, zero, suc, List, [], ◌∷◌, map, length, Option, Some, None, refl, sym, ap, ◌∙◌}
use Rattle.std.specs.List.{slice_get}
use Rattle.task_tree.specs.declared.tree.Program.{Program}
use Rattle.kind_check.specs.declared.turn.Kid.{Kid}
use Rattle.kind_check.specs.declared.turn.Slot.{Slot}
use Rattle.kind_check.specs.declared.turn.Slot.TheVariants.{Filled, Awaits}
use Rattle.kind_check.specs.declared.turn.Turn.TheVariants.{Joins}
use Rattle.kind_check.specs.Turns.{given_of, turn_of}
use Rattle.serial_meaning.specs.Serial.{TaskValue, slot_value, serial}
use Rattle.serial_meaning.specs.Places.{task_at, value_at, slot_at, room}
use Rattle.serial_meaning.specs.Job.{JobOf}
use Rattle.serial_meaning.specs.Agrees.{SlotsAgree}
use Rattle.serial_meaning.proofs.FrameLaws.{call_of, kid_value}
use Rattle.sub_rules.specs.Resuming.{Known, slot_by, resumed_slot, resumed_slots}
use Rattle.agreement_laws.specs.Agreement.{KnownAgrees}

-- a slot stands for another: it awaits the same kid, or holds the value that it receives
abbrev pub SlotStands : TaskValue → Slot → Slot → Type 0
SlotStands task slot (Filled v) = slot_value task slot ≡ Some v
SlotStands task slot (Awaits kid) = slot ≡ Awaits kid

abbrev pub SlotsStand : TaskValue → List Slot → List Slot → Type 0
SlotsStand task [] [] = Unit {0}
SlotsStand task [] (x ∷ xs) = ⊥
SlotsStand task (slot ∷ slots) [] = ⊥
SlotsStand task (slot ∷ slots) (x ∷ xs) = SlotStands task slot x × SlotsStand task slots xs

pub stand_agree : (task : TaskValue) (slots xs : List Slot) → SlotsStand task slots xs
    → SlotsAgree task slots (map given_of xs)
stand_agree task [] [] stand = tt
stand_agree task [] (x ∷ xs) stand = absurd stand
stand_agree task (slot ∷ slots) [] stand = absurd stand
stand_agree task (slot ∷ slots) (Filled v ∷ xs) stand = (stand.0, stand_agree task slots xs stand.1)
stand_agree task (slot ∷ slots) (Awaits kid ∷ xs) stand = (tt, stand_agree task slots xs stand.1)

pub stand_length : (task : TaskValue) (slots xs : List Slot) → SlotsStand task slots xs → length xs ≡ length slots
stand_length task [] [] stand = refl
stand_length task [] (x ∷ xs) stand = absurd stand
stand_length task (slot ∷ slots) [] stand = absurd stand
stand_length task (slot ∷ slots) (x ∷ xs) stand = ap suc (stand_length task slots xs stand.1)

-- what awaits a kid does so in the join itself
pub stand_awaits : (task : TaskValue) (slots xs : List Slot) (j : ℕ) (kid : Kid) → SlotsStand task slots xs
    → slice_get xs j ≡ Some (Awaits kid) → slice_get slots j ≡ Some (Awaits kid)
stand_awaits task [] [] j kid stand at = cc
stand_awaits task [] (x ∷ xs) j kid stand at = absurd stand
stand_awaits task (slot ∷ slots) [] j kid stand at = cc
stand_awaits task (slot ∷ slots) (Filled v ∷ xs) zero kid stand at = let other : Filled v ≡ Awaits kid = cc in cc
stand_awaits task (slot ∷ slots) (Awaits k ∷ xs) zero kid stand at = let same : k ≡ kid =
    cc in let is : slot ≡ Awaits k = stand.0 in rw (is, same) refl
stand_awaits task (slot ∷ slots) (x ∷ xs) (suc j) kid stand at = stand_awaits task slots xs j kid stand.1 at

-- the slots of a join by what is known stand for its own
resumed_stand : (task : TaskValue) (known : Known) (place : List ℕ) (slots : List Slot)
    → ((j : ℕ) (kid : Kid) (v : ℤ) → slice_get slots j ≡ Some (Awaits kid) → known (kid.hole ∷ place) ≡ Some v
    → slot_value task (Awaits kid) ≡ Some v) → SlotsStand task slots (resumed_slots known place slots)
resumed_stand task known place [] right = tt
resumed_stand task known place (Filled v ∷ slots) right =
    (refl, resumed_stand task known place slots (λ j kid w at. right (suc j) kid w at))
resumed_stand task known place (Awaits kid ∷ slots) right = (
  by_value (known (kid.hole ∷ place)) (λ v is. right 0 kid v refl is),
  resumed_stand task known place slots (λ j k w at. right (suc j) k w at),
)
  where
    by_value : (o : Option ℤ) → ((v : ℤ) → o ≡ Some v → slot_value task (Awaits kid) ≡ Some v)
        → SlotStands task (Awaits kid) (slot_by kid o)
    by_value None is = refl
    by_value (Some v) is = is v refl

-- a known value of a kid is what its slot receives
known_received : (p : Program) (input : List ℤ) (q : List ℕ) (t : ℕ) (numbers : List ℤ) (s : ℕ) (slots : List Slot)
    (j : ℕ) (kid : Kid) (v : ℤ) → task_at p input q ≡ Some (call_of t numbers)
    → turn_of p t numbers ≡ Some (Joins s slots) → slice_get slots j ≡ Some (Awaits kid)
    → value_at p input (kid.hole ∷ q) ≡ Some v → slot_value (serial p (room (zero ∷ q))) (Awaits kid) ≡ Some v
known_received p input q t numbers s slots j kid v task turn at is =
    let slot : slot_at p input q j ≡ Some v = sym (kid_value p input q t numbers s slots j kid task turn at) ∙ is in
    rw (task, turn, at) at slot

pub known_stand : (job : JobOf) (known : Known) (q : List ℕ) (t : ℕ) (numbers : List ℤ) (s : ℕ) (slots : List Slot)
    → KnownAgrees job known → task_at job.program job.input q ≡ Some (call_of t numbers)
    → turn_of job.program t numbers ≡ Some (Joins s slots)
    → SlotsStand (serial job.program (room (zero ∷ q))) slots (resumed_slots known q slots)
known_stand job known q t numbers s slots agrees task turn =
    resumed_stand (serial job.program (room (zero ∷ q))) known q slots
    (λ j kid v at is. known_received job.program job.input q t numbers s slots j kid v task turn at
    (agrees (kid.hole ∷ q) v is))

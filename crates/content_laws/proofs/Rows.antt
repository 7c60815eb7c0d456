-- The slots of a frame as a row of a table.
use Rattle.std.proofs.Common.{◌≡◌, ◌≢◌, ℕ, ℤ, zero, suc, List, [], ◌∷◌, map, Option, Some, None, IsTrue, refl, ap}
use Rattle.std.specs.List.{slice_get, slice_set}
use Rattle.ids.specs.Slots.{numbers_in}
use Rattle.kind_check.specs.Turns.{given_of}
use Rattle.kind_check.specs.declared.turn.Slot.{Slot}
use Rattle.kind_check.specs.declared.turn.Slot.TheVariants.{Filled, Awaits}
use Rattle.serial_meaning.proofs.FrameLaws.{bound_at}
use Rattle.frames.specs.Frames.{is_vacant}
use Rattle.table_laws.specs.Content.{given, Full}
use Rattle.table_laws.specs.Meaning.{begun}
use Rattle.table_laws.specs.Program.{part_of}
use Rattle.content_laws.specs.Shown.{slot_of}

-- slots that are given numbers
pub given_row : (numbers : List ℤ) (j : ℕ) → slot_of (slice_get (map Some numbers) j) ≡ given numbers j
given_row [] j = refl
given_row (v ∷ numbers) zero = refl
given_row (v ∷ numbers) (suc j) = given_row numbers j

-- slots of which none is empty
pub full_row : (slots : List (Option ℤ)) (numbers : List ℤ) (j : ℕ) → numbers_in slots ≡ Some numbers
    → slot_of (slice_get slots j) ≡ given numbers j
full_row [] numbers j full = let none : [] ≡ numbers = cc in rw (← none) refl
full_row (None ∷ slots) numbers j full = cc
full_row (Some v ∷ slots) numbers zero full =
    let rest = bound_at (numbers_in slots) (λ (ns : List ℤ). Some (v ∷ ns)) numbers full in
    let all : v ∷ rest.first ≡ numbers = cc in
    rw (← all) refl
full_row (Some v ∷ slots) numbers (suc j) full =
    let rest = bound_at (numbers_in slots) (λ (ns : List ℤ). Some (v ∷ ns)) numbers full in
    let all : v ∷ rest.first ≡ numbers = cc in
    rw (← all) (full_row slots rest.first j rest.is)

-- the slots of a new successor
pub begun_row : (slots : List Slot) (j : ℕ) → slot_of (slice_get (map given_of slots) j) ≡ begun (map part_of slots) j
begun_row [] j = refl
begun_row (Filled v ∷ slots) zero = refl
begun_row (Awaits kid ∷ slots) zero = refl
begun_row (Filled v ∷ slots) (suc j) = begun_row slots j
begun_row (Awaits kid ∷ slots) (suc j) = begun_row slots j

-- a slot that was empty and is filled, and the others
pub filled_here : (slots : List (Option ℤ)) (j : ℕ) (v : ℤ) → IsTrue (is_vacant (slice_get slots j))
    → slot_of (slice_get (slice_set slots j (Some v)) j) ≡ Full v
filled_here [] j v empty = cc
filled_here (x ∷ xs) zero v empty = refl
filled_here (x ∷ xs) (suc j) v empty = filled_here xs j v empty

-- the others stay
pub filled_other : (slots : List (Option ℤ)) (i j : ℕ) (v : ℤ) → i ≢ j
    → slot_of (slice_get (slice_set slots j (Some v)) i) ≡ slot_of (slice_get slots i)
filled_other [] i j v other = refl
filled_other (x ∷ xs) zero zero v other = absurd (other refl)
filled_other (x ∷ xs) zero (suc j) v other = refl
filled_other (x ∷ xs) (suc i) zero v other = refl
filled_other (x ∷ xs) (suc i) (suc j) v other = filled_other xs i j v (λ same. other (ap suc same))

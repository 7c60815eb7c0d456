-- Two slots of a file, one behind the other, of which one is current.
use Rattle.std.specs.Prelude.{◌≡◌, ◌+◌, ◌<◌, ◌≤◌, ℕ, Bool, not, List, length, take, drop, get_or, nat_eq, if◌then◌else◌}

-- where a slot of a gate and n bytes begins, of two from this place on
abbrev pub place : ℕ → ℕ → Bool → ℕ
place base n second = if second then base + (1 + n) else base

-- its bytes
abbrev pub slot : ℕ → ℕ → Bool → List ℕ → List ℕ
slot base n second file = take (1 + n) (drop (place base n second) file)

-- whether a slot's gate reads as open
abbrev pub is_open : List ℕ → Bool
is_open slot = nat_eq (get_or slot 0 0) 165

abbrev pub IsOpen : List ℕ → Type 0
IsOpen slot = get_or slot 0 0 ≡ 165

-- what stands behind the gate
abbrev pub body : List ℕ → List ℕ
body slot = drop 1 slot

-- what a body says: a sequence and a record
abbrev pub Spelling : Type 0 → Type 1
Spelling R = List ℕ → ℕ → R → Type 0

-- the slot is open and has the record, and the other one is closed or older
pub record IsCurrent {R : Type 0} (Spells : Spelling R) (base n : ℕ) (file : List ℕ) (second : Bool) (sequence : ℕ) (r : R) : Type 0 where
  pub room : base + (1 + n) + (1 + n) ≤ length file
  pub gate : IsOpen (slot base n second file)
  pub content : Spells (body (slot base n second file)) sequence r
  pub other : IsOpen (slot base n (not second) file) → (m : ℕ) × (s : R) × Spells (body (slot base n (not second) file)) m s × (m < sequence)

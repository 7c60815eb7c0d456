-- What two slots hold, and which is the newest.
use Rattle.std.specs.Prelude.{◌≡◌, ◌<◌, ℕ, Bool, true, false, List, Option, Some, None}
use Rattle.checkpoint.specs.Pair.{IsOpen, Spelling, body}

-- what a slot holds
abbrev pub Holds : {R : Type 0} → Spelling R → List ℕ → Option (ℕ × R) → Type 0
Holds Spells slot None = ¬ IsOpen slot
Holds Spells slot (Some x) = IsOpen slot × Spells (body slot) x.0 x.1

-- the other slot holds nothing, or something older
abbrev pub IsOlder : {R : Type 0} → Option (ℕ × R) → ℕ → Bool → Type 0
IsOlder None sequence gate = gate ≡ false
IsOlder (Some x) sequence gate = (x.0 < sequence) × (gate ≡ true)

abbrev pub IsNewest : {R : Type 0} → Option (ℕ × R) → Option (ℕ × R) → Bool → ℕ → R → Bool → Type 0
IsNewest first second false sequence r gate = (first ≡ Some (sequence, r)) × IsOlder second sequence gate
IsNewest first second true sequence r gate = (second ≡ Some (sequence, r)) × IsOlder first sequence gate

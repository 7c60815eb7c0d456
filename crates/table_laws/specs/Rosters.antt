-- Rosters: those of one epoch grow, and who is lost is so by the open house's.
use Rattle.std.specs.Prelude.{◌≡◌, ℕ, ◌<◌, ◌≤◌, true, ◌⊎◌, Some, None}
use Rattle.table_laws.specs.Tables.{◌∈◌}
use Rattle.table_laws.specs.View.{Leave, Unlisted, Left, Roster, Joining, Member, Leaving, View}
use Rattle.table_laws.specs.Facts.{of_worker, SaidTo, Lost, Grows}

pub record Rosters (v : View) : Type 0 where
  -- a member, and one that departs, keeps a roster that a house had; who joins keeps none
  pub member_keeps : (i : ℕ) → v.mode i ≡ Member → v.roster i ≡ None → ⊥
  pub leaver_keeps : (i heir : ℕ) → v.mode i ≡ Leaving heir → v.roster i ≡ None → ⊥
  pub joins_without : (i : ℕ) → v.mode i ≡ Joining → v.roster i ≡ None
  pub kept_had : (i : ℕ) (r : Roster) → v.roster i ≡ Some r → r ∈ v.rosters
  -- members are workers with names that were used; the open house's roster is one that it had, or
  -- nobody is a member yet
  pub members : (r : Roster) (i : ℕ) → r ∈ v.rosters → (r.status i ≡ Unlisted → ⊥) → (i ∈ v.used) × (of_worker i ≡ true)
  pub house_had : (house : Roster) → v.house ≡ Some house → (house ∈ v.rosters) ⊎ ((i : ℕ) → house.status i ≡ Unlisted)
  -- who said Leave said it to the house of its roster; who is shown left said it to that house
  pub leave_epoch : (l : Leave) (r : Roster) → l ∈ v.leaves → v.roster l.from ≡ Some r → l.epoch ≡ r.epoch
  pub left_to : (r : Roster) (i heir : ℕ) → r ∈ v.rosters → r.status i ≡ Left heir → SaidTo v.leaves i r.epoch
  pub house_left : (house : Roster) (i heir : ℕ) → v.house ≡ Some house → house.status i ≡ Left heir → SaidTo v.leaves i house.epoch
  -- the open house's epoch is the last, and its roster the last of its epoch; each one grows from
  -- those before
  pub house_last : (house r : Roster) → v.house ≡ Some house → r ∈ v.rosters → r.epoch ≤ house.epoch
  pub house_grows : (house r : Roster) → v.house ≡ Some house → r ∈ v.rosters → r.epoch ≡ house.epoch → (r.version ≤ house.version) × Grows r house
  pub grows : (r s : Roster) → r ∈ v.rosters → s ∈ v.rosters → r.epoch ≡ s.epoch → r.version < s.version → Grows r s
  -- who is lost has a name that was used, and is lost to the open house
  pub lost_used : (i : ℕ) → i ∈ v.lost → i ∈ v.used
  pub lost_true : (house : Roster) (i : ℕ) → v.house ≡ Some house → i ∈ v.lost → Lost v house i

-- Epochs: the last one is recorded, and whatever names an epoch names none that is later.
use Rattle.std.specs.Prelude.{◌≡◌, ℕ, ◌≤◌, false, Some}
use Rattle.ids.specs.Names.{house_of}
use Rattle.table_laws.specs.Tables.{◌∈◌}
use Rattle.table_laws.specs.View.{Leave, Roster, View}
use Rattle.table_laws.specs.Facts.{of_worker}

pub record Epochs (v : View) : Type 0 where
  -- the open house is that of the recorded epoch
  pub house_now : (house : Roster) → v.house ≡ Some house → house.epoch ≡ v.epoch
  -- rosters that houses had and that nodes keep are of it or earlier ones; so are the houses to
  -- which Leaves went
  pub rosters_past : (r : Roster) → r ∈ v.rosters → r.epoch ≤ v.epoch
  pub kept_past : (i : ℕ) (r : Roster) → v.roster i ≡ Some r → r.epoch ≤ v.epoch
  pub leaves_past : (l : Leave) → l ∈ v.leaves → l.epoch ≤ v.epoch
  -- and so are the names of houses that were used
  pub names_past : (i : ℕ) → i ∈ v.used → of_worker i ≡ false → i ≤ house_of v.epoch
  -- the open house's name was used, and that of each house that had a roster
  pub house_used : (house : Roster) → v.house ≡ Some house → house_of house.epoch ∈ v.used
  pub rosters_used : (r : Roster) → r ∈ v.rosters → house_of r.epoch ∈ v.used

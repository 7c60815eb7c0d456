-- The root record, which the clearinghouse has.
use Rattle.std.specs.Prelude.{◌≡◌, ℕ, Some}
use Rattle.ids.specs.Names.{Grant}
use Rattle.table_laws.specs.Tables.{◌∈◌}
use Rattle.table_laws.specs.View.{House, View}

pub record Rooted (v : View) : Type 0 where
  -- the open house minted the root record's grant
  pub root_house : (k : Grant) → v.root ≡ Some k → v.mode k.minter ≡ House
  -- which isn't settled
  pub root_unsettled : (k : Grant) → v.root ≡ Some k → k ∈ v.settled → ⊥
  -- the open house isn't lost
  pub house_up : (i : ℕ) → v.mode i ≡ House → i ∈ v.lost → ⊥

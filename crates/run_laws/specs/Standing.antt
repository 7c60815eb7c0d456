-- In a world nobody waits for somebody who is gone.
use Rattle.std.specs.Prelude.{◌≡◌, ℕ, Some}
use Rattle.node_state.specs.Node.{NodeOf}
use Rattle.clearinghouse.specs.House.{HouseOf}
use Rattle.actor_laws.specs.standing.Lasting.{NodeLasts}
use Rattle.actor_laws.specs.standing.Root.{RootStands}
use Rattle.actor_laws.specs.standing.Standing.{NodeStands}
use Rattle.world_steps.specs.World.{WorldOf, node_in, open_house}

pub record WorldStands (w : WorldOf) : Type 0 where
  -- by its own roster no member waits for somebody who is gone: the host of what it holds, the
  -- holder of a record of it, or the victim of its request
  pub waits : (a : ℕ) (n : NodeOf) → node_in a w.nodes ≡ Some n → NodeStands n
  -- who goes on is live by its own roster, and a leaver that holds something has a live heir
  pub lasts : (a : ℕ) (n : NodeOf) → node_in a w.nodes ≡ Some n → NodeLasts n
  -- and by the clearinghouse's members the holder of the root's grant is live
  pub root : (h : HouseOf) → open_house w.house ≡ Some h → RootStands h

-- What a world has agrees with the serial meaning, by value.
use Rattle.std.specs.Prelude.{◌≡◌, ℕ, Some}
use Rattle.serial_meaning.specs.Job.{JobOf}
use Rattle.agreement_laws.specs.Agreement.{IsReceived}
use Rattle.clearinghouse.specs.House.{State, Open, Stopped}
use Rattle.node_state.specs.Node.{NodeOf}
use Rattle.node_steps.specs.declared.parts.Fill.{Fill}
use Rattle.table_laws.specs.Tables.{◌∈◌}
use Rattle.actor_laws.specs.actor_agreement.Values as actor
use Rattle.actor_laws.specs.actor_agreement.Values.{AllRight, NodeIsRight}
use Rattle.world_steps.specs.Safe.{filling_of}
use Rattle.world_steps.specs.World.{Down, HouseAt, IsUp, WorldOf, node_in}

-- the last answers of an open clearinghouse agree, and the values that it has saved
abbrev pub StateIsRight : JobOf → State → Type 0
StateIsRight job (Open h) = actor.HouseIsRight job h
StateIsRight job (Stopped s) = Unit {0}

abbrev pub HouseIsRight : JobOf → HouseAt → Type 0
HouseIsRight job Down = Unit {0}
HouseIsRight job (IsUp state) = StateIsRight job state

-- each node that is up agrees, the clearinghouse does, what every packet gives away, and each value
-- that was put into a slot
pub record WorldIsRight (job : JobOf) (w : WorldOf) : Type 0 where
  pub nodes : (a : ℕ) (n : NodeOf) → node_in a w.nodes ≡ Some n → NodeIsRight job n
  pub house : HouseIsRight job w.house
  pub net : AllRight job w.net
  pub fills : (f : Fill) → f ∈ w.fills → IsReceived job (filling_of f)

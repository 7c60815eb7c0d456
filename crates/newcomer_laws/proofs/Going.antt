-- What one event leads to that is carried out: a call of a node, and a packet that is delivered to
-- the clearinghouse.
use Rattle.std.proofs.Common.{◌≡◌, ◌+◌, ℕ, List, [], ◌∷◌, ◌++◌, length, slice_get, Option, Some, refl, ap, subst, ◌∙◌, arith, length-append}
use Rattle.codec.specs.Table.{PacketOf}
use Rattle.level_deques.proofs.Lists.{get_second}
use Rattle.serial_meaning.specs.Job.{JobOf}
use Rattle.clearinghouse.specs.Cases as house_cases
use Rattle.clearinghouse.specs.House.{HouseOf, Open, Stopped}
use Rattle.clearinghouse.specs.Steps as house
use Rattle.node_state.specs.Node.{NodeOf}
use Rattle.node_steps.specs.Cases.{Candidate}
use Rattle.node_steps.specs.Steps.{StepOf}
use Rattle.event_script.specs.declared.event.Event.TheVariants.{AtHouse, AtNode}
use Rattle.event_script.specs.declared.event.HouseEvent.TheVariants as at_house
use Rattle.event_script.specs.declared.event.NodeEvent.{NodeEvent}
use Rattle.table_laws.proofs.Lists.{some_same}
use Rattle.world_steps.specs.Answers.{StepResult, stepped, with_some}
use Rattle.world_steps.specs.Houses.{Ends}
use Rattle.world_steps.specs.Nodes.{at_node, comes}
use Rattle.world_steps.specs.Steps.{CarriedOut, HouseEnds}
use Rattle.world_steps.specs.World.{Down, HouseAt, IsUp, WorldOf, node_in, open_house}
use Rattle.run_laws.proofs.Places.{put_here}

-- the packet that was sent last
pub sent_last : (net : List PacketOf) (p : PacketOf) (k : ℕ) → length net ≡ k → slice_get (net ++ p ∷ []) k ≡ Some p
sent_last net p k long = get_second net (p ∷ []) k 0 (omega (arith, long))

pub one_more : (net : List PacketOf) (p : PacketOf) (k : ℕ) → length net ≡ k → length (net ++ p ∷ []) ≡ k + 1
one_more net p k long = let all = length-append net (p ∷ []) in omega (arith, all, long)

-- a step of the node at a place
pub record NodeGoes (a : ℕ) (s : StepOf) (w u : WorldOf) : Type 0 where
  pub house : u.house ≡ w.house
  pub node : node_in a u.nodes ≡ Some s.after
  pub net : u.net ≡ w.net ++ s.sent

pub went : (a : ℕ) (s : StepOf) (w : WorldOf) (o : StepResult) → o ≡ stepped a s w → NodeGoes a s w o.world
went a s w o is = record {
  house = ap (λ (z : StepResult). z.world.house) is;
  node = ap (λ (z : StepResult). node_in a z.world.nodes) is ∙ put_here a s.after w.nodes;
  net = ap (λ (z : StepResult). z.world.net) is;
}

pub node_goes : (job : JobOf) (a : ℕ) (e : NodeEvent) (n : NodeOf) (s : StepOf) (w : WorldOf)
    → node_in a w.nodes ≡ Some n → ((choice : Option Candidate) → at_node job choice a e n w ≡ stepped a s w)
    → (o : StepResult) → CarriedOut job (AtNode a e) w o → NodeGoes a s w o.world
unfolding with_some
node_goes job a e n s w up does o over =
    let first : comes job over.0 a e w ≡ at_node job over.0 a e n w = rw up refl in
    went a s w o (over.2 ∙ first ∙ does over.0)

-- a step of the clearinghouse
pub record HouseGoes (s : house.HouseStepOf) (w u : WorldOf) : Type 0 where
  pub house : open_house u.house ≡ Some s.after
  pub nodes : u.nodes ≡ w.nodes
  pub net : u.net ≡ w.net ++ s.sent

pub house_goes : (job : JobOf) (i : ℕ) (p : PacketOf) (h : HouseOf) (s : house.HouseStepOf) (w : WorldOf)
    → slice_get w.net i ≡ Some p → open_house w.house ≡ Some h → house_cases.on_packet job p h ≡ house.Does s
    → (o : StepResult) → CarriedOut job (AtHouse (at_house.Deliver i)) w o → HouseGoes s w o.world
house_goes job i p h s w sent open_now answer o over =
    let end : Ends job h (house.Does s) w o = by_house w.house open_now over in
    record {
      house = ap (λ (z : StepResult). open_house z.world.house) end.2;
      nodes = ap (λ (z : StepResult). z.world.nodes) end.2;
      net = ap (λ (z : StepResult). z.world.net) end.2;
    }
  where
    by_house : (y : HouseAt) → open_house y ≡ Some h → HouseEnds job (at_house.Deliver i) y w o
        → Ends job h (house.Does s) w o
    by_house Down e ends = cc
    by_house (IsUp (Stopped why)) e ends = cc
    by_house (IsUp (Open k)) e ends =
        let one : k ≡ h = some_same e in
        let first : Ends job k (house_cases.on_packet job p k) w o = rw sent at ends in
        let done : Ends job h (house_cases.on_packet job p h) w o =
        subst (λ (z : HouseOf). Ends job z (house_cases.on_packet job p z) w o) one first in
        subst (λ (z : house.HouseAnswer). Ends job h z w o) answer done

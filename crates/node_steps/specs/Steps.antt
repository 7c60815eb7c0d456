-- What a call of a node leads to.
use Rattle.std.specs.Prelude.{List, [], ◌∷◌, ◌++◌, Option, None, Some}
use Rattle.ids.specs.Names.{Grant}
use Rattle.codec.specs.Table.{PacketOf}
use Rattle.sub_rules.specs.declared.change.Filling.{Filling}
use Rattle.subcomputation.specs.declared.sub.ReadiedOf.{ReadiedOf}
use Rattle.node_state.specs.Node.{NodeOf}
use Rattle.node_steps.specs.declared.error.NodeError.{NodeError}
use Rattle.node_steps.specs.declared.parts.Fill.{Fill}

-- a value that a change put into a slot, in the subcomputation of a grant
abbrev pub fill_of : Grant → Filling → Fill
fill_of g f = record { grant = g; frame = f.frame; slot = f.slot; place = f.place; value = f.value }

abbrev pub fills_of : Grant → Option Filling → List Fill
fills_of g None = []
fills_of g (Some f) = fill_of g f ∷ []

-- what a step leads to: the node after it, the packets that it sends and the values that it puts
-- into slots, in their order, and the frames that became ready, in the order in which they are
-- posted
pub record StepOf : Type 0 where
  pub after : NodeOf
  pub sent : List PacketOf
  pub fills : List Fill
  pub ready : List ReadiedOf

-- nothing but packets, and a node after it
abbrev pub sends : List PacketOf → NodeOf → StepOf
sends sent n = record { after = n; sent = sent; fills = []; ready = [] }

abbrev pub quiet : NodeOf → StepOf
quiet n = sends [] n

infixl 10 ◌then◌
-- one step, and then another
abbrev pub ◌then◌ : StepOf → (NodeOf → StepOf) → StepOf
s then f = let t = f s.after in record { after = t.after; sent = s.sent ++ t.sent; fills = s.fills ++ t.fills; ready = s.ready ++ t.ready }

-- a step with what is there, else none
unfoldable pub for_some : {A : Type 0} → Option A → (A → NodeOf → StepOf) → NodeOf → StepOf
for_some None f n = quiet n
for_some (Some a) f n = f a n

-- what is answered: a packet is ignored, and nothing changes; a call is refused, and nothing
-- changes; a step; or a packet is ignored, and what was kept of it goes
pub data Answer : Type 0 where
  Ignored : Answer
  Refused : NodeError → Answer
  Does : StepOf → Answer
  Forgets : NodeOf → Answer

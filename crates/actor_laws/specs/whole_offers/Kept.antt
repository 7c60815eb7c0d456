-- What stays true of each node and of all whole packets: each grant and hop has one Offer, what a
-- leaving node holds is offered as it is, last answers are no Offers, and parts came in pieces that
-- were sent.
use Rattle.std.specs.Prelude.{◌≡◌, ◌++◌, ℕ, List}
use Rattle.codec.specs.Pieces.{cut_all}
use Rattle.codec.specs.Table.{PacketOf}
use Rattle.codec.specs.declared.body.Roster.{Roster}
use Rattle.departure.specs.Offers.{offer}
use Rattle.steal_protocol.specs.declared.replies.Reply.{Reply}
use Rattle.subcomputation.specs.Subs.{SubOf}
use Rattle.node_state.specs.Node.{NodeOf}
use Rattle.node_state.specs.declared.parts.State.TheVariants.{Leaving}
use Rattle.node_steps.specs.Steps.{StepOf, Answer, Ignored, Refused, Does, Forgets}
use Rattle.table_laws.specs.Tables.{◌∈◌}
use Rattle.actor_laws.specs.whole_offers.Gathered.{AllCameIn}
use Rattle.actor_laws.specs.whole_offers.Plain.{IsPlain}
use Rattle.actor_laws.specs.whole_offers.Whole.{OneOffer}

pub record NodeKept (job : ℕ) (wholes : List PacketOf) (n : NodeOf) : Type 0 where
  pub frozen : (r : Roster) (heir : ℕ) (x : SubOf) → n.state ≡ Leaving r heir → x ∈ n.subs → offer job n.incarnation heir x ∈ wholes
  pub replies : (r : Reply) → r ∈ n.replies → IsPlain r.packet
  pub parts : AllCameIn (cut_all wholes) job n

-- after a step, of the whole packets with those that it sends
pub record StepKept (job : ℕ) (wholes : List PacketOf) (s : StepOf) : Type 0 where
  pub one : OneOffer (wholes ++ s.sent)
  pub node : NodeKept job (wholes ++ s.sent) s.after

abbrev pub AnswerKept : ℕ → List PacketOf → Answer → Type 0
AnswerKept job wholes Ignored = Unit {0}
AnswerKept job wholes (Refused e) = Unit {0}
AnswerKept job wholes (Does s) = StepKept job wholes s
AnswerKept job wholes (Forgets n) = NodeKept job wholes n

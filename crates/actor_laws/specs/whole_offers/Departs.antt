-- Steps of a node that send its own Offers: all that it holds, to its heir.
use Rattle.std.specs.Prelude.{◌≡◌, ◌⊎◌, ℕ, []}
use Rattle.codec.specs.Table.{PacketOf}
use Rattle.codec.specs.declared.body.Roster.{Roster}
use Rattle.departure.specs.Offers.{offer}
use Rattle.steal_protocol.specs.declared.replies.Reply.{Reply}
use Rattle.subcomputation.specs.Subs.{SubOf}
use Rattle.node_state.specs.Node.{NodeOf}
use Rattle.node_state.specs.declared.parts.State.TheVariants.{Member, Leaving}
use Rattle.node_steps.specs.Steps.{StepOf, Answer, Ignored, Refused, Does, Forgets}
use Rattle.table_laws.specs.Tables.{◌∈◌}
use Rattle.actor_laws.specs.whole_offers.Plain.{IsPlain}

-- p is the Offer of what a node holds, which leaves
pub record IsOwnOffer (job : ℕ) (n : NodeOf) (p : PacketOf) : Type 0 where
  pub roster : Roster
  pub heir : ℕ
  pub sub : SubOf
  pub leaves : n.state ≡ Leaving roster heir
  pub held : sub ∈ n.subs
  pub is : p ≡ offer job n.incarnation heir sub

-- no other Offers than those of what it holds after the step, and that it held before
pub record SendsOwn (job : ℕ) (n : NodeOf) (s : StepOf) : Type 0 where
  pub name : s.after.incarnation ≡ n.incarnation
  pub subs : s.after.subs ≡ n.subs
  pub replies : (r : Reply) → r ∈ s.after.replies → IsPlain r.packet
  pub sent : (p : PacketOf) → p ∈ s.sent → IsPlain p ⊎ IsOwnOffer job s.after p

-- a member leaves, offers all, and keeps no parts
pub record Departs (job : ℕ) (n : NodeOf) (s : StepOf) : Type 0 where
  pub own : SendsOwn job n s
  pub roster : Roster
  pub member : n.state ≡ Member roster
  pub all : (r : Roster) (heir : ℕ) (x : SubOf) → s.after.state ≡ Leaving r heir → x ∈ s.after.subs → offer job n.incarnation heir x ∈ s.sent
  pub parts : s.after.assemblies ≡ []

abbrev pub AnswerDeparts : ℕ → NodeOf → Answer → Type 0
AnswerDeparts job n Ignored = Unit {0}
AnswerDeparts job n (Refused e) = Unit {0}
AnswerDeparts job n (Does s) = Departs job n s
AnswerDeparts job n (Forgets k) = ⊥

-- what is sent again leaves the node as it is
abbrev pub AnswerSendsAgain : ℕ → NodeOf → Answer → Type 0
AnswerSendsAgain job n Ignored = Unit {0}
AnswerSendsAgain job n (Refused e) = Unit {0}
AnswerSendsAgain job n (Does s) = (s.after ≡ n) × SendsOwn job n s
AnswerSendsAgain job n (Forgets k) = ⊥

-- Steps of a node that send no Offer: what it holds frozen after them it held so before.
use Rattle.std.specs.Prelude.{◌≡◌, ◌⊎◌, ℕ, true, List, None}
use Rattle.codec.specs.Table.{PacketOf, is_short}
use Rattle.codec.specs.declared.body.Body.{Body}
use Rattle.codec.specs.declared.body.Body.TheVariants as body
use Rattle.codec.specs.declared.body.Piece.{Piece}
use Rattle.codec.specs.declared.body.Roster.{Roster}
use Rattle.steal_protocol.specs.declared.replies.Reply.{Reply}
use Rattle.subcomputation.specs.Subs.{SubOf}
use Rattle.node_state.specs.Assemblies.{AssemblyOf, assembly_in}
use Rattle.node_state.specs.Node.{NodeOf}
use Rattle.node_state.specs.declared.parts.State.TheVariants.{Leaving}
use Rattle.node_steps.specs.Cases.{Kept, collects}
use Rattle.node_steps.specs.Steps.{StepOf, Answer, Ignored, Refused, Does, Forgets}
use Rattle.table_laws.specs.Tables.{◌∈◌}

abbrev pub IsPlain : PacketOf → Type 0
IsPlain p = is_short p.body ≡ true

abbrev pub ArePlain : List PacketOf → Type 0
ArePlain packets = (p : PacketOf) → p ∈ packets → IsPlain p

-- its last answers are no Offers, and where it leaves it waits for nothing
pub record IsPlainNode (n : NodeOf) : Type 0 where
  pub replies : (r : Reply) → r ∈ n.replies → IsPlain r.packet
  pub idle : (r : Roster) (heir : ℕ) → n.state ≡ Leaving r heir → n.asker.pending ≡ None

-- what k holds frozen for an heir n held so
abbrev pub StaysFrozen : NodeOf → NodeOf → Type 0
StaysFrozen n k = (r : Roster) (heir : ℕ) (x : SubOf) → k.state ≡ Leaving r heir → x ∈ k.subs → (q : Roster) × (n.state ≡ Leaving q heir) × (x ∈ n.subs)

-- the parts of Offers that k keeps n kept too, but for such a one
abbrev pub KeepsParts : (AssemblyOf → Type 0) → NodeOf → NodeOf → Type 0
KeepsParts New n k = (x : AssemblyOf) → x ∈ k.assemblies → (x ∈ n.assemblies) ⊎ New x

pub record SendsNoOffer (New : AssemblyOf → Type 0) (n : NodeOf) (s : StepOf) : Type 0 where
  pub name : s.after.incarnation ≡ n.incarnation
  pub frozen : StaysFrozen n s.after
  pub replies : (r : Reply) → r ∈ s.after.replies → IsPlain r.packet
  pub parts : KeepsParts New n s.after
  pub sent : ArePlain s.sent

-- where what was kept of an Offer goes, all else stays
pub record ForgetsParts (n k : NodeOf) : Type 0 where
  pub parts : (x : AssemblyOf) → x ∈ k.assemblies → x ∈ n.assemblies
  pub rest : k ≡ record n { assemblies = k.assemblies }

abbrev pub NoOffers : (AssemblyOf → Type 0) → NodeOf → Answer → Type 0
NoOffers New n Ignored = Unit {0}
NoOffers New n (Refused e) = Unit {0}
NoOffers New n (Does s) = SendsNoOffer New n s
NoOffers New n (Forgets k) = ForgetsParts n k

-- no parts are new
abbrev pub NoneNew : AssemblyOf → Type 0
NoneNew x = ⊥

-- parts that a node keeps by a packet that says this, a Piece
pub record IsNewBy (b : Body) (n : NodeOf) (x : AssemblyOf) : Type 0 where
  pub piece : Piece
  pub says : b ≡ body.Piece piece
  pub kept : collects piece (assembly_in piece.grant n.assemblies) ≡ Kept x

-- By its own roster no member waits for somebody who is gone.
use Rattle.std.specs.Prelude.{◌≡◌, ℕ, Bool, true, false, List, [], Option, None, Some}
use Rattle.ids.specs.Members.{status_in}
use Rattle.ids.specs.Names.{Grant, is_worker}
use Rattle.ids.specs.declared.member.Member.{Member as Listed}
use Rattle.ids.specs.declared.member.Status.{Status}
use Rattle.ids.specs.declared.member.Status.TheVariants.{Live, Dead, Left}
use Rattle.ids.specs.declared.work.Record.{Record}
use Rattle.codec.specs.Pieces.{long_reading}
use Rattle.codec.specs.declared.body.Body.{Body}
use Rattle.codec.specs.declared.body.Body.TheVariants as body
use Rattle.codec.specs.declared.body.Offer.{Offer as OfferBody}
use Rattle.departure.specs.Offers.{offered}
use Rattle.serial_meaning.specs.Job.{JobOf}
use Rattle.sub_rules.specs.declared.content.Content.{Content}
use Rattle.steal_protocol.specs.declared.asker.Request.{Request}
use Rattle.victim_records.specs.Records.{record_in}
use Rattle.subcomputation.specs.Subs.{SubOf, put_sub, sub_in}
use Rattle.node_state.specs.Assemblies.{assembly_in}
use Rattle.node_state.specs.Node.{NodeOf}
use Rattle.node_state.specs.declared.parts.State.{State}
use Rattle.node_state.specs.declared.parts.State.TheVariants.{Joining, Member, Leaving, Ended}
use Rattle.node_steps.specs.Cases.{Whole, collects, said_by}
use Rattle.node_steps.specs.Steps.{Answer, Ignored, Refused, Does, Forgets}

-- a worker that is shown dead or left is gone
abbrev pub is_gone : Option Status → Bool
is_gone None = false
is_gone (Some Live) = false
is_gone (Some Dead) = true
is_gone (Some (Left heir)) = true

-- a worker isn't shown gone; the clearinghouse never is
abbrev pub Stands : List Listed → ℕ → Type 0
Stands members i = is_worker i ≡ true → is_gone (status_in i members) ≡ false

-- whom a subcomputation waits for stands: its host, and whoever holds a record of it
pub record ContentStands (members : List Listed) (c : Content) : Type 0 where
  pub host : Stands members c.parent
  pub holders : (k : Grant) (r : Record) → record_in k c.records ≡ Some r → Stands members r.holder

abbrev pub AllStand : List Listed → List SubOf → Type 0
AllStand members subs = (g : Grant) (s : SubOf) → sub_in g subs ≡ Some s → ContentStands members s.content

-- and the victim that was asked
abbrev pub VictimStands : List Listed → Option Request → Type 0
VictimStands members None = Unit {0}
VictimStands members (Some q) = Stands members q.victim

pub record MemberStands (members : List Listed) (n : NodeOf) : Type 0 where
  pub subs : AllStand members n.subs
  pub victim : VictimStands members n.asker.pending

-- a node that joins holds and awaits nothing yet
pub record IsFresh (n : NodeOf) : Type 0 where
  pub subs : n.subs ≡ []
  pub pending : n.asker.pending ≡ None

-- of a leaver, which gives all away, and of a node that has ended nothing is asked
abbrev pub StandsAt : NodeOf → State → Type 0
StandsAt n Joining = IsFresh n
StandsAt n (Member r) = MemberStands r.members n
StandsAt n (Leaving r heir) = Unit {0}
StandsAt n Ended = Unit {0}

abbrev pub NodeStands : NodeOf → Type 0
NodeStands n = StandsAt n n.state

-- so it is behind an answer
abbrev pub AnswerStands : Answer → Type 0
AnswerStands Ignored = Unit {0}
AnswerStands (Refused e) = Unit {0}
AnswerStands (Does s) = NodeStands s.after
AnswerStands (Forgets n) = NodeStands n

-- no two subcomputations have a record of one grant
abbrev pub HaveOneHost : List SubOf → Type 0
HaveOneHost subs = (g h k : Grant) (s t : SubOf) (x y : Record)
    → sub_in g subs ≡ Some s → sub_in h subs ≡ Some t → record_in k s.content.records ≡ Some x → record_in k t.content.records ≡ Some y → g ≡ h

-- nor where an Offer is taken, that comes whole or with the last of its pieces
abbrev pub BodyIsApart : JobOf → NodeOf → Body → Type 0
BodyIsApart job n (body.Offer o) = HaveOneHost (put_sub (offered o) n.subs)
BodyIsApart job n (body.Piece b) = (bytes : List ℕ) (o : OfferBody)
    → collects b (assembly_in b.grant n.assemblies) ≡ Whole bytes → said_by job b n (long_reading bytes) ≡ Some o → HaveOneHost (put_sub (offered o) n.subs)
BodyIsApart job n other = HaveOneHost n.subs

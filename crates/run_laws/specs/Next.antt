-- What is done in a world with work and with outcomes that come now.
use Rattle.std.specs.Prelude.{◌≡◌, ◌⊎◌, ◌+◌, ◌-◌, ◌<◌, ◌^◌, ℕ, true, List, [], Option, Some, None, slice_get}
use Rattle.ids.specs.Members.{is_live}
use Rattle.ids.specs.Named.{item_in}
use Rattle.ids.specs.Names.{Grant}
use Rattle.ids.specs.declared.outcome.Outcome.{Outcome}
use Rattle.ids.specs.declared.outcome.Progress.TheVariants.{Finished}
use Rattle.ids.specs.declared.work.Task.{Task}
use Rattle.codec.specs.Pieces.{cut}
use Rattle.codec.specs.Table.{PacketOf}
use Rattle.codec.specs.declared.body.Body.{Body}
use Rattle.codec.specs.declared.body.Body.TheVariants as body
use Rattle.codec.specs.declared.body.Roster.{Roster}
use Rattle.codec.specs.declared.body.Steal.{Steal}
use Rattle.codec.specs.declared.body.TaskResult.{TaskResult}
use Rattle.departure.specs.Offers.{offer, offer_of}
use Rattle.serial_meaning.specs.Job.{JobOf}
use Rattle.steal_protocol.specs.Replies.{reply_in}
use Rattle.steal_protocol.specs.declared.asker.Request.{Request}
use Rattle.steal_protocol.specs.declared.replies.Reply.{Reply}
use Rattle.sub_rules.specs.Content.{Ready, ready_in}
use Rattle.subcomputation.specs.Subs.{SubOf, sub_in}
use Rattle.node_state.specs.Node.{NodeOf, hop_in}
use Rattle.node_state.specs.declared.parts.State.{State}
use Rattle.node_state.specs.declared.parts.State.TheVariants.{Joining, Member, Leaving, Ended}
use Rattle.node_steps.specs.Cases.{is_above}
use Rattle.node_steps.specs.Moves.{steal}
use Rattle.node_steps.specs.declared.error.NodeError.TheVariants as error
use Rattle.clearinghouse.specs.House.{HouseOf, members_of, name_of, name_of_enlisted}
use Rattle.clearinghouse.specs.declared.parts.Enlisted.{Enlisted}
use Rattle.clearinghouse.specs.declared.parts.RootGrant.{RootGrant}
use Rattle.event_script.specs.declared.event.Event.{Event}
use Rattle.event_script.specs.declared.event.Event.TheVariants.{AtNode, AtHouse}
use Rattle.event_script.specs.declared.event.HouseEvent.TheVariants as at_house
use Rattle.event_script.specs.declared.event.NodeEvent.TheVariants.{Deliver, Exec, Resend}
use Rattle.table_laws.specs.Tables.{◌∈◌}
use Rattle.world_steps.specs.Answers.{WorldAnswer, Unfit, Ignored, Refused, Did, House, StepResult}
use Rattle.world_steps.specs.Lost.{IsAwaited}
use Rattle.world_steps.specs.Steps.{CarriedOut, Step}
use Rattle.world_steps.specs.World.{Holder, WorldOf, node_in, open_house, recorded}
use Rattle.actor_laws.specs.next.Taking.{NoFrame, NoRecord, TakesOffer}

-- packet i is delivered to the node at place a; or the node carries out a frame of a grant, or
-- sends again what isn't answered
abbrev pub delivery : ℕ → ℕ → Event
delivery a i = AtNode a (Deliver i)

abbrev pub turn : ℕ → Grant → ℕ → Event
turn a g f = AtNode a (Exec (record { minter = g.minter; number = g.number; frame = f }))

abbrev pub resend : ℕ → Event
resend a = AtNode a Resend

-- what was sent in an event
abbrev pub sent_in : WorldAnswer → List PacketOf
sent_in Unfit = []
sent_in Ignored = []
sent_in (Refused e) = []
sent_in (Did sent fills) = sent
sent_in (House e sent outcome) = sent

-- a frame is gone from what the node at a place holds of a grant; or the numbers of frames are
-- spent
abbrev pub IsGoneAt : StepResult → ℕ → Grant → ℕ → Type 0
IsGoneAt o a g f = (o.answer ≡ Refused error.Spent) ⊎ ((n : NodeOf) → node_in a o.world.nodes ≡ Some n → NoFrame g f n.subs)

-- the node at a place has no open record of a grant
abbrev pub NoRecordAt : WorldOf → ℕ → Grant → Type 0
NoRecordAt w a g = (n : NodeOf) → node_in a w.nodes ≡ Some n → NoRecord g n.subs

-- the Result of an outcome of what a node holds
abbrev pub result_of : JobOf → NodeOf → SubOf → Outcome → PacketOf
result_of job n s o = record { job = job.number; to = s.content.parent; body = body.Result (record { from = n.incarnation; grant = s.grant; outcome = o }) }

-- packet number i is of the job and went to somebody, and says this
pub record IsPacket (job : JobOf) (w : WorldOf) (i to : ℕ) (x : Body) : Type 0 where
  pub packet : PacketOf
  pub sent : slice_get w.net i ≡ Some packet
  pub job_is : packet.job ≡ job.number
  pub to_is : packet.to ≡ to
  pub says : packet.body ≡ x

-- a member has this roster, and so does a leaver
abbrev pub HasRoster : State → Roster → Type 0
HasRoster Joining r = ⊥
HasRoster (Member q) r = q ≡ r
HasRoster (Leaving q heir) r = q ≡ r
HasRoster Ended r = ⊥

-- there is a packet such that, wherever it is delivered to the node at place a, that node holds the
-- grant then
pub record BringsWork (job : JobOf) (w : WorldOf) (a : ℕ) (g : Grant) : Type 0 where
  pub number : ℕ
  pub packet : PacketOf
  pub sent : slice_get w.net number ≡ Some packet
  pub taken : (o : StepResult) → Step job (delivery a number) w o → Holder o.world a g

-- what a node holds that leaves was offered to its heir, as one packet or in all its pieces; and
-- the heir, where it is a member and hasn't taken that hop yet, takes the Offer if it comes now
pub record IsOffered (job : JobOf) (w : WorldOf) (n : NodeOf) (heir : ℕ) (s : SubOf) : Type 0 where
  pub sent : (p : PacketOf) → p ∈ cut (offer job.number n.incarnation heir s) → p ∈ w.net
  pub taken : (b : ℕ) (m : NodeOf) (r : Roster) → node_in b w.nodes ≡ Some m → m.incarnation ≡ heir → m.state ≡ Member r → is_above (s.hop + 1) (hop_in s.grant m.seen) ≡ true → TakesOffer job r (offer_of n.incarnation s) m

-- these are told: a pending request, and what is finished
pub record MemberTells (job : JobOf) (n : NodeOf) (sent : List PacketOf) : Type 0 where
  pub request : (q : Request) → n.asker.pending ≡ Some q → steal job n.incarnation q ∈ sent
  pub results : (g : Grant) (s : SubOf) (o : Outcome) → sub_in g n.subs ≡ Some s → s.content.progress ≡ Finished o → result_of job n s o ∈ sent

-- all that is held is offered
abbrev pub LeaverTells : JobOf → NodeOf → ℕ → List PacketOf → Type 0
LeaverTells job n heir sent = (g : Grant) (s : SubOf) (p : PacketOf) → sub_in g n.subs ≡ Some s → p ∈ cut (offer job.number n.incarnation heir s) → p ∈ sent

-- a worker is on a clearinghouse's list, and at this moment it was silent for longer than a member
-- may be
pub record IsSilent (h : HouseOf) (i now : ℕ) : Type 0 where
  pub enlisted : Enlisted
  pub listed : item_in name_of_enlisted (i, 0) h.workers ≡ Some enlisted
  pub long : h.limit < now - enlisted.heard

-- the clearinghouse of a world is open, with this outcome, and the root isn't granted
pub record IsRootFree (outcome : Option Outcome) (w : WorldOf) : Type 0 where
  pub house : HouseOf
  pub open_now : open_house w.house ≡ Some house
  pub same : house.outcome ≡ outcome
  pub root : house.root ≡ None

-- a request is newer than the last one of its thief that the clearinghouse answered
abbrev pub IsNewer : Steal → HouseOf → Type 0
IsNewer b h = (reply : Reply) → reply_in b.from h.replies ≡ Some reply → reply.seq < b.seq

-- the root was granted to the thief of a request, and its Grant was sent
pub record IsRootGranted (job : JobOf) (b : Steal) (o : StepResult) : Type 0 where
  pub house : HouseOf
  pub open_now : open_house o.world.house ≡ Some house
  pub grant : Grant
  pub root : house.root ≡ Some (record { grant = grant; holder = b.from })
  pub task : Task
  pub sent : record { job = job.number; to = b.from; body = body.Grant (record { seq = b.seq; grant = grant; task = task; saved = house.saved }) } ∈ sent_in o.answer

pub record NextSteps (job : JobOf) (w : WorldOf) : Type 0 where
  -- a ready frame of what is held live is carried out by its turn
  pub frames : (a : ℕ) (g : Grant) (f : ℕ) (x : Ready) → (at : Holder w a g) → ready_in f at.sub.content ≡ Some x → (o : StepResult) → Step job (turn a g f) w o → IsGoneAt o a g f
  -- a grant that a node awaits was sent to it, and is taken if it comes now
  pub grants : (g : Grant) → (x : IsAwaited w g) → BringsWork job w x.at g
  -- what a leaver holds was offered, and a member heir takes it if it comes now
  pub offers : (a : ℕ) (n : NodeOf) (r : Roster) (heir : ℕ) (g : Grant) (s : SubOf) → node_in a w.nodes ≡ Some n → n.state ≡ Leaving r heir → sub_in g n.subs ≡ Some s → IsOffered job w n heir s
  -- a Result that comes now to a member closes the record of its grant, if it has one; and that of
  -- the root's grant, to the clearinghouse, is recorded where a commit is left and no call of the
  -- disk fails
  pub results : (a i : ℕ) (n : NodeOf) (r : Roster) (b : TaskResult) → node_in a w.nodes ≡ Some n → n.state ≡ Member r → IsPacket job w i n.incarnation (body.Result b) → (o : StepResult) → Step job (delivery a i) w o → NoRecordAt o.world a b.grant
  pub outcome : (i : ℕ) (h : HouseOf) (root : RootGrant) (b : TaskResult) → open_house w.house ≡ Some h → h.root ≡ Some root → IsPacket job w i (name_of h) (body.Result b) → b.grant ≡ root.grant → h.sequence + 1 < 2 ^ 64 → (o : StepResult) → CarriedOut job (AtHouse (at_house.Deliver i)) w o → recorded o.world ≡ Some b.outcome
  -- each Resend tells again what isn't answered: a member its request and what it has finished, a
  -- leaver all that it holds
  pub told : (a : ℕ) (n : NodeOf) (r : Roster) → node_in a w.nodes ≡ Some n → n.state ≡ Member r → (o : StepResult) → Step job (resend a) w o → MemberTells job n (sent_in o.answer)
  pub offered : (a : ℕ) (n : NodeOf) (r : Roster) (heir : ℕ) → node_in a w.nodes ≡ Some n → n.state ≡ Leaving r heir → (o : StepResult) → Step job (resend a) w o → LeaverTells job n heir (sent_in o.answer)
  -- and a thief that asks again is told the last answer again: by a node, and by the clearinghouse,
  -- where it is shown live there
  pub answered : (a i : ℕ) (n : NodeOf) (r : Roster) (b : Steal) (reply : Reply) → node_in a w.nodes ≡ Some n → HasRoster n.state r → is_live b.from r.members ≡ true → reply_in b.from n.replies ≡ Some reply → b.seq ≡ reply.seq → IsPacket job w i n.incarnation (body.Steal b) → (o : StepResult) → Step job (delivery a i) w o → reply.packet ∈ sent_in o.answer
  pub house_answered : (i : ℕ) (h : HouseOf) (b : Steal) (reply : Reply) → open_house w.house ≡ Some h → is_live b.from (members_of h) ≡ true → reply_in b.from h.replies ≡ Some reply → b.seq ≡ reply.seq → IsPacket job w i (name_of h) (body.Steal b) → (o : StepResult) → CarriedOut job (AtHouse (at_house.Deliver i)) w o → reply.packet ∈ sent_in o.answer
  -- a moment at which the holder of the root's grant was silent for too long frees the root; and
  -- where it is free, and there is no outcome, it is granted to a live thief that asks anew
  pub freed : (h : HouseOf) (root : RootGrant) (now : ℕ) → open_house w.house ≡ Some h → h.root ≡ Some root → IsSilent h root.holder now → h.moment < now → (o : StepResult) → CarriedOut job (AtHouse (at_house.Tick now)) w o → IsRootFree h.outcome o.world
  pub granted : (i : ℕ) (h : HouseOf) (b : Steal) → open_house w.house ≡ Some h → h.root ≡ None → h.outcome ≡ None → is_live b.from (members_of h) ≡ true → IsNewer b h → h.minted + 1 < 2 ^ 64 → IsPacket job w i (name_of h) (body.Steal b) → (o : StepResult) → CarriedOut job (AtHouse (at_house.Deliver i)) w o → IsRootGranted job b o

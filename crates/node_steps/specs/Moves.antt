-- The moves of a node, of which each of its steps is made.
use Rattle.std.specs.Prelude.{ℕ, ℤ, ◌+◌, ◌&&◌, Bool, true, false, not, if◌then◌else◌, List, [], ◌∷◌, ◌++◌, map, Option, None, Some}
use Rattle.std.specs.List.{filter, flat_map}
use Rattle.ids.specs.Members.{is_live, status_in}
use Rattle.ids.specs.Named.{Name, put_in}
use Rattle.ids.specs.Names.{Grant, house_of}
use Rattle.ids.specs.Naming.{name_of_grant}
use Rattle.ids.specs.declared.member.Member.{Member}
use Rattle.ids.specs.declared.member.Status.{Status}
use Rattle.ids.specs.declared.outcome.Outcome.{Outcome}
use Rattle.ids.specs.declared.outcome.Outcome.TheVariants.{Value, TooDeep}
use Rattle.ids.specs.declared.outcome.Progress.{Progress}
use Rattle.ids.specs.declared.outcome.Progress.TheVariants.{Active, Finished}
use Rattle.ids.specs.declared.work.Record.{Record}
use Rattle.codec.specs.Table.{PacketOf}
use Rattle.codec.specs.declared.body.Body.{Body}
use Rattle.codec.specs.declared.body.Body.TheVariants as body
use Rattle.codec.specs.declared.body.Grant.{Grant as GrantBody}
use Rattle.codec.specs.declared.body.Offer.{Offer}
use Rattle.codec.specs.declared.body.Roster.{Roster}
use Rattle.departure.specs.Offers.{offered}
use Rattle.departure.specs.declared.freezing.Move.{Move}
use Rattle.saved_values.specs.Places.{is_saved_place, stripped}
use Rattle.saved_values.specs.Saved.{saved_under}
use Rattle.serial_meaning.specs.Job.{JobOf}
use Rattle.victim_records.specs.Records.{record_in}
use Rattle.sub_rules.specs.Changes.{granted_out, closed}
use Rattle.sub_rules.specs.Content.{Ready, task_of}
use Rattle.sub_rules.specs.declared.change.ContentChange.{ContentChange}
use Rattle.steal_protocol.specs.Replies.{put_reply}
use Rattle.steal_protocol.specs.Requests.{AskerOf, settled, without_request}
use Rattle.steal_protocol.specs.declared.asker.Request.{Request}
use Rattle.steal_protocol.specs.declared.replies.Reply.{Reply}
use Rattle.recovery.specs.declared.plan.Stopped.{Stopped}
use Rattle.subcomputation.specs.Recovering.{recovered}
use Rattle.subcomputation.specs.Subs.{SubOf, granted_sub, host_in, put_sub, ready_frames, with_content, without_sub}
use Rattle.node_state.specs.Node.{NodeOf, holding, is_confirmed}
use Rattle.node_state.specs.declared.parts.Confirmed.{Confirmed}
use Rattle.node_steps.specs.Steps.{StepOf, fills_of, for_some, sends}

abbrev pub is_empty : {A : Type 0} → List A → Bool
is_empty [] = true
is_empty (x ∷ xs) = false

-- the pending request is forgotten if a roster lists its victim and doesn't show it live
abbrev pub status_of : List Member → Option Request → Option Status
status_of members None = None
status_of members (Some q) = status_in q.victim members

abbrev pub settle_request : List Member → AskerOf → AskerOf
settle_request members a = settled (status_of members a.pending) a

-- the grant that an answer to a thief gave away, if it is a Grant
abbrev pub given_by : Body → Option Grant
given_by (body.Grant b) = Some b.grant
given_by b = None

-- whether a thief still has to say that it has a grant
abbrev pub lacks : List Confirmed → ℕ → Option Grant → Bool
lacks confirmed thief None = false
lacks confirmed thief (Some g) = not (is_confirmed thief g confirmed)

-- a thief is awaited while it is shown live, the last answer to it is a Grant, and it hasn't said
-- since the node leaves that it has that
abbrev pub is_awaited : Roster → List Confirmed → Reply → Bool
is_awaited r confirmed reply = is_live reply.thief r.members && lacks confirmed reply.thief (given_by reply.packet.body)

-- the last answers to the thieves that a leaving node awaits
abbrev pub awaited : Roster → NodeOf → List Reply
awaited r n = filter (is_awaited r n.confirmed) n.replies

-- nothing is held and nobody is awaited
abbrev pub is_done : Roster → NodeOf → Bool
is_done r n = is_empty n.subs && is_empty (awaited r n)

-- the answers that are Grants, by rising grant, each with its packet
pub record Given : Type 0 where
  pub grant : Grant
  pub packet : PacketOf

abbrev pub given : PacketOf → Option Grant → List Given
given p None = []
given p (Some g) = record { grant = g; packet = p } ∷ []

abbrev pub name_of_given : Given → Name
name_of_given g = name_of_grant g.grant

abbrev pub all_given : List Reply → List Given
all_given replies = flat_map (λ r. given r.packet (given_by r.packet.body)) replies

abbrev pub with_given : List Given → List Given → List Given
with_given [] sorted = sorted
with_given (g ∷ gs) sorted = with_given gs (put_in name_of_given g sorted)

abbrev pub grants_in : List Reply → List PacketOf
grants_in replies = map (λ g. g.packet) (with_given (all_given replies) [])

module _ (job : JobOf) where
  -- a packet of the job
  abbrev pub packet : ℕ → Body → PacketOf
  packet to b = record { job = job.number; to = to; body = b }

  abbrev pub steal : ℕ → Request → PacketOf
  steal i q = packet q.victim (body.Steal (record { from = i; seq = q.seq }))

  abbrev pub result_ack : ℕ → Grant → PacketOf
  result_ack to g = packet to (body.ResultAck (record { grant = g }))

  -- a node's move to its heir
  abbrev pub move_to : ℕ → NodeOf → Move
  move_to heir n = record { job = job.number; from = n.incarnation; heir = heir }

  abbrev pub offer_ack : ℕ → ℕ → Grant → ℕ → PacketOf
  offer_ack i to g hop = packet to (body.OfferAck (record { from = i; grant = g; hop = hop }))

  abbrev pub leave : ℕ → Roster → ℕ → PacketOf
  leave i r heir = packet (house_of r.epoch) (body.Leave (record { from = i; heir = heir }))

  abbrev pub beat : ℕ → Roster → PacketOf
  beat i r = packet (house_of r.epoch) (body.Beat (record { from = i; version = r.version }))

  -- a holder is told to stop
  abbrev pub stops : Stopped → PacketOf
  stops s = packet s.holder (body.Abort (record { grant = s.grant }))

  -- to the holder of each record: the outcome of its grant isn't wanted any more
  abbrev pub aborts : List Record → List PacketOf
  aborts records = map (λ r. packet r.holder (body.Abort (record { grant = r.grant }))) records

  -- the outcome of a subcomputation, for the host that waits for it; one that goes on has none to
  -- tell
  abbrev pub result_by : ℕ → SubOf → Progress → List PacketOf
  result_by i s Active = []
  result_by i s (Finished o) = packet s.content.parent (body.Result (record { from = i; grant = s.grant; outcome = o })) ∷ []

  abbrev pub results : ℕ → SubOf → List PacketOf
  results i s = result_by i s s.content.progress

  -- a content changes: an Abort for each record that was dropped, and then the Result if it ended
  abbrev pub changes : SubOf → ContentChange → NodeOf → StepOf
  changes s c n =
      let new : SubOf = with_content s c.after in
      record {
        after = record n { subs = put_sub new n.subs };
        sent = aborts c.dropped ++ results n.incarnation new;
        fills = fills_of s.grant c.fill;
        ready = map (λ r. record { grant = s.grant; frame = r }) c.ready;
      }

  -- a Grant is taken: its task is a subcomputation, whose first frame is ready
  abbrev pub takes : GrantBody → NodeOf → StepOf
  takes b n =
      let new : SubOf = granted_sub b.grant b.task b.saved in
      record { after = holding new (record n { asker = without_request n.asker }); sent = []; fills = []; ready = ready_frames new }

  -- an Offer is acknowledged
  abbrev pub acknowledges : Offer → NodeOf → PacketOf
  acknowledges o n = offer_ack n.incarnation o.from o.grant o.hop

  -- an Offer is taken
  abbrev pub accepts : Offer → NodeOf → StepOf
  accepts o n = record {
    after = holding (offered o) n;
    sent = acknowledges o n ∷ [];
    fills = [];
    ready = ready_frames (offered o);
  }

  -- a value goes to the clearinghouse, with the place of its task, where that is one of a saved
  -- value
  abbrev pub saves : ℕ → Roster → List ℕ → ℤ → List PacketOf
  saves i r place value =
      if is_saved_place place then packet (house_of r.epoch) (body.Save (record { from = i; place = place; value = value })) ∷ [] else []

  -- the outcome of a task at a place: its value is that of the successors that its place leads to
  abbrev pub save_of : ℕ → Roster → List ℕ → Outcome → List PacketOf
  save_of i r place (Value v) = saves i r (stripped place) v
  save_of i r place TooDeep = []

  -- a record is closed by an outcome, which is then saved, if it is a value
  abbrev pub closes_by : Roster → Outcome → SubOf → Record → NodeOf → StepOf
  closes_by r o s x n =
      let c = changes s (closed x o s.content) n in
      record c { sent = c.sent ++ save_of n.incarnation r x.task.place o }

  -- the open record of a grant, if there is one, is closed by an outcome
  abbrev pub closes : Roster → Grant → Outcome → NodeOf → StepOf
  closes r g o n = for_some (host_in g n.subs) (λ s. for_some (record_in g s.content.records) (λ x. closes_by r o s x)) n

  -- a subcomputation is dropped
  abbrev pub drops : SubOf → NodeOf → StepOf
  drops s n = sends (aborts s.content.records) (record n { subs = without_sub s.grant n.subs })

  -- a thief is answered, and the answer kept
  abbrev pub answers : ℕ → ℕ → Body → NodeOf → StepOf
  answers thief seq b n =
      let p = packet thief b in sends (p ∷ []) (record n { replies = put_reply (record { thief = thief; seq = seq; packet = p }) n.replies })

  abbrev pub refuses : ℕ → ℕ → NodeOf → StepOf
  refuses thief seq n = answers thief seq (body.Refuse (record { seq = seq })) n

  -- a thief is granted a ready frame, under the next number, with the values below its place, and
  -- its record is opened
  abbrev pub grants : ℕ → ℕ → SubOf → Ready → NodeOf → StepOf
  grants thief seq s r n =
      let g : Grant = record { minter = n.incarnation; number = n.minted + 1 } in
      let new : SubOf = with_content s (granted_out g thief r s.content) in
      answers thief seq (body.Grant (record { seq = seq; grant = g; task = task_of r; saved = saved_under r.frame.place s.saved })) (record n { minted = n.minted + 1; subs = put_sub new n.subs })

  -- recovery of the subcomputations of these grants by a roster
  abbrev pub recovers : List Member → List Grant → NodeOf → StepOf
  recovers members grants n =
      let r = recovered members grants n.subs in
      record { after = record n { subs = r.subs }; sent = aborts r.stopped; fills = []; ready = r.again }

  -- a leaving node that is done says so
  abbrev pub leaves : Roster → ℕ → NodeOf → List PacketOf
  leaves r heir n = if is_done r n then leave n.incarnation r heir ∷ [] else []

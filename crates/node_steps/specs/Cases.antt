-- What a packet does at a node, by its kind and by where the node stands.
use Rattle.std.specs.Prelude.{ℕ, ◌+◌, ◌^◌, ◌&&◌, Bool, true, false, not, nat_eq, nat_lt, if◌then◌else◌, List, [], ◌∷◌, Option, None, Some, is_some, length, Result, Ok, Err}
use Rattle.std.specs.List.{list_all, list_any}
use Rattle.std.specs.Ordering.{nat_cmp, eq_by_cmp}
use Rattle.ids.specs.Members.{is_live, status_in}
use Rattle.ids.specs.Names.{Grant, grant_cmp, is_worker}
use Rattle.ids.specs.declared.member.Status.{Status}
use Rattle.ids.specs.declared.member.Status.TheVariants.{Live, Dead, Left}
use Rattle.ids.specs.declared.outcome.Progress.{Progress}
use Rattle.ids.specs.declared.outcome.Progress.TheVariants.{Active, Finished}
use Rattle.ids.specs.declared.work.Task.{Task}
use Rattle.packet_fields.specs.declared.fault.Fault.{Fault}
use Rattle.codec.specs.Pieces.{joined, long_reading}
use Rattle.codec.specs.Table.{PacketOf, reading}
use Rattle.codec.specs.declared.body.Body.{Body}
use Rattle.codec.specs.declared.body.Body.TheVariants as body
use Rattle.codec.specs.declared.body.Grant.{Grant as GrantBody}
use Rattle.codec.specs.declared.body.Offer.{Offer}
use Rattle.codec.specs.declared.body.OfferAck.{OfferAck}
use Rattle.codec.specs.declared.body.Piece.{Piece}
use Rattle.codec.specs.declared.body.Roster.{Roster}
use Rattle.codec.specs.declared.body.Steal.{Steal}
use Rattle.codec.specs.declared.body.TaskResult.{TaskResult}
use Rattle.departure.specs.Offers.{offered}
use Rattle.saved_values.specs.Places.{is_under}
use Rattle.saved_values.specs.declared.value.SavedValue.{SavedValue}
use Rattle.serial_meaning.specs.Job.{JobOf}
use Rattle.steal_protocol.specs.Replies.{by_order, by_reply, reply_in}
use Rattle.steal_protocol.specs.Requests.{is_answered_by, is_pending, without_request}
use Rattle.steal_protocol.specs.declared.replies.Reply.{Reply}
use Rattle.subcomputation.specs.Fitting.{task_fits, content_fits}
use Rattle.subcomputation.specs.Subs.{SubOf, grants_of_subs, sub_in, without_sub}
use Rattle.node_state.specs.Assemblies.{AssemblyOf, assembly_in, begun, of_living, part_in, part_of, put_assembly, with_part, without_assembly}
use Rattle.node_state.specs.Node.{NodeOf, by_state, ended, hop_in, put_confirmed}
use Rattle.node_state.specs.declared.parts.State.TheVariants.{Member, Leaving}
use Rattle.node_state.specs.Posts.{ReadyFrame, ready_at}
use Rattle.node_steps.specs.declared.error.NodeError.TheVariants as error
use Rattle.node_steps.specs.Moves
use Rattle.node_steps.specs.Steps.{Answer, Ignored, Refused, Does, Forgets, StepOf, quiet, sends, ◌then◌}

-- a frame that a thief may be granted, if it is ready
pub record Candidate : Type 0 where
  pub grant : Grant
  pub frame : ℕ

abbrev pub candidate_in : NodeOf → Option Candidate → Option ReadyFrame
candidate_in n None = None
candidate_in n (Some c) = ready_at n c.grant c.frame

-- by whether there is something
unfoldable pub by_option : {A B : Type 0} → Option A → B → (A → B) → B
by_option None none some = none
by_option (Some a) none some = some a

-- by what a roster says of a worker: it is live, dead or left, or isn't listed
unfoldable pub by_status : {B : Type 0} → Option Status → (live gone unlisted : B) → B
by_status None live gone unlisted = unlisted
by_status (Some Live) live gone unlisted = live
by_status (Some Dead) live gone unlisted = gone
by_status (Some (Left heir)) live gone unlisted = gone

-- a joining node takes the first roster that lists it as live; one that lists it as dead or left
-- ends it
abbrev pub joins : Roster → NodeOf → Answer
joins r n = by_status (status_in n.incarnation r.members) (Does (quiet (record n { state = Member r }))) (Does (quiet (ended n))) Ignored

-- a roster that comes to a joined node. One of a smaller epoch, of the same epoch and no newer, or
-- of the same epoch and without the node is ignored. One of a greater epoch ends the node, and so
-- does a newer one that lists it as dead or left. Any other is kept
abbrev pub by_roster : Roster → Roster → NodeOf → Answer → Answer
by_roster old new n kept =
    by_order (nat_cmp new.epoch old.epoch)
    Ignored
    (if nat_lt old.version new.version
    then by_status (status_in n.incarnation new.members) kept (Does (quiet (ended n))) Ignored
    else Ignored)
    (Does (quiet (ended n)))

abbrev pub is_finished : Progress → Bool
is_finished Active = false
is_finished (Finished o) = true

-- whether a hop is above the greatest one with which a grant was taken
abbrev pub is_above : ℕ → Option ℕ → Bool
is_above hop None = true
is_above hop (Some greatest) = nat_lt greatest hop

-- whether an OfferAck says that the heir has a subcomputation at the hop with which it was offered
abbrev pub is_released : ℕ → OfferAck → Option SubOf → Bool
is_released heir b None = false
is_released heir b (Some s) = nat_eq b.hop (s.hop + 1) && nat_eq b.from heir

-- whether an OfferAck names the thief and the grant of an answer
abbrev pub is_given : Grant → Option Grant → Bool
is_given g None = false
is_given g (Some h) = eq_by_cmp grant_cmp h g

abbrev pub confirms : OfferAck → Reply → Bool
confirms b reply = nat_eq reply.thief b.from && is_given b.grant (Moves.given_by reply.packet.body)

-- what the part of a Piece does to those that have come: it is ignored, it is kept, or all are
-- there
pub data Collecting : Type 0 where
  Old : Collecting
  Kept : AssemblyOf → Collecting
  Whole : List ℕ → Collecting

-- of the same hop, sender and count, and a part that isn't there
abbrev pub belongs : Piece → AssemblyOf → Bool
belongs b a = nat_eq b.hop a.hop && nat_eq b.from a.from && nat_eq b.pieces a.pieces && not (is_some (part_in b.number a.parts))

abbrev pub by_all : AssemblyOf → Collecting
by_all a = if nat_eq (length a.parts) a.pieces then Whole (joined a.parts) else Kept a

-- one of a greater hop takes the place of what came
unfoldable pub collects : Piece → Option AssemblyOf → Collecting
collects b None = Kept (begun b)
collects b (Some a) =
    if nat_lt a.hop b.hop then Kept (begun b)
    else if belongs b a then by_all (with_part (part_of b) a)
    else Old

-- the Offer that a packet says, if it is that of a Piece
abbrev pub its_offer : Piece → Body → Option Offer
its_offer b (body.Offer o) = if nat_eq o.from b.from && eq_by_cmp grant_cmp o.grant b.grant && nat_eq o.hop b.hop then Some o else None
its_offer b other = None

-- where a packet is ignored, what was kept of it goes
unfoldable pub or_forgets : NodeOf → Answer → Answer
or_forgets n Ignored = Forgets n
or_forgets n (Refused e) = Refused e
or_forgets n (Does s) = Does s
or_forgets n (Forgets m) = Forgets m

-- each value is of a place below that of a task
abbrev pub saved_fit : Task → List SavedValue → Bool
saved_fit task saved = list_all (λ x. is_under task.place x.place) saved

module _ (job : JobOf) where
  -- Roster, to a member: it is kept, and what the node holds is recovered by it; then a pending
  -- request is forgotten whose victim isn't live any more
  abbrev pub recovers_by : Roster → NodeOf → StepOf
  recovers_by new n =
      Moves.recovers job new.members (grants_of_subs n.subs) (record n { state = Member new }) then λ m.
      quiet (record m { asker = Moves.settle_request new.members m.asker; assemblies = of_living new.members m.assemblies })

  abbrev pub member_roster : Roster → Roster → NodeOf → Answer
  member_roster old new n = by_roster old new n (Does (recovers_by new n))

  -- Roster, to a leaving node: it is kept, and nothing that is frozen changes; but a node that
  -- holds something ends where its heir isn't live any more
  abbrev pub leaving_roster : Roster → ℕ → Roster → NodeOf → Answer
  leaving_roster old heir new n =
      by_roster old new n (
      if not (Moves.is_empty n.subs) && not (is_live heir new.members) then Does (quiet (ended n))
      else Does (quiet (record n { state = Leaving new heir })))

  -- a request that is newer than the last one: a ready frame is granted, and where none is ready it
  -- is refused
  abbrev pub served : Steal → Option ReadyFrame → NodeOf → Answer
  served b None n = Does (Moves.refuses job b.from b.seq n)
  served b (Some f) n =
      if nat_lt (n.minted + 1) (2 ^ 64) then Does (Moves.grants job b.from b.seq f.sub f.ready n) else Refused error.Spent

  -- Steal: of a thief that isn't shown live, or older than its last one, it is ignored; the same
  -- again gets the last answer
  abbrev pub stolen : Roster → Steal → Option ReadyFrame → NodeOf → Answer
  stolen r b frame n =
      if is_live b.from r.members
      then by_reply (reply_in b.from n.replies) b.seq Ignored (λ reply. Does (sends (reply ∷ []) n)) (served b frame n)
      else Ignored

  -- where a grant was taken here that a worker minted, that one is told so, at hop 0
  abbrev pub acknowledged_again : Grant → NodeOf → Answer
  acknowledged_again g n =
      if is_worker g.minter && is_some (hop_in g n.seen)
      then Does (sends (Moves.offer_ack job n.incarnation g.minter g 0 ∷ []) n)
      else Ignored

  -- Grant: it is taken if it answers the pending request, was never taken here and fits, and each
  -- of its values is below its task; else it is acknowledged again
  abbrev pub granted : GrantBody → NodeOf → Answer
  granted b n =
      if is_answered_by b.seq b.grant n.asker.pending && not (is_some (hop_in b.grant n.seen)) && task_fits job.program b.task && saved_fit b.task b.saved
      then Does (Moves.takes job b n)
      else acknowledged_again b.grant n

  -- Refuse: the request that it answers is forgotten
  abbrev pub refused : ℕ → NodeOf → Answer
  refused seq n = if is_pending seq n.asker.pending then Does (quiet (record n { asker = without_request n.asker })) else Ignored

  -- Result: it is acknowledged first, and then its record is closed, if it is open, and its value
  -- saved
  abbrev pub returned : Roster → TaskResult → NodeOf → Answer
  returned r b n = Does (sends (Moves.result_ack job b.from b.grant ∷ []) n then Moves.closes job r b.grant b.outcome)

  -- ResultAck: a finished subcomputation goes
  abbrev pub acknowledged : Grant → NodeOf → Answer
  acknowledged g n =
      by_option (sub_in g n.subs) Ignored (λ s.
      if is_finished s.content.progress then Does (quiet (record n { subs = without_sub g n.subs })) else Ignored)

  -- Offer, to a member: where its hop is above the greatest one with which its grant was taken, it
  -- is accepted if it fits and nothing of that name is held, and recovered by the present roster;
  -- else it is acknowledged again
  abbrev pub member_offered : Roster → Offer → NodeOf → Answer
  member_offered r o n =
      if is_above o.hop (hop_in o.grant n.seen) then
      if not (is_some (sub_in o.grant n.subs)) && content_fits job.program n.incarnation n.subs (offered o).content then
      Does (Moves.accepts job o n then Moves.recovers job r.members (o.grant ∷ []))
      else Ignored
      else Does (sends (Moves.acknowledges job o n ∷ []) n)

  -- Piece, to a member: its part is kept, and with the last one the Offer that they spell is taken
  -- as one that comes whole; one of a hop that isn't above the greatest one is acknowledged
  abbrev pub said_by : Piece → NodeOf → Result PacketOf Fault → Option Offer
  said_by b n (Err fault) = None
  said_by b n (Ok p) = if nat_eq p.job job.number && nat_eq p.to n.incarnation then its_offer b p.body else None

  unfoldable pub put_together : Roster → Option Offer → NodeOf → Answer
  put_together r None n = Forgets n
  put_together r (Some o) n = or_forgets n (member_offered r o n)

  unfoldable pub collected : Roster → Piece → Collecting → NodeOf → Answer
  collected r b Old n = Ignored
  collected r b (Kept a) n = Does (quiet (record n { assemblies = put_assembly a n.assemblies }))
  collected r b (Whole bytes) n = let m : NodeOf = record n { assemblies = without_assembly b.grant n.assemblies } in put_together r (said_by b m (long_reading bytes)) m

  abbrev pub acknowledges_piece : Piece → NodeOf → Answer
  acknowledges_piece b n = Does (sends (Moves.offer_ack job n.incarnation b.from b.grant b.hop ∷ []) n)

  abbrev pub member_pieced : Roster → Piece → NodeOf → Answer
  member_pieced r b n = if is_above b.hop (hop_in b.grant n.seen) then collected r b (collects b (assembly_in b.grant n.assemblies)) n else acknowledges_piece b n

  -- Piece, to a leaving node
  abbrev pub leaving_pieced : Piece → NodeOf → Answer
  leaving_pieced b n = if is_above b.hop (hop_in b.grant n.seen) then Ignored else acknowledges_piece b n

  -- Offer, to a leaving node: none is accepted any more
  abbrev pub leaving_offered : Offer → NodeOf → Answer
  leaving_offered o n =
      if is_above o.hop (hop_in o.grant n.seen) then Ignored else Does (sends (Moves.acknowledges job o n ∷ []) n)

  abbrev pub left_behind : Roster → ℕ → NodeOf → Answer
  left_behind r heir n = Does (sends (Moves.leaves job r heir n) n)

  -- OfferAck, to a leaving node: the heir has a subcomputation that was offered, or an awaited
  -- thief has its grant, which is hop 0
  abbrev pub taken : Roster → ℕ → OfferAck → NodeOf → Answer
  taken r heir b n =
      if is_released heir b (sub_in b.grant n.subs)
      then left_behind r heir (record n { subs = without_sub b.grant n.subs })
      else if nat_eq b.hop 0 && list_any (confirms b) (Moves.awaited r n)
      then left_behind r heir (record n { confirmed = put_confirmed (record { thief = b.from; grant = b.grant }) n.confirmed })
      else Ignored

  -- Abort: the subcomputation is dropped
  abbrev pub aborted : Grant → NodeOf → Answer
  aborted g n = by_option (sub_in g n.subs) Ignored (λ s. Does (Moves.drops job s n))

  -- the table: a row for each kind; a column for a joining node, a member and a leaving one, and an
  -- ended one ignores all
  unfoldable pub on_body : Option Candidate → Body → NodeOf → Answer
  on_body choice (body.Join b) n = Ignored
  on_body choice (body.Roster b) n = by_state n.state (joins b n) (λ r. member_roster r b n) (λ r heir. leaving_roster r heir b n) Ignored
  on_body choice (body.Steal b) n = by_state n.state Ignored (λ r. stolen r b (candidate_in n choice) n) (λ r heir. stolen r b None n) Ignored
  on_body choice (body.Grant b) n = by_state n.state Ignored (λ r. granted b n) (λ r heir. granted b n) Ignored
  on_body choice (body.Refuse b) n = by_state n.state Ignored (λ r. refused b.seq n) (λ r heir. Ignored) Ignored
  on_body choice (body.Result b) n = by_state n.state Ignored (λ r. returned r b n) (λ r heir. Ignored) Ignored
  on_body choice (body.ResultAck b) n = by_state n.state Ignored (λ r. acknowledged b.grant n) (λ r heir. Ignored) Ignored
  on_body choice (body.Offer b) n = by_state n.state Ignored (λ r. member_offered r b n) (λ r heir. leaving_offered b n) Ignored
  on_body choice (body.OfferAck b) n = by_state n.state Ignored (λ r. Ignored) (λ r heir. taken r heir b n) Ignored
  on_body choice (body.Leave b) n = Ignored
  on_body choice (body.Abort b) n = by_state n.state Ignored (λ r. aborted b.grant n) (λ r heir. Ignored) Ignored
  on_body choice (body.Beat b) n = Ignored
  on_body choice (body.Save b) n = Ignored
  on_body choice (body.Piece b) n = by_state n.state Ignored (λ r. member_pieced r b n) (λ r heir. leaving_pieced b n) Ignored

  -- a packet of another job, or to somebody else, is ignored
  unfoldable pub on_packet : Option Candidate → PacketOf → NodeOf → Answer
  on_packet choice p n = if nat_eq p.job job.number && nat_eq p.to n.incarnation then on_body choice p.body n else Ignored

  -- bytes that are no packet are refused, wherever the node stands
  abbrev pub on_read : Option Candidate → Result PacketOf Fault → NodeOf → Answer
  on_read choice (Err fault) n = Refused (error.Bytes fault)
  on_read choice (Ok p) n = on_packet choice p n

  abbrev pub on_bytes : Option Candidate → List ℕ → NodeOf → Answer
  on_bytes choice bytes n = on_read choice (reading bytes) n

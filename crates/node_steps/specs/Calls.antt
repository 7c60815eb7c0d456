-- What a node's own calls do. Each refusal comes in the order of its tests, and changes nothing.
use Rattle.std.specs.Prelude.{ℕ, ℤ, ◌+◌, ◌^◌, ◌&&◌, Bool, true, not, nat_eq, nat_le, nat_lt, if◌then◌else◌, List, [], ◌∷◌, ◌++◌, Option, None, Some, is_some, Result, Ok, Err}
use Rattle.std.specs.List.{flat_map}
use Rattle.ids.specs.Members.{is_live}
use Rattle.ids.specs.Names.{Grant, house_of}
use Rattle.ids.specs.Options.{◌>>=◌}
use Rattle.task_tree.specs.declared.tree.Program.{Program}
use Rattle.kind_check.specs.Turns.{turn_of}
use Rattle.kind_check.specs.declared.turn.Turn.TheVariants.{Sends}
use Rattle.body_eval.specs.Done.{DoneOf}
use Rattle.codec.specs.Table.{PacketOf}
use Rattle.codec.specs.declared.body.Body.TheVariants as body
use Rattle.codec.specs.declared.body.Roster.{Roster}
use Rattle.serial_meaning.specs.Job.{JobOf}
use Rattle.serial_meaning.specs.Places.{room}
use Rattle.serial_meaning.specs.Serial.{serial, serial_turns}
use Rattle.sub_rules.specs.Carrying.{ended, exec_content as carried_out}
use Rattle.sub_rules.specs.Content.{Ready}
use Rattle.saved_values.specs.Saved.{known_by}
use Rattle.sub_rules.specs.declared.change.ContentChange.{ContentChange}
use Rattle.sub_rules.specs.declared.change.SubError.{SubError}
use Rattle.sub_rules.specs.declared.change.SubError.TheVariants as sub
use Rattle.steal_protocol.specs.Requests.{next_request}
use Rattle.steal_protocol.specs.declared.asker.Request.{Request}
use Rattle.subcomputation.specs.Subs.{SubOf, sub_in}
use Rattle.node_state.specs.Node.{NodeOf, by_state, starting}
use Rattle.node_state.specs.declared.parts.State.TheVariants.{Leaving}
use Rattle.node_state.specs.Posts.{ready_at}
use Rattle.departure.specs.Freezing.{refusal, offers as offers_of, wholes as wholes_of}
use Rattle.departure.specs.declared.freezing.FreezeError.{FreezeError}
use Rattle.node_steps.specs.Cases.{by_option}
use Rattle.node_steps.specs.Errors.{of_freezing}
use Rattle.node_steps.specs.declared.error.NodeError.TheVariants as error
use Rattle.node_steps.specs.declared.parts.Victim.{Victim}
use Rattle.node_steps.specs.declared.parts.Victim.TheVariants.{Worker, House}
use Rattle.node_steps.specs.Moves
use Rattle.node_steps.specs.Steps.{StepOf, Answer, Refused, Does, sends}

-- whom a request to a victim goes to
abbrev pub address_of : Roster → Victim → ℕ
address_of r (Worker i) = i
address_of r House = house_of r.epoch

-- a worker may be asked that is another one and is shown live, and the clearinghouse always
abbrev pub may_ask : Roster → NodeOf → Victim → Bool
may_ask r n (Worker i) = not (nat_eq i n.incarnation) && is_live i r.members
may_ask r n House = true

-- a node that isn't joined, or has ended, is refused
abbrev pub if_joined : NodeOf → (Roster → Answer) → (Roster → ℕ → Answer) → Answer
if_joined n member leaving = by_state n.state (Refused error.NotJoined) member leaving (Refused error.NotJoined)

-- the turn of a ready frame
abbrev pub own_turn : Program → Ready → Option DoneOf
own_turn p r = do
  turn ← turn_of p r.frame.thread r.numbers
  Some (record { program = p; thread = r.frame.thread; numbers = r.numbers; turn = turn })

-- a ready frame that sends a number
abbrev pub sends_it : Program → Ready → ℤ → DoneOf
sends_it p r v = ended p r.frame.thread r.numbers (Sends v)

-- the whole value of a ready frame: what its task gives with all that comes of it, in the room
-- below its place
abbrev pub whole_value : Program → Ready → Option ℤ
whole_value p r = serial p (room r.frame.place) r.frame.thread r.numbers

-- where that takes at most so many turns
abbrev pub own_whole : Program → ℕ → Ready → Option ℤ
own_whole p most r = if nat_le (serial_turns p (room r.frame.place) r.frame.thread r.numbers) most then whole_value p r else None

module _ (job : JobOf) where
  -- a node starts, and asks to be listed
  abbrev pub join : ℕ → PacketOf
  join i = Moves.packet job (2 ^ 63) (body.Join (record { from = i }))

  abbrev pub start : ℕ → StepOf
  start word = sends (join word ∷ []) (starting word)

  -- it asks a victim for work
  abbrev pub asks : ℕ → NodeOf → StepOf
  asks victim n =
      let q = next_request victim n.asker in
      sends (Moves.steal job n.incarnation q ∷ []) (record n { asker = record { pending = Some q; asked = q.seq } })

  abbrev pub member_ask : Victim → NodeOf → Roster → Answer
  member_ask v n r =
      if not (may_ask r n v) then Refused error.NotJoined
      else if is_some n.asker.pending then Refused error.Busy
      else if nat_lt (n.asker.asked + 1) (2 ^ 64) then Does (asks (address_of r v) n)
      else Refused error.Spent

  abbrev pub leaving_ask : Victim → NodeOf → Roster → ℕ → Answer
  leaving_ask v n r heir = if not (may_ask r n v) then Refused error.NotJoined else Refused error.Busy

  unfoldable pub ask : Victim → NodeOf → Answer
  ask v n = if_joined n (member_ask v n) (leaving_ask v n)

  -- it carries out a frame by a turn that was evaluated; nothing is ready at a leaving node
  abbrev pub changed : SubOf → NodeOf → Result ContentChange SubError → Answer
  changed s n (Ok change) = Does (Moves.changes job s change n)
  changed s n (Err sub.Stale) = Refused error.Stale
  changed s n (Err sub.Spent) = Refused error.Spent
  changed s n (Err sub.Memory) = Refused error.Memory

  unfoldable pub exec : DoneOf → Grant → ℕ → NodeOf → Answer
  exec d g frame n =
      if_joined n
      (λ r. by_option (sub_in g n.subs) (Refused error.Stale) (λ s. changed s n (carried_out (known_by s.saved) d frame s.content)))
      (λ r heir. Refused error.Stale)

  -- it carries out a ready frame by that frame's own turn
  abbrev pub exec_ready : Grant → ℕ → NodeOf → Answer
  exec_ready g frame n =
      if_joined n
      (λ r. by_option (ready_at n g frame) (Refused error.Stale) (λ f.
      by_option (own_turn job.program f.ready) (Refused error.Stale) (λ d. exec d g frame n)))
      (λ r heir. Refused error.Stale)

  -- it carries out a ready frame by its whole value
  abbrev pub whole_ready : ℕ → Grant → ℕ → NodeOf → Answer
  whole_ready most g frame n =
      if_joined n
      (λ r. by_option (ready_at n g frame) (Refused error.Stale) (λ f.
      by_option (own_whole job.program most f.ready) (Refused error.NoValue) (λ v. exec (sends_it job.program f.ready v) g frame n)))
      (λ r heir. Refused error.Stale)

  -- it leaves to an heir: all that it holds is frozen, and offered by rising grant
  abbrev pub offers : ℕ → NodeOf → List PacketOf
  offers heir n = offers_of (Moves.move_to job heir n) n.subs

  abbrev pub departs : Roster → ℕ → NodeOf → StepOf
  departs r heir n = let gone : NodeOf = record n { state = Leaving r heir; assemblies = [] } in sends (offers heir n ++ Moves.leaves job r heir gone) gone

  abbrev pub frozen : Option FreezeError → StepOf → Answer
  frozen None s = Does s
  frozen (Some e) s = Refused (of_freezing e)

  abbrev pub member_depart : ℕ → NodeOf → Roster → Answer
  member_depart heir n r = frozen (refusal (Moves.move_to job heir n) (is_some n.asker.pending) r.members n.subs) (departs r heir n)

  unfoldable pub depart : ℕ → NodeOf → Answer
  depart heir n = if_joined n (member_depart heir n) (λ r _. Refused error.Busy)

  -- the same with each Offer whole, before large ones are cut
  abbrev pub wholes : ℕ → NodeOf → List PacketOf
  wholes heir n = wholes_of (Moves.move_to job heir n) n.subs

  abbrev pub whole_departs : Roster → ℕ → NodeOf → StepOf
  whole_departs r heir n = let gone : NodeOf = record n { state = Leaving r heir; assemblies = [] } in sends (wholes heir n ++ Moves.leaves job r heir gone) gone

  abbrev pub whole_member_depart : ℕ → NodeOf → Roster → Answer
  whole_member_depart heir n r = frozen (refusal (Moves.move_to job heir n) (is_some n.asker.pending) r.members n.subs) (whole_departs r heir n)

  unfoldable pub whole_depart : ℕ → NodeOf → Answer
  whole_depart heir n = if_joined n (whole_member_depart heir n) (λ r _. Refused error.Busy)

  -- it sends again what isn't answered yet: a member its Beat, its request and its Results, a
  -- leaving node its Beat, its Offers and the Grants of awaited thieves, and where there are
  -- neither, Leave
  abbrev pub pending_steal : NodeOf → Option Request → List PacketOf
  pending_steal n None = []
  pending_steal n (Some q) = Moves.steal job n.incarnation q ∷ []

  abbrev pub member_resend : NodeOf → Roster → List PacketOf
  member_resend n r = Moves.beat job n.incarnation r ∷ pending_steal n n.asker.pending ++ flat_map (Moves.results job n.incarnation) n.subs

  abbrev pub leaving_resend : NodeOf → Roster → ℕ → List PacketOf
  leaving_resend n r heir = Moves.beat job n.incarnation r ∷ offers heir n ++ Moves.grants_in (Moves.awaited r n) ++ Moves.leaves job r heir n

  unfoldable pub resend : NodeOf → Answer
  resend n =
      by_state n.state
      (Does (sends (join n.incarnation ∷ []) n))
      (λ r. Does (sends (member_resend n r) n))
      (λ r heir. Does (sends (leaving_resend n r heir) n))
      (Refused error.NotJoined)

  -- the same with each Offer whole
  abbrev pub whole_leaving_resend : NodeOf → Roster → ℕ → List PacketOf
  whole_leaving_resend n r heir = Moves.beat job n.incarnation r ∷ wholes heir n ++ Moves.grants_in (Moves.awaited r n) ++ Moves.leaves job r heir n

  unfoldable pub whole_resend : NodeOf → Answer
  whole_resend n =
      by_state n.state
      (Does (sends (join n.incarnation ∷ []) n))
      (λ r. Does (sends (member_resend n r) n))
      (λ r heir. Does (sends (whole_leaving_resend n r heir) n))
      (Refused error.NotJoined)

-- Worked runs of nodes that leave: an Offer that comes again, at a node that leaves and at one that
-- has finished; a departure that is refused while a request is pending; a leaver that awaits its
-- thief; and an Offer that is dropped as it is accepted.
use Rattle.std.specs.Prelude.{◌≡◌, refl, ℕ, pos, ◌^◌, List, [], ◌∷◌, ◌++◌, Some, map}
use Rattle.ids.specs.Members.{follow}
use Rattle.ids.specs.Names.{Grant, house_of}
use Rattle.ids.specs.declared.member.Status.{Status}
use Rattle.ids.specs.declared.member.Status.TheVariants.{Live, Dead}
use Rattle.ids.specs.declared.outcome.Outcome.TheVariants.{Value}
use Rattle.ids.specs.declared.outcome.Progress.TheVariants.{Active}
use Rattle.ids.specs.declared.returns.Return.TheVariants.{Whole}
use Rattle.ids.specs.declared.work.Task.{Task}
use Rattle.codec.specs.Table.{PacketOf}
use Rattle.codec.specs.Table as table
use Rattle.codec.specs.declared.body.Body.{Body}
use Rattle.codec.specs.declared.body.Body.TheVariants as body
use Rattle.codec.specs.declared.body.Roster.{Roster}
use Rattle.packet_fields.specs.Fields as field
use Rattle.serial_meaning.proofs.Fib.{Pointer}
use Rattle.steal_protocol.specs.Replies.{by_order}
use Rattle.subcomputation.specs.Recovering as recovering
use Rattle.subcomputation.specs.Subs.{SubOf}
use Rattle.node_state.specs.Node.{by_state, starting}
use Rattle.node_steps.specs.Calls.{ask, depart, exec, resend, start}
use Rattle.node_steps.specs.Cases.{by_option, by_status, on_body, on_packet}
use Rattle.node_steps.specs.Steps.{StepOf, Refused, for_some}
use Rattle.node_steps.specs.declared.error.NodeError.TheVariants as error
use Rattle.node_steps.specs.declared.parts.Victim.TheVariants.{Worker}
use Rattle.node_calls.proofs.Playing.{Call, Comes, Asks, Runs, Departs, Resends, job_of, play, answer_after}

abbrev house : ℕ
house = house_of 1

abbrev to : ℕ → Body → PacketOf
to i b = record { job = 1; to = i; body = b }

-- a roster of workers 3, 4, 5 and 6, of which 5 has this status
abbrev roster : ℕ → Status → Roster
roster version of_5 = record {
  epoch = 1;
  version = version;
  members = record { incarnation = 3; status = Live } ∷ record {
    incarnation = 4;
    status = Live;
  } ∷ record { incarnation = 5; status = of_5 } ∷
      record { incarnation = 6; status = Live } ∷ [];
}

abbrev listed : Body
listed = body.Roster (roster 4 Live)

-- a grant of worker 6, of the task of kid 1 on 1
abbrev grant : Grant
grant = record { minter = 6; number = 9 }

abbrev task : Task
task = record { place = 1 ∷ []; thread = 0; numbers = pos 1 ∷ [] }

-- what a worker offers: that task, with its one ready frame
abbrev offered : ℕ → ℕ → ℕ → Body
offered from hop parent =
    body.Offer (record {
      from = from;
      grant = grant;
      hop = hop;
      parent = parent;
      progress = Active;
      task = task;
      next = 1;
      frames = record { number = 0; place = 1 ∷ []; thread = 0; slots = Some (pos 1) ∷ []; returns = Whole } ∷ [];
      records = [];
    })

abbrev taken_from : ℕ → ℕ → PacketOf
taken_from from hop = to from (body.OfferAck (record { from = 4; grant = grant; hop = hop }))

-- worker 4 is offered it by 3 at hop 1, and offers it to 5 at hop 2; the first Offer comes again:
-- the same acknowledgement, and no subcomputation changes
abbrev moved_on : List Call
moved_on = Comes listed ∷ Comes (offered 3 1 6) ∷ Departs 5 ∷ Comes (offered 3 1 6) ∷ []

run_moved_on : Pointer → StepOf
unfolding on_body on_packet by_state by_option by_status by_order for_some recovering.for_some ask exec depart resend
    follow
run_moved_on p = play (job_of p) moved_on [] (start (job_of p) 4)

sent_moved_on : (p : Pointer) → (run_moved_on p).sent ≡
    to (2 ^ 63) (body.Join (record { from = 4 })) ∷ taken_from 3 1 ∷ to 5 (offered 4 2 6) ∷ taken_from 3 1 ∷ []
unfolding run_moved_on by_state by_option by_status by_order for_some recovering.for_some on_body on_packet ask exec
    depart resend follow table.packet table.fields table.offer field.worker field.grant field.actor field.counted
    field.raised field.progress field.task field.place field.steps field.step field.thread field.numbers field.signed
    field.frames field.frame field.goes_to field.slots field.slot field.records field.stolen field.hop field.outcome
sent_moved_on p = refl

still_frozen : (p : Pointer) → map (λ (s : SubOf). s.hop) (run_moved_on p).after.subs ≡ 1 ∷ []
unfolding run_moved_on by_state by_option by_status by_order for_some recovering.for_some on_body on_packet ask exec
    depart resend follow table.packet table.fields table.offer field.worker field.grant field.actor field.counted
    field.raised field.progress field.task field.place field.steps field.step field.thread field.numbers field.signed
    field.frames field.frame field.goes_to field.slots field.slot field.records field.stolen field.hop field.outcome
still_frozen p = refl

-- the heir's acknowledgement releases it, and Leave goes
released : (p : Pointer) → (play (job_of p)
    (moved_on ++ Comes (body.OfferAck (record { from = 5; grant = grant; hop = 2 })) ∷ []) []
    (start (job_of p) 4)).sent ≡
    to (2 ^ 63) (body.Join (record { from = 4 })) ∷ taken_from 3 1 ∷ to 5
    (offered 4 2 6) ∷ taken_from 3 1 ∷ to house (body.Leave (record { from = 4; heir = 5 })) ∷ []
unfolding by_state by_option by_status by_order for_some recovering.for_some on_body on_packet ask exec depart resend
    follow table.packet table.fields table.offer field.worker field.grant field.actor field.counted field.raised
    field.progress field.task field.place field.steps field.step field.thread field.numbers field.signed field.frames
    field.frame field.goes_to field.slots field.slot field.records field.stolen field.hop field.outcome
released p = refl

-- worker 4 finishes it and is acknowledged; the Offer comes again: an acknowledgement, and nothing
-- is held
abbrev finished : List Call
finished = Comes listed ∷ Comes (offered 3 1 6) ∷ Runs grant 0 ∷ Comes
    (body.ResultAck (record { grant = grant })) ∷ Comes (offered 3 1 6) ∷ []

run_finished : Pointer → StepOf
unfolding on_body on_packet by_state by_option by_status by_order for_some recovering.for_some ask exec depart resend
    follow
run_finished p = play (job_of p) finished [] (start (job_of p) 4)

sent_finished : (p : Pointer) → (run_finished p).sent ≡
    to (2 ^ 63) (body.Join (record { from = 4 })) ∷ taken_from 3 1 ∷ to 6
    (body.Result (record { from = 4; grant = grant; outcome = Value (pos 1) })) ∷ taken_from 3 1 ∷ []
unfolding run_finished by_state by_option by_status by_order for_some recovering.for_some on_body on_packet ask exec
    depart resend follow
sent_finished p = refl

nothing_held : (p : Pointer) → (run_finished p).after.subs ≡ []
unfolding run_finished by_state by_option by_status by_order for_some recovering.for_some on_body on_packet ask exec
    depart resend follow
nothing_held p = refl

-- a departure with a request pending is refused, and goes after the Refuse
pending : (p : Pointer) → answer_after (job_of p) (Comes listed ∷ Asks (Worker 5) ∷ []) (Departs 5) [] (starting 4)
    ≡ Refused error.Pending
unfolding on_body on_packet by_state by_option by_status by_order for_some recovering.for_some ask exec depart resend
    follow
pending p = refl

abbrev leaves_after_refuse : List Call
leaves_after_refuse = Comes listed ∷ Asks (Worker 5) ∷ Comes (body.Refuse (record { seq = 1 })) ∷ Departs 5 ∷ []

sent_after_refuse : (p : Pointer) → (play (job_of p) leaves_after_refuse [] (start (job_of p) 4)).sent ≡
    to (2 ^ 63) (body.Join (record { from = 4 })) ∷ to 5
    (body.Steal (record { from = 4; seq = 1 })) ∷ to house (body.Leave (record { from = 4; heir = 5 })) ∷ []
unfolding by_state by_option by_status by_order for_some recovering.for_some on_body on_packet ask exec depart resend
    follow
sent_after_refuse p = refl

-- worker 4 has granted its only frame to 3 and departs: the frozen rest is released, but no Leave
-- goes while 3 lacks its Grant; it is sent again, 3 says that it has it, and Leave goes
abbrev the_grant : PacketOf
the_grant = to 3 (body.Grant (record { seq = 1; grant = record { minter = 4; number = 1 }; task = task; saved = [] }))

abbrev awaiting : List Call
awaiting =
    Comes listed ∷ Comes (offered 3 1 6) ∷ Comes (body.Steal (record { from = 3; seq = 1 })) ∷ Departs 5 ∷
    Comes (body.OfferAck (record { from = 5; grant = grant; hop = 2 })) ∷ Resends ∷
    Comes (body.OfferAck (record { from = 3; grant = record { minter = 4; number = 1 }; hop = 0 })) ∷ []

abbrev left_with_record : Body
left_with_record =
    body.Offer (record {
      from = 4;
      grant = grant;
      hop = 2;
      parent = 6;
      progress = Active;
      task = task;
      next = 1;
      frames = [];
      records = record {
        grant = record { minter = 4; number = 1 };
        holder = 3;
        frame = 0;
        task = task;
        returns = Whole;
      } ∷ [];
    })

sent_awaiting : (p : Pointer) → (play (job_of p) awaiting [] (start (job_of p) 4)).sent ≡
    to (2 ^ 63) (body.Join (record { from = 4 })) ∷ taken_from 3 1 ∷ the_grant ∷ to 5 left_with_record ∷
    to house (body.Beat (record { from = 4; version = 4 })) ∷ the_grant ∷ to house (body.Leave
    (record { from = 4; heir = 5 })) ∷ []
unfolding by_state by_option by_status by_order for_some recovering.for_some on_body on_packet ask exec depart resend
    follow table.packet table.fields table.offer field.worker field.grant field.actor field.counted field.raised
    field.progress field.task field.place field.steps field.step field.thread field.numbers field.signed field.frames
    field.frame field.goes_to field.slots field.slot field.records field.stolen field.hop field.outcome
sent_awaiting p = refl

-- worker 4 sees 5 dead, and is offered what waits for 5: it is accepted, acknowledged and dropped,
-- and leaves no post behind, so a thief gets Refuse
abbrev dropped : List Call
dropped = Comes (body.Roster (roster 5 Dead)) ∷ Comes (offered 3 1 5) ∷ Comes
    (body.Steal (record { from = 3; seq = 1 })) ∷ []

sent_dropped : (p : Pointer) → (play (job_of p) dropped [] (start (job_of p) 4)).sent ≡
    to (2 ^ 63) (body.Join (record { from = 4 })) ∷ taken_from 3 1 ∷ to 3 (body.Refuse (record { seq = 1 })) ∷ []
unfolding by_state by_option by_status by_order for_some recovering.for_some on_body on_packet ask exec depart resend
    follow
sent_dropped p = refl

-- Worked runs of the Fibonacci program on 2: one node alone, packets that come twice, a thief, and
-- a node that leaves.
use Rattle.std.specs.Prelude.{◌≡◌, refl, ℕ, pos, ◌^◌, List, [], ◌∷◌, ◌++◌, map}
use Rattle.ids.specs.Members.{follow}
use Rattle.ids.specs.Names.{Grant, house_of}
use Rattle.ids.specs.declared.member.Status.TheVariants.{Live}
use Rattle.ids.specs.declared.outcome.Outcome.TheVariants.{Value}
use Rattle.ids.specs.declared.work.Record.{Record}
use Rattle.codec.specs.Table.{PacketOf}
use Rattle.codec.specs.declared.body.Body.{Body}
use Rattle.codec.specs.declared.body.Body.TheVariants as body
use Rattle.serial_meaning.proofs.Fib.{Pointer}
use Rattle.steal_protocol.specs.Replies.{by_order}
use Rattle.subcomputation.specs.Subs.{SubOf}
use Rattle.node_state.specs.Node.{by_state, starting}
use Rattle.node_steps.specs.Calls.{ask, depart, exec, resend, start}
use Rattle.node_steps.specs.Cases.{by_option, by_status, on_body, on_packet}
use Rattle.node_steps.specs.Steps.{StepOf, Ignored, Refused, for_some}
use Rattle.node_steps.specs.declared.error.NodeError.TheVariants as error
use Rattle.node_steps.specs.declared.parts.Victim.TheVariants.{House}
use Rattle.node_calls.proofs.Playing.{Call, Comes, Asks, Runs, job_of, play, answer_after}

abbrev house : ℕ
house = house_of 1

-- the root's grant in the first epoch
abbrev root : Grant
root = record { minter = house; number = 1 }

abbrev to : ℕ → Body → PacketOf
to i b = record { job = 1; to = i; body = b }

-- rosters of the first epoch: worker 3 alone, and with worker 5
abbrev listed : Body
listed = body.Roster (record { epoch = 1; version = 2; members = record { incarnation = 3; status = Live } ∷ [] })

abbrev both_listed : Body
both_listed = body.Roster (record {
  epoch = 1;
  version = 3;
  members = record { incarnation = 3; status = Live } ∷ record { incarnation = 5; status = Live } ∷ [];
})

abbrev root_granted : Body
root_granted = body.Grant (record {
  seq = 1;
  grant = root;
  task = record { place = []; thread = 0; numbers = pos 2 ∷ [] };
  saved = [];
})

-- worker 3 joins, gets the root, and runs it alone: the second kid first
abbrev alone : List Call
alone = Comes listed ∷ Asks House ∷ Comes root_granted ∷ Runs root 0 ∷ Runs root 3 ∷ Runs root 2 ∷ Runs root 1 ∷ []

run_alone : Pointer → StepOf
unfolding on_body on_packet by_state by_option by_status by_order for_some ask exec depart resend follow
run_alone p = play (job_of p) alone [] (start (job_of p) 3)

sent_alone : (p : Pointer) → (run_alone p).sent ≡
    to (2 ^ 63) (body.Join (record { from = 3 })) ∷
    to house (body.Steal (record { from = 3; seq = 1 })) ∷
    to house (body.Result (record { from = 3; grant = root; outcome = Value (pos 1) })) ∷ []
unfolding run_alone by_state by_option by_status by_order for_some on_body on_packet ask exec depart resend follow
sent_alone p = refl

fills_alone : (p : Pointer) → (run_alone p).fills ≡
    record { grant = root; frame = 1; slot = 1; place = 0 ∷ []; value = pos 0 } ∷
    record { grant = root; frame = 1; slot = 0; place = 0 ∷ []; value = pos 1 } ∷ []
unfolding run_alone by_state by_option by_status by_order for_some on_body on_packet ask exec depart resend follow
fills_alone p = refl

-- the clearinghouse's Grant comes again: ignored
again : (p : Pointer) → answer_after (job_of p) (Comes listed ∷ Asks House ∷ Comes root_granted ∷ [])
    (Comes root_granted) [] (starting 3) ≡ Ignored
unfolding on_body on_packet by_state by_option by_status by_order for_some ask exec depart resend follow
again p = refl

-- a frame is carried out twice: E40
twice : (p : Pointer) → answer_after (job_of p)
    (Comes listed ∷ Asks House ∷ Comes root_granted ∷ Runs root 0 ∷ Runs root 3 ∷ []) (Runs root 3) [] (starting 3)
    ≡ Refused error.Stale
unfolding on_body on_packet by_state by_option by_status by_order for_some ask exec depart resend follow
twice p = refl

-- a request of worker 5 comes twice to worker 3, which has two ready frames: the same Grant twice,
-- of frame 3, and one record
abbrev asked_twice : List Call
asked_twice =
    Comes both_listed ∷ Asks House ∷ Comes root_granted ∷ Runs root 0 ∷ Comes
    (body.Steal (record { from = 5; seq = 1 })) ∷
    Comes (body.Steal (record { from = 5; seq = 1 })) ∷ []

run_asked_twice : Pointer → StepOf
unfolding on_body on_packet by_state by_option by_status by_order for_some ask exec depart resend follow
run_asked_twice p = play (job_of p) asked_twice [] (start (job_of p) 3)

abbrev kid_granted : PacketOf
kid_granted =
    to 5 (body.Grant (record {
      seq = 1;
      grant = record { minter = 3; number = 1 };
      task = record { place = 2 ∷ []; thread = 0; numbers = pos 0 ∷ [] };
      saved = [];
    }))

sent_asked_twice : (p : Pointer) → (run_asked_twice p).sent ≡
    to (2 ^ 63) (body.Join (record { from = 3 })) ∷ to house (body.Steal
    (record { from = 3; seq = 1 })) ∷ kid_granted ∷ kid_granted ∷ []
unfolding run_asked_twice by_state by_option by_status by_order for_some on_body on_packet ask exec depart resend follow
sent_asked_twice p = refl

one_record : (p : Pointer) → map (λ (s : SubOf). map (λ (r : Record). r.frame) s.content.records)
    (run_asked_twice p).after.subs ≡ (3 ∷ []) ∷ []
unfolding run_asked_twice by_state by_option by_status by_order for_some on_body on_packet ask exec depart resend follow
one_record p = refl

-- the thief's Result comes twice: acknowledged twice, one fill, and one Save; then the rest runs
abbrev returned : Body
returned = body.Result (record { from = 5; grant = record { minter = 3; number = 1 }; outcome = Value (pos 0) })

run_stolen : Pointer → StepOf
unfolding on_body on_packet by_state by_option by_status by_order for_some ask exec depart resend follow
run_stolen p = play (job_of p) (asked_twice ++ Comes returned ∷ Comes returned ∷ Runs root 2 ∷ Runs root 1 ∷ []) []
    (start (job_of p) 3)

fills_stolen : (p : Pointer) → (run_stolen p).fills ≡
    record { grant = root; frame = 1; slot = 1; place = 0 ∷ []; value = pos 0 } ∷
    record { grant = root; frame = 1; slot = 0; place = 0 ∷ []; value = pos 1 } ∷ []
unfolding run_stolen by_state by_option by_status by_order for_some on_body on_packet ask exec depart resend follow
fills_stolen p = refl

abbrev acknowledged : PacketOf
acknowledged = to 5 (body.ResultAck (record { grant = record { minter = 3; number = 1 } }))

sent_stolen : (p : Pointer) → (run_stolen p).sent ≡
    to (2 ^ 63) (body.Join (record { from = 3 })) ∷ to house (body.Steal
    (record { from = 3; seq = 1 })) ∷ kid_granted ∷ kid_granted ∷
    acknowledged ∷ to house (body.Save (record { from = 3; place = 2 ∷ []; value = pos 0 })) ∷ acknowledged ∷ to
    house (body.Result (record { from = 3; grant = root; outcome = Value (pos 1) })) ∷ []
unfolding run_stolen by_state by_option by_status by_order for_some on_body on_packet ask exec depart resend follow
sent_stolen p = refl

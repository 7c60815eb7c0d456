-- Worked runs of the clearinghouse on the Fibonacci program on 2: members that join, fall silent
-- and leave, the root's grant and the outcome.
use Rattle.std.specs.Prelude.{◌≡◌, refl, ℕ, pos, ◌-◌, ◌^◌, List, [], ◌∷◌, ◌++◌, Option, None, Some, Ok}
use Rattle.ids.specs.Members.{follow}
use Rattle.ids.specs.Names.{Grant, house_of}
use Rattle.ids.specs.declared.member.Member.{Member}
use Rattle.ids.specs.declared.member.Status.TheVariants.{Live, Dead, Left}
use Rattle.ids.specs.declared.outcome.Outcome.{Outcome}
use Rattle.ids.specs.declared.outcome.Outcome.TheVariants.{Value}
use Rattle.packet_fields.specs.declared.fault.Fault.TheVariants as fault
use Rattle.codec.specs.Table.{PacketOf, fields, join as kind_join, packet, reading}
use Rattle.packet_fields.specs.Fields.{worker}
use Rattle.codec.specs.declared.body.Body.{Body}
use Rattle.codec.specs.declared.body.Body.TheVariants as body
use Rattle.serial_meaning.proofs.Fib.{Pointer}
use Rattle.steal_protocol.specs.Replies.{by_order}
use Rattle.clearinghouse.specs.Calls.{next_epoch, on_bytes, open_over, outcome, passes}
use Rattle.clearinghouse.specs.Cases.{by_status, on_body, on_packet}
use Rattle.clearinghouse.specs.House.{HouseOf, Kept, Open, kept_of, members_of, name_of, opened, roster_of}
use Rattle.clearinghouse.specs.Moves.{lists, refuses}
use Rattle.clearinghouse.specs.Steps.{Ignored, Refused, Does, sends}
use Rattle.clearinghouse.specs.declared.error.HouseError.TheVariants as error
use Rattle.clearinghouse.specs.declared.parts.RootGrant.{RootGrant}
use Rattle.clearinghouse.proofs.Playing.{Call, Comes, Ticks, Event, Commits, Sends, job_of, first, events, after, answer_after}

abbrev house : ℕ
house = house_of 1

-- the root's grant, by its number in the first epoch
abbrev root : ℕ → Grant
root number = record { minter = house; number = number }

abbrev packet_to : ℕ → Body → PacketOf
packet_to i b = record { job = 1; to = i; body = b }

abbrev to : ℕ → Body → Event
to i b = Sends (packet_to i b)

abbrev member : ℕ → Member
member i = record { incarnation = i; status = Live }

abbrev dead : ℕ → Member
dead i = record { incarnation = i; status = Dead }

abbrev left : (i heir : ℕ) → Member
left i heir = record { incarnation = i; status = Left heir }

-- a worker is told who is listed
abbrev roster_packet : ℕ → ℕ → List Member → PacketOf
roster_packet i version members = packet_to i (body.Roster (record { epoch = 1; version = version; members = members }))

abbrev told : ℕ → ℕ → List Member → Event
told i version members = Sends (roster_packet i version members)

abbrev join : ℕ → Call
join i = Comes (2 ^ 63) (body.Join (record { from = i }))

abbrev ask : ℕ → ℕ → Call
ask i seq = Comes house (body.Steal (record { from = i; seq = seq }))

-- a thief is granted the root, under a number, or is refused
abbrev granted : ℕ → ℕ → ℕ → Event
granted i seq number = to i (body.Grant
    (record {
      seq = seq;
      grant = root number;
      task = record { place = []; thread = 0; numbers = pos 2 ∷ [] };
      saved = [];
    }))

abbrev refused : ℕ → ℕ → Event
refused i seq = to i (body.Refuse (record { seq = seq }))

-- a holder is told to stop
abbrev aborted : ℕ → ℕ → Event
aborted i number = to i (body.Abort (record { grant = root number }))

-- the first epoch begins over a checkpoint that was just formatted, and is committed; none begins
-- behind the last
first_epoch : open_over 500 (record { sequence = 0; epoch = 0; outcome = None; saved = [] }) ≡
    Does (record {
      after = first;
      commits = Some (record { sequence = 1; epoch = 1; outcome = None; saved = [] });
      sent = [];
    })
first_epoch = refl

last_epoch : (o : Option Outcome) → open_over 500 (record { sequence = 5; epoch = 2 ^ 63 - 1; outcome = o; saved = [] })
    ≡ Refused error.Spent
last_epoch o = refl

last_commit : (o : Option Outcome) → open_over 500
    (record { sequence = 2 ^ 64 - 1; epoch = 5; outcome = o; saved = [] }) ≡ Refused error.Spent
last_commit o = refl

-- a byte is no packet; a stopped clearinghouse doesn't look at it
one_byte : (p : Pointer) → on_bytes (job_of p) (0x43 ∷ []) (Open first) ≡ Refused (error.Bytes fault.Short)
unfolding reading packet
one_byte p = refl

-- the bytes of worker 3's Join
abbrev join_bytes : List ℕ
join_bytes =
    0x43 ∷ 0x4E ∷ 1 ∷ 1 ∷ 0 ∷ 0 ∷ 0 ∷ 0 ∷ 0 ∷ 0 ∷ 0 ∷ 1 ∷
    0x80 ∷ 0 ∷ 0 ∷ 0 ∷ 0 ∷ 0 ∷ 0 ∷ 0 ∷ 0 ∷ 0 ∷ 0 ∷ 0 ∷ 0 ∷ 0 ∷ 0 ∷ 3 ∷ []

read : (p : Pointer) → on_bytes (job_of p) join_bytes (Open first)
    ≡ Does (sends (roster_packet 3 2 (member 3 ∷ []) ∷ []) (after (job_of p) (join 3 ∷ [])))
unfolding reading packet fields kind_join worker on_body on_packet by_status by_order passes follow
read p = refl

-- a worker joins, and is told of version 2
joined : (p : Pointer) → events (job_of p) (join 3 ∷ []) ≡ told 3 2 (member 3 ∷ []) ∷ []
unfolding on_body on_packet by_status by_order passes follow
joined p = refl

-- the root is asked for twice with one count: the same Grant twice; another thief, and a newer
-- request, are refused
asked_twice : (p : Pointer) → events (job_of p) (join 3 ∷ join 5 ∷ ask 3 1 ∷ ask 3 1 ∷ ask 5 1 ∷ ask 3 2 ∷ []) ≡
    told 3 2 (member 3 ∷ []) ∷ told 5 3
    (member 3 ∷ member 5 ∷ []) ∷ granted 3 1 1 ∷ granted 3 1 1 ∷ refused 5 1 ∷ refused 3 2 ∷ []
unfolding on_body on_packet by_status by_order passes follow
asked_twice p = refl

-- the root's Result is committed and then acknowledged; the same again is acknowledged alone, and
-- the root isn't granted any more
abbrev result : ℕ → ℕ → Call
result i number = Comes house (body.Result (record { from = i; grant = root number; outcome = Value (pos 1) }))

abbrev acknowledged : ℕ → ℕ → Event
acknowledged i number = to i (body.ResultAck (record { grant = root number }))

abbrev found : ℕ → Kept
found sequence = record { sequence = sequence; epoch = 1; outcome = Some (Value (pos 1)); saved = [] }

abbrev alone : List Call
alone = join 3 ∷ ask 3 1 ∷ result 3 1 ∷ []

recorded : (p : Pointer) → events (job_of p) (alone ++ result 3 1 ∷ ask 3 2 ∷ []) ≡
    told 3 2 (member 3 ∷ []) ∷ granted 3 1 1 ∷ Commits
    (found 2) ∷ acknowledged 3 1 ∷ acknowledged 3 1 ∷ refused 3 2 ∷ []
unfolding on_body on_packet by_status by_order passes follow
recorded p = refl

outcome_known : (p : Pointer) → outcome (Open (after (job_of p) alone)) ≡ Ok (Some (Value (pos 1)))
unfolding on_body on_packet by_status by_order passes follow
outcome_known p = refl

-- none is known before it
outcome_unknown : (p : Pointer) → outcome (Open (after (job_of p) (join 3 ∷ ask 3 1 ∷ []))) ≡ Ok None
unfolding on_body on_packet by_status by_order passes follow
outcome_unknown p = refl

-- a Result of another grant is acknowledged, and the root's grant stays out
abbrev root_at : ℕ → ℕ → Option RootGrant
root_at number holder = Some (record { grant = root number; holder = holder })

other_result : (p : Pointer) → answer_after (job_of p) (join 3 ∷ ask 3 1 ∷ []) (result 3 7) ≡
    Does (sends (packet_to 3 (body.ResultAck (record { grant = root 7 })) ∷ [])
    (after (job_of p) (join 3 ∷ ask 3 1 ∷ [])))
unfolding on_body on_packet by_status by_order passes follow
other_result p = refl

root_stays : (p : Pointer) → (after (job_of p) (join 3 ∷ ask 3 1 ∷ result 3 7 ∷ [])).root ≡ root_at 1 3
unfolding on_body on_packet by_status by_order passes follow
root_stays p = refl

-- the next epoch has another name, and the outcome; it grants nothing
abbrev again : Pointer → HouseOf
again p = opened 500 (next_epoch (kept_of (after (job_of p) alone)))

abbrev listed_again : Pointer → HouseOf
listed_again p = lists 3 (again p)

epoch_2 : (p : Pointer) → name_of (again p) ≡ house_of 2
unfolding on_body on_packet by_status by_order passes follow
epoch_2 p = refl

outcome_found : (p : Pointer) → on_packet (job_of p)
    (record { job = 1; to = house_of 2; body = body.Steal (record { from = 3; seq = 1 }) }) (listed_again p) ≡
    Does (refuses (job_of p) (record { from = 3; seq = 1 }) (listed_again p))
unfolding on_body on_packet by_status by_order passes follow
outcome_found p = refl

-- a member that was silent for 500 lives; after 501 it is dead
silent_for_500 : (p : Pointer) → roster_of (after (job_of p) (join 3 ∷ Ticks 500 ∷ []))
    ≡ record { epoch = 1; version = 2; members = member 3 ∷ [] }
unfolding on_body on_packet by_status by_order passes follow
silent_for_500 p = refl

silent_for_501 : (p : Pointer) → roster_of (after (job_of p) (join 3 ∷ Ticks 501 ∷ []))
    ≡ record { epoch = 1; version = 3; members = dead 3 ∷ [] }
unfolding on_body on_packet by_status by_order passes follow
silent_for_501 p = refl

-- a Beat or another Join counts from the last moment on; one that joined later lives longer, and
-- one version has two deaths
abbrev beat : (epoch i version : ℕ) → Call
beat epoch i version = Comes (house_of epoch) (body.Beat (record { from = i; version = version }))

heard_at_100 : (p : Pointer) → members_of
    (after (job_of p) (join 3 ∷ join 4 ∷ join 5 ∷ Ticks 100 ∷ beat 1 3 2 ∷ join 4 ∷ join 6 ∷ Ticks 600 ∷ [])) ≡
    member 3 ∷ member 4 ∷ dead 5 ∷ member 6 ∷ []
unfolding on_body on_packet by_status by_order passes follow
heard_at_100 p = refl

two_deaths : (p : Pointer) → roster_of (after (job_of p) (join 3 ∷ join 5 ∷ Ticks 501 ∷ []))
    ≡ record { epoch = 1; version = 4; members = dead 3 ∷ dead 5 ∷ [] }
unfolding on_body on_packet by_status by_order passes follow
two_deaths p = refl

-- a moment that is no later than the last changes nothing
late : (p : Pointer) → answer_after (job_of p) (join 3 ∷ Ticks 500 ∷ []) (Ticks 500)
    ≡ Does (sends [] (after (job_of p) (join 3 ∷ Ticks 500 ∷ [])))
unfolding on_body on_packet by_status by_order passes follow
late p = refl

-- a dead member that joins is told that it is dead, and nothing changes; a dead thief is ignored
dead_joins : (p : Pointer) → answer_after (job_of p) (join 3 ∷ Ticks 501 ∷ []) (join 3) ≡
    Does (sends (roster_packet 3 3 (dead 3 ∷ []) ∷ []) (after (job_of p) (join 3 ∷ Ticks 501 ∷ [])))
unfolding on_body on_packet by_status by_order passes follow
dead_joins p = refl

dead_asks : (p : Pointer) → answer_after (job_of p) (join 3 ∷ Ticks 501 ∷ []) (ask 3 1) ≡ Ignored
unfolding on_body on_packet by_status by_order passes follow
dead_asks p = refl

unlisted_asks : (p : Pointer) → answer_after (job_of p) (join 3 ∷ []) (ask 5 1) ≡ Ignored
unfolding on_body on_packet by_status by_order passes follow
unlisted_asks p = refl

-- an older request is ignored
older_asks : (p : Pointer) → answer_after (job_of p) (join 3 ∷ ask 3 2 ∷ []) (ask 3 1) ≡ Ignored
unfolding on_body on_packet by_status by_order passes follow
older_asks p = refl

-- a Beat of another epoch is answered, though nobody of that name is listed; one of this epoch then
-- is ignored
other_epoch : (p : Pointer) → answer_after (job_of p) (join 3 ∷ []) (beat 2 5 9) ≡
    Does (sends (roster_packet 5 2 (member 3 ∷ []) ∷ []) (after (job_of p) (join 3 ∷ [])))
unfolding on_body on_packet by_status by_order passes follow
other_epoch p = refl

unlisted_beats : (p : Pointer) → answer_after (job_of p) (join 3 ∷ []) (beat 1 5 9) ≡ Ignored
unfolding on_body on_packet by_status by_order passes follow
unlisted_beats p = refl

-- a Beat of an older version is answered, also a dead member's, which isn't heard; one of this
-- version is heard alone
older_version : (p : Pointer) → events (job_of p) (join 3 ∷ join 5 ∷ beat 1 3 2 ∷ beat 1 3 3 ∷ []) ≡
    told 3 2 (member 3 ∷ []) ∷ told 5 3 (member 3 ∷ member 5 ∷ []) ∷ told 3 3 (member 3 ∷ member 5 ∷ []) ∷ []
unfolding on_body on_packet by_status by_order passes follow
older_version p = refl

dead_beats : (p : Pointer) → answer_after (job_of p) (join 3 ∷ Ticks 501 ∷ []) (beat 1 3 2) ≡
    Does (sends (roster_packet 3 3 (dead 3 ∷ []) ∷ []) (after (job_of p) (join 3 ∷ Ticks 501 ∷ [])))
unfolding on_body on_packet by_status by_order passes follow
dead_beats p = refl

-- a member leaves to a live one, and is told so, twice if it says so twice
abbrev leave : (i heir : ℕ) → Call
leave i heir = Comes house (body.Leave (record { from = i; heir = heir }))

-- the last events, after two have joined
abbrev both_told : List Event
both_told = told 3 2 (member 3 ∷ []) ∷ told 5 3 (member 3 ∷ member 5 ∷ []) ∷ []

left_twice : (p : Pointer) → events (job_of p) (join 3 ∷ join 5 ∷ leave 3 5 ∷ leave 3 5 ∷ []) ≡
    both_told ++ told 3 4 (left 3 5 ∷ member 5 ∷ []) ∷ told 3 4 (left 3 5 ∷ member 5 ∷ []) ∷ []
unfolding on_body on_packet by_status by_order passes follow
left_twice p = refl

-- to an heir that has left: to whoever has that one's work
left_to_the_last : (p : Pointer) → members_of (after (job_of p) (join 3 ∷ join 5 ∷ join 7 ∷ leave 5 7 ∷ leave 3 5 ∷ []))
    ≡ left 3 7 ∷ left 5 7 ∷ member 7 ∷ []
unfolding on_body on_packet by_status by_order passes follow
left_to_the_last p = refl

-- to a dead heir, and to one that isn't listed: dead
left_to_the_dead : (p : Pointer) → roster_of
    (after (job_of p) (join 3 ∷ Ticks 400 ∷ join 5 ∷ Ticks 501 ∷ leave 5 3 ∷ []))
    ≡ record { epoch = 1; version = 5; members = dead 3 ∷ dead 5 ∷ [] }
unfolding on_body on_packet by_status by_order passes follow
left_to_the_dead p = refl

left_to_nobody : (p : Pointer) → members_of (after (job_of p) (join 3 ∷ leave 3 5 ∷ [])) ≡ dead 3 ∷ []
unfolding on_body on_packet by_status by_order passes follow
left_to_nobody p = refl

-- to itself, by an heir that left to it: dead. With the root's grant it is told who is listed, and
-- then to stop
left_to_itself : (p : Pointer) → events (job_of p) (join 3 ∷ join 5 ∷ ask 3 1 ∷ leave 5 3 ∷ leave 3 5 ∷ []) ≡
    both_told ++ granted 3 1 1 ∷ told 5 4 (member 3 ∷ left 5 3 ∷ []) ∷ told 3 5
    (dead 3 ∷ left 5 3 ∷ []) ∷ aborted 3 1 ∷ []
unfolding on_body on_packet by_status by_order passes follow
left_to_itself p = refl

-- one that isn't listed and leaves is ignored
unlisted_leaves : (p : Pointer) → answer_after (job_of p) (join 3 ∷ []) (leave 5 3) ≡ Ignored
unfolding on_body on_packet by_status by_order passes follow
unlisted_leaves p = refl

-- the heir of the root's holder is its holder, and is told to stop when it is dead
root_left : (p : Pointer) → (after (job_of p) (join 3 ∷ join 5 ∷ ask 3 1 ∷ leave 3 5 ∷ [])).root ≡ root_at 1 5
unfolding on_body on_packet by_status by_order passes follow
root_left p = refl

heir_dies : (p : Pointer) → events (job_of p) (join 3 ∷ join 5 ∷ ask 3 1 ∷ leave 3 5 ∷ Ticks 501 ∷ []) ≡
    both_told ++ granted 3 1 1 ∷ told 3 4 (left 3 5 ∷ member 5 ∷ []) ∷ aborted 5 1 ∷ []
unfolding on_body on_packet by_status by_order passes follow
heir_dies p = refl

-- the root's holder is dead: it is told to stop, and the root is granted again under another
-- number; the old Result is acknowledged, and the new one is the outcome
granted_again : (p : Pointer) → events (job_of p)
    (join 3 ∷ ask 3 1 ∷ Ticks 501 ∷ join 5 ∷ ask 5 1 ∷ result 3 1 ∷ result 5 2 ∷ []) ≡
    told 3 2 (member 3 ∷ []) ∷ granted 3 1 1 ∷ aborted 3 1 ∷ told 5 4 (dead 3 ∷ member 5 ∷ []) ∷ granted 5 1 2 ∷
    acknowledged 3 1 ∷ Commits (found 2) ∷ acknowledged 5 2 ∷ []
unfolding on_body on_packet by_status by_order passes follow
granted_again p = refl

-- a packet of another job, to another address, or of a kind that isn't for the clearinghouse is
-- ignored
other_job : (p : Pointer) → on_packet (job_of p)
    (record { job = 2; to = 2 ^ 63; body = body.Join (record { from = 3 }) }) first ≡ Ignored
unfolding on_body on_packet by_status by_order passes follow
other_job p = refl

other_address : (p : Pointer) → answer_after (job_of p) (join 3 ∷ [])
    (Comes (house_of 2) (body.Steal (record { from = 3; seq = 1 }))) ≡ Ignored
unfolding on_body on_packet by_status by_order passes follow
other_address p = refl

other_kind : (p : Pointer) → answer_after (job_of p) (join 3 ∷ [])
    (Comes house (body.Abort (record { grant = root 1 }))) ≡ Ignored
unfolding on_body on_packet by_status by_order passes follow
other_kind p = refl

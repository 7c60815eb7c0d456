-- The table of packets: the fields of each kind, and the packet.
use Rattle.std.specs.Prelude.{◌≡◌, ◌^◌, ◌≤◌, ◌<◌, ◌&&◌, ◌||◌, ℕ, zero, suc, Bool, true, false, not, nat_eq, nat_lt, if◌then◌else◌, List, [], length, Result, Ok, Err}
use Rattle.ids.specs.Names.{is_actor, is_worker}
use Rattle.packet_fields.specs.declared.fault.Fault.{Fault}
use Rattle.packet_fields.specs.declared.fault.Fault.TheVariants as fault
use Rattle.packet_fields.specs.Format.{Format, ◌>>=◌, constant, followed, is_empty, made, number, tested}
use Rattle.packet_fields.specs.Fields as field
use Rattle.codec.specs.declared.body.Body.{Body}
use Rattle.codec.specs.declared.body.Body.TheVariants as body
use Rattle.codec.specs.declared.body.Kind.{Kind}
use Rattle.codec.specs.declared.body.Kind.TheVariants as kinds
use Rattle.codec.specs.declared.body.Join.{Join}
use Rattle.codec.specs.declared.body.Roster.{Roster}
use Rattle.codec.specs.declared.body.Steal.{Steal}
use Rattle.codec.specs.declared.body.Grant.{Grant}
use Rattle.codec.specs.declared.body.Refuse.{Refuse}
use Rattle.codec.specs.declared.body.TaskResult.{TaskResult}
use Rattle.codec.specs.declared.body.ResultAck.{ResultAck}
use Rattle.codec.specs.declared.body.Offer.{Offer}
use Rattle.codec.specs.declared.body.OfferAck.{OfferAck}
use Rattle.codec.specs.declared.body.Leave.{Leave}
use Rattle.codec.specs.declared.body.Abort.{Abort}
use Rattle.codec.specs.declared.body.Beat.{Beat}
use Rattle.codec.specs.declared.body.Piece.{Piece}
use Rattle.codec.specs.declared.body.Save.{Save}

-- a worker wants to be a member
unfoldable pub join : Format Join
join = made field.worker (λ x. record { from = x }) (λ b. b.from)

-- the members of an epoch, in a version that counts their changes
unfoldable pub roster : Format Roster
roster = made (followed field.epoch (λ _. followed field.counted (λ _. field.members))) (λ x. record { epoch = x.0; version = x.1.0; members = x.1.1 }) (λ b. (b.epoch, (b.version, b.members)))

-- a worker asks for work
unfoldable pub steal : Format Steal
steal = made (followed field.worker (λ _. field.counted)) (λ x. record { from = x.0; seq = x.1 }) (λ b. (b.from, b.seq))

-- the task that a request is answered with, under the name of its grant
unfoldable pub granted : Format Grant
granted =
    made (followed field.counted (λ _. followed field.grant (λ _. followed field.task (λ _. field.no_values))))
    (λ x. record { seq = x.0; grant = x.1.0; task = x.1.1.0; saved = x.1.1.1 })
    (λ b. (b.seq, (b.grant, (b.task, b.saved))))

-- the same with saved values
unfoldable pub saved_grant : Format Grant
saved_grant =
    made (followed field.counted (λ _. followed field.grant (λ _. followed field.task (λ _. field.saved_values))))
    (λ x. record { seq = x.0; grant = x.1.0; task = x.1.1.0; saved = x.1.1.1 })
    (λ b. (b.seq, (b.grant, (b.task, b.saved))))

-- that of a Grant which has some, or none
abbrev pub grant_format : Bool → Format Grant
grant_format true = saved_grant
grant_format false = granted

-- a request is answered with no work
unfoldable pub refuse : Format Refuse
refuse = made field.counted (λ x. record { seq = x }) (λ b. b.seq)

-- the outcome of a granted task
unfoldable pub task_result : Format TaskResult
task_result = made (followed field.worker (λ _. followed field.grant (λ _. field.outcome))) (λ x. record { from = x.0; grant = x.1.0; outcome = x.1.1 }) (λ b. (b.from, (b.grant, b.outcome)))

-- the outcome of a grant has come
unfoldable pub result_ack : Format ResultAck
result_ack = made field.grant (λ x. record { grant = x }) (λ b. b.grant)

-- a subcomputation for the heir: frames and records have numbers below the next one, and there are
-- none where it is finished
unfoldable pub offer : Format Offer
offer =
    made
    (followed field.worker (λ _. followed field.grant (λ _. followed field.raised (λ _. followed field.actor (λ _.
    followed field.progress (λ progress. followed field.task (λ _. followed field.raised (λ next.
    followed (field.frames progress next) (λ _. field.records progress next)))))))))
    (λ x. record {
      from = x.0;
      grant = x.1.0;
      hop = x.1.1.0;
      parent = x.1.1.1.0;
      progress = x.1.1.1.1.0;
      task = x.1.1.1.1.1.0;
      next = x.1.1.1.1.1.1.0;
      frames = x.1.1.1.1.1.1.1.0;
      records = x.1.1.1.1.1.1.1.1;
    })
    (λ b. (b.from, (b.grant, (b.hop, (b.parent, (b.progress, (b.task, (b.next, (b.frames, b.records)))))))))

-- an offer of this hop was taken, or a grant for hop 0
unfoldable pub offer_ack : Format OfferAck
offer_ack = made (followed field.worker (λ _. followed field.grant (λ _. field.hop))) (λ x. record { from = x.0; grant = x.1.0; hop = x.1.1 }) (λ b. (b.from, (b.grant, b.hop)))

-- a worker leaves; its heir is another worker
unfoldable pub leave : Format Leave
leave =
    made (followed field.worker (λ from. field.other_worker from)) (λ x. record { from = x.0; heir = x.1 })
    (λ b. (b.from, b.heir))

-- the outcome of a grant isn't wanted any more
unfoldable pub abort : Format Abort
abort = made field.grant (λ x. record { grant = x }) (λ b. b.grant)

-- a worker lives, and has a roster of this version
unfoldable pub beat : Format Beat
beat = made (followed field.worker (λ _. field.counted)) (λ x. record { from = x.0; version = x.1 }) (λ b. (b.from, b.version))

-- a part of an offer that is too long for one packet
unfoldable pub piece : Format Piece
piece =
    made
    (followed field.worker (λ _. followed field.grant (λ _. followed field.raised (λ _. followed field.pieces (λ pieces. followed (field.piece_of pieces) (λ number. field.part pieces number))))))
    (λ x. record { from = x.0; grant = x.1.0; hop = x.1.1.0; pieces = x.1.1.1.0; number = x.1.1.1.1.0; bytes = x.1.1.1.1.1 })
    (λ b. (b.from, (b.grant, (b.hop, (b.pieces, (b.number, b.bytes))))))

-- a worker hands the value of a task to the clearinghouse
unfoldable pub save : Format Save
save =
    made (followed field.worker (λ _. followed field.place (λ _. field.signed)))
    (λ x. record { from = x.0; place = x.1.0; value = x.1.1 })
    (λ b. (b.from, (b.place, b.value)))

-- the number of a kind
abbrev pub number_of : Kind → ℕ
number_of kinds.Join = 1
number_of kinds.Roster = 2
number_of kinds.Steal = 3
number_of kinds.Grant = 4
number_of kinds.Refuse = 5
number_of kinds.Result = 6
number_of kinds.ResultAck = 7
number_of kinds.Offer = 8
number_of kinds.OfferAck = 9
number_of kinds.Leave = 10
number_of kinds.Abort = 11
number_of kinds.Beat = 12
number_of kinds.Piece = 13
number_of kinds.Save = 14
number_of kinds.SavedGrant = 15

-- whether a Grant has saved values
abbrev pub is_saved : Grant → Bool
is_saved b = not (is_empty b.saved)

-- whether it is a Grant that has some
abbrev pub has_saved : Body → Bool
has_saved (body.Grant b) = is_saved b
has_saved other = false

-- the number of the kind of a body
abbrev pub kind_of : Body → ℕ
kind_of (body.Join b) = 1
kind_of (body.Roster b) = 2
kind_of (body.Steal b) = 3
kind_of (body.Grant b) = if is_saved b then 15 else 4
kind_of (body.Refuse b) = 5
kind_of (body.Result b) = 6
kind_of (body.ResultAck b) = 7
kind_of (body.Offer b) = 8
kind_of (body.OfferAck b) = 9
kind_of (body.Leave b) = 10
kind_of (body.Abort b) = 11
kind_of (body.Beat b) = 12
kind_of (body.Piece b) = 13
kind_of (body.Save b) = 14

-- from these bytes up to those, the fields of the kind are spelled
abbrev pub SpelledBody : List ℕ → List ℕ → Body → Type 0
SpelledBody from to (body.Join b) = join.Spelled from to b
SpelledBody from to (body.Roster b) = roster.Spelled from to b
SpelledBody from to (body.Steal b) = steal.Spelled from to b
SpelledBody from to (body.Grant b) = (grant_format (is_saved b)).Spelled from to b
SpelledBody from to (body.Refuse b) = refuse.Spelled from to b
SpelledBody from to (body.Result b) = task_result.Spelled from to b
SpelledBody from to (body.ResultAck b) = result_ack.Spelled from to b
SpelledBody from to (body.Offer b) = offer.Spelled from to b
SpelledBody from to (body.OfferAck b) = offer_ack.Spelled from to b
SpelledBody from to (body.Leave b) = leave.Spelled from to b
SpelledBody from to (body.Abort b) = abort.Spelled from to b
SpelledBody from to (body.Beat b) = beat.Spelled from to b
SpelledBody from to (body.Piece b) = piece.Spelled from to b
SpelledBody from to (body.Save b) = save.Spelled from to b

-- the bytes of the fields
abbrev pub write_body : Body → List ℕ
write_body (body.Join b) = join.write b
write_body (body.Roster b) = roster.write b
write_body (body.Steal b) = steal.write b
write_body (body.Grant b) = (grant_format (is_saved b)).write b
write_body (body.Refuse b) = refuse.write b
write_body (body.Result b) = task_result.write b
write_body (body.ResultAck b) = result_ack.write b
write_body (body.Offer b) = offer.write b
write_body (body.OfferAck b) = offer_ack.write b
write_body (body.Leave b) = leave.write b
write_body (body.Abort b) = abort.write b
write_body (body.Beat b) = beat.write b
write_body (body.Piece b) = piece.write b
write_body (body.Save b) = save.write b

-- whether the fields can be written
abbrev pub fits_body : Body → Bool
fits_body (body.Join b) = join.fits b
fits_body (body.Roster b) = roster.fits b
fits_body (body.Steal b) = steal.fits b
fits_body (body.Grant b) = (grant_format (is_saved b)).fits b
fits_body (body.Refuse b) = refuse.fits b
fits_body (body.Result b) = task_result.fits b
fits_body (body.ResultAck b) = result_ack.fits b
fits_body (body.Offer b) = offer.fits b
fits_body (body.OfferAck b) = offer_ack.fits b
fits_body (body.Leave b) = leave.fits b
fits_body (body.Abort b) = abort.fits b
fits_body (body.Beat b) = beat.fits b
fits_body (body.Piece b) = piece.fits b
fits_body (body.Save b) = save.fits b

-- whether the body is no offer: such a packet is never too big
abbrev pub is_short : Body → Bool
is_short (body.Offer b) = false
is_short other = true

-- reading the fields of one kind
abbrev pub reads : {X : Type 0} → Format X → (X → Body) → List ℕ → Result (Body × List ℕ) Fault
reads F make from = F.read from >>= λ x. Ok (make x.0, x.1)

-- reading the fields of the kind with a number
abbrev pub read_body : ℕ → List ℕ → Result (Body × List ℕ) Fault
read_body zero from = Err fault.Kind
read_body (suc zero) from = reads join body.Join from
read_body (suc (suc zero)) from = reads roster body.Roster from
read_body (suc (suc (suc zero))) from = reads steal body.Steal from
read_body (suc (suc (suc (suc zero)))) from = reads granted body.Grant from
read_body (suc (suc (suc (suc (suc zero))))) from = reads refuse body.Refuse from
read_body (suc (suc (suc (suc (suc (suc zero)))))) from = reads task_result body.Result from
read_body (suc (suc (suc (suc (suc (suc (suc zero))))))) from = reads result_ack body.ResultAck from
read_body (suc (suc (suc (suc (suc (suc (suc (suc zero)))))))) from = reads offer body.Offer from
read_body (suc (suc (suc (suc (suc (suc (suc (suc (suc zero))))))))) from = reads offer_ack body.OfferAck from
read_body (suc (suc (suc (suc (suc (suc (suc (suc (suc (suc zero)))))))))) from = reads leave body.Leave from
read_body (suc (suc (suc (suc (suc (suc (suc (suc (suc (suc (suc zero))))))))))) from = reads abort body.Abort from
read_body (suc (suc (suc (suc (suc (suc (suc (suc (suc (suc (suc (suc zero)))))))))))) from = reads beat body.Beat from
read_body (suc (suc (suc (suc (suc (suc (suc (suc (suc (suc (suc (suc (suc zero))))))))))))) from = reads piece body.Piece from
read_body (suc (suc (suc (suc (suc (suc (suc (suc (suc (suc (suc (suc (suc (suc zero)))))))))))))) from = reads save body.Save from
read_body (suc (suc (suc (suc (suc (suc (suc (suc (suc (suc (suc (suc (suc (suc (suc zero))))))))))))))) from = reads saved_grant body.Grant from
read_body (suc (suc (suc (suc (suc (suc (suc (suc (suc (suc (suc (suc (suc (suc (suc (suc n)))))))))))))))) from = Err fault.Kind

-- the fields of a kind
unfoldable pub fields : ℕ → Format Body
fields kind = record {
  Spelled = λ from to b. (kind_of b ≡ kind) × SpelledBody from to b;
  read = read_body kind;
  write = write_body;
  fits = λ b. nat_eq (kind_of b) kind && fits_body b;
}

abbrev pub is_kind : ℕ → Bool
is_kind kind = nat_lt 0 kind && nat_lt kind 16

-- the version in which a kind is spelled: a Piece, a Save and a SavedGrant in the second, all
-- others in the first
abbrev pub version_of : ℕ → ℕ
version_of kind = if nat_lt kind 13 then 1 else 2

-- there are two versions
abbrev pub is_version : ℕ → Bool
is_version version = nat_eq version 1 || nat_eq version 2

-- whether it is a kind, and of this version
abbrev pub has_kind : ℕ → ℕ → Bool
has_kind version kind = is_kind kind && nat_eq (version_of kind) version

-- the clearinghouse in an epoch
abbrev pub is_house : ℕ → Bool
is_house word = nat_lt (2 ^ 63) word && nat_lt word (2 ^ 64)

-- whom a kind goes to: Join to the clearinghouse of any epoch, Steal and Result to an actor, Leave,
-- Beat and Save to the clearinghouse in an epoch, all others to a worker
abbrev pub suits : ℕ → ℕ → Bool
suits kind to =
    if nat_eq kind 1 then nat_eq to (2 ^ 63)
    else if nat_eq kind 3 || nat_eq kind 6 then is_actor to
    else if nat_eq kind 10 || (nat_eq kind 12 || nat_eq kind 14) then is_house to
    else is_worker to

-- a packet: the number of its job, whom it goes to, and what it says
pub record PacketOf : Type 0 where
  pub job : ℕ
  pub to : ℕ
  pub body : Body

-- what has to hold of a packet, so that it has a spelling: exactly then it has one
abbrev pub is_packet : PacketOf → Bool
is_packet p = nat_lt p.job (2 ^ 64) && (suits (kind_of p.body) p.to && fits_body p.body)

-- 20 bytes stand in front of the fields: 43 4E, the version, the kind, the job and whom it goes to
unfoldable pub packet : Format PacketOf
packet =
    made
    (followed (constant fault.Magic 2 0x434E) (λ _. followed (tested fault.Version (number 1) is_version) (λ version.
    followed (tested fault.Kind (number 1) (has_kind version)) (λ kind. followed (number 8) (λ _.
    followed (field.address (suits kind)) (λ _. fields kind))))))
    (λ x. record { job = x.1.1.1.0; to = x.1.1.1.1.0; body = x.1.1.1.1.1 })
    (λ p. (tt, (version_of (kind_of p.body), (kind_of p.body, (p.job, (p.to, p.body))))))

-- the bytes are the packet's fields one after the other, all of them, and however many
abbrev pub Spelling : List ℕ → PacketOf → Type 0
Spelling bytes p = packet.Spelled bytes [] p

-- they spell the packet: they are not too many, too
abbrev pub Spells : List ℕ → PacketOf → Type 0
Spells bytes p = Spelling bytes p × (length bytes ≤ 1048576)

-- the packet's spelling has too many bytes
pub record IsTooBig (p : PacketOf) : Type 0 where
  pub bytes : List ℕ
  pub spelling : Spelling bytes p
  pub long : 1048576 < length bytes

-- the packet has a spelling
pub record IsSpelled (p : PacketOf) : Type 0 where
  pub bytes : List ℕ
  pub spelling : Spelling bytes p

-- reading all of the bytes: the packet, or the first fault
unfoldable pub reading : List ℕ → Result PacketOf Fault
reading bytes =
    if nat_lt 1048576 (length bytes) then Err fault.TooBig
    else packet.read bytes >>= λ x. if nat_eq (length x.1) 0 then Ok x.0 else Err fault.Trailing

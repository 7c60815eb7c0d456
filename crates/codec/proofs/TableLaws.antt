-- The formats of the table keep the laws of formats: those of each kind, those of the fields by
-- kinds, and the packet.
use Rattle.std.proofs.Common.{◌≡◌, ℕ, zero, suc, ◌^◌, ◌<◌, ◌≤◌, Bool, true, false, ◌||◌, cond, eqb, ltb, List, [], ◌∷◌, ◌++◌, length, Result, Ok, Err, refl, sym, ap, subst, ◌∙◌, arith}
use Rattle.std.specs.Prelude.{◌&&◌, IfOk, nat_eq, not}
use mathlib.Core.Logic.{⊎_elim}
use Rattle.std.proofs.lemmas.Bool.{and_from, and_parts, eq-eqb, eqb-true, le-ltb, lt-ltb, ltb-false, ltb-true, or_cases}
use Rattle.std.proofs.lemmas.List.{append-nil, nil_from_length}
use Rattle.ids.specs.Names.{is_actor, is_address, is_worker}
use Rattle.packet_fields.specs.declared.fault.Fault.{Fault}
use Rattle.packet_fields.specs.declared.fault.Fault.TheVariants as fault
use Rattle.packet_fields.specs.declared.fault.ReadError.{ReadError}
use Rattle.packet_fields.specs.declared.fault.ReadError.TheVariants as errors
use Rattle.ids.specs.declared.work.Frame.{Frame}
use Rattle.ids.specs.declared.outcome.Progress.{Progress}
use Rattle.ids.specs.declared.work.Record.{Record}
use Rattle.ids.specs.declared.work.Task.{Task}
use Rattle.packet_fields.specs.Format.{Fails, Format, Gives, IsBytes, ◌>>=◌, constant, end_of, followed, is_empty, number, tested}
use Rattle.packet_fields.specs.Fields as field
use Rattle.packet_fields.proofs.FormatLaws.{Lawful, bind_ok, constant_lawful, followed_lawful, made_lawful, number_lawful, ok_is, test_ok, tested_lawful, wide1, wide2, wide8}
use Rattle.packet_fields.proofs.Skipping.{ended}
use Rattle.packet_fields.proofs.FieldLaws.{actor_lawful, address_lawful, counted_lawful, epoch_lawful, frames_lawful, grant_lawful, hop_lawful, part_lawful, piece_of_lawful, pieces_lawful, members_lawful, no_values_lawful, other_worker_lawful, outcome_lawful, place_lawful, progress_lawful, raised_lawful, records_lawful, saved_values_lawful, signed_lawful, task_lawful, worker_lawful}
use Rattle.codec.specs.declared.body.Body.{Body}
use Rattle.codec.specs.declared.body.Body.TheVariants as body
use Rattle.codec.specs.declared.body.Grant.{Grant}
use Rattle.saved_values.specs.declared.value.SavedValue.{SavedValue}
use Rattle.codec.specs.Pieces.{long_reading}
use Rattle.codec.specs.Table.{IsSpelled, IsTooBig, PacketOf, SpelledBody, Spelling, Spells, abort, beat, task_result, fields, fits_body, grant_format, granted, has_kind, is_house, is_kind, is_packet, is_saved, is_version, join, kind_of, leave, offer, offer_ack, packet, piece, read_body, reading, reads, refuse, result_ack, roster, save, saved_grant, steal, suits, version_of, write_body}

-- ---- the kinds

pub join_lawful : Lawful join
unfolding join
join_lawful = made_lawful field.worker (λ x. record { from = x }) (λ b. b.from) worker_lawful (λ b. refl)
    (λ from to x s. refl)

pub roster_lawful : Lawful roster
unfolding roster
roster_lawful =
    made_lawful (followed field.epoch (λ _. followed field.counted (λ _. field.members)))
    (λ x. record { epoch = x.0; version = x.1.0; members = x.1.1 }) (λ b. (b.epoch, (b.version, b.members)))
    (followed_lawful field.epoch (λ _. followed field.counted (λ _. field.members)) epoch_lawful
    (λ _. followed_lawful field.counted (λ _. field.members) counted_lawful (λ _. members_lawful)))
    (λ b. refl)
    (λ from to x s. refl)

pub steal_lawful : Lawful steal
unfolding steal
steal_lawful =
    made_lawful (followed field.worker (λ _. field.counted)) (λ x. record { from = x.0; seq = x.1 })
    (λ b. (b.from, b.seq))
    (followed_lawful field.worker (λ _. field.counted) worker_lawful (λ _. counted_lawful))
    (λ b. refl)
    (λ from to x s. refl)

pub granted_lawful : Lawful granted
unfolding granted
granted_lawful =
    made_lawful (followed field.counted (λ _. followed field.grant (λ _. followed field.task (λ _. field.no_values))))
    (λ x. record { seq = x.0; grant = x.1.0; task = x.1.1.0; saved = x.1.1.1 })
    (λ b. (b.seq, (b.grant, (b.task, b.saved))))
    (followed_lawful field.counted (λ _.
    followed field.grant (λ _. followed field.task (λ _. field.no_values))) counted_lawful (λ _.
    followed_lawful field.grant (λ _. followed field.task (λ _. field.no_values)) grant_lawful (λ _.
    followed_lawful field.task (λ _. field.no_values) task_lawful (λ _. no_values_lawful))))
    (λ b. refl)
    (λ from to x s. refl)

pub saved_grant_lawful : Lawful saved_grant
unfolding saved_grant
saved_grant_lawful =
    made_lawful (followed field.counted
    (λ _. followed field.grant (λ _. followed field.task (λ _. field.saved_values))))
    (λ x. record { seq = x.0; grant = x.1.0; task = x.1.1.0; saved = x.1.1.1 })
    (λ b. (b.seq, (b.grant, (b.task, b.saved))))
    (followed_lawful field.counted (λ _.
    followed field.grant (λ _. followed field.task (λ _. field.saved_values))) counted_lawful (λ _.
    followed_lawful field.grant (λ _. followed field.task (λ _. field.saved_values)) grant_lawful (λ _.
    followed_lawful field.task (λ _. field.saved_values) task_lawful (λ _. saved_values_lawful))))
    (λ b. refl)
    (λ from to x s. refl)

grant_format_lawful : (some : Bool) → Lawful (grant_format some)
grant_format_lawful true = saved_grant_lawful
grant_format_lawful false = granted_lawful

-- which of the two it is shows in what is spelled
none_spelled : (from to : List ℕ) (b : Grant) → granted.Spelled from to b → is_saved b ≡ false
unfolding granted field.no_values
none_spelled from to b s = ap (λ (l : List SavedValue). not (is_empty l)) s.2.2.2.1

some_fit : (l : List SavedValue) → field.saved_values.fits l ≡ true → not (is_empty l) ≡ true
unfolding field.saved_values
some_fit [] f = cc
some_fit (x ∷ l) f = refl

some_spelled : (from to : List ℕ) (b : Grant) → saved_grant.Spelled from to b → is_saved b ≡ true
unfolding saved_grant
some_spelled from to b s = some_fit b.saved (saved_values_lawful.fit s.2.2.0 to b.saved s.2.2.2)

kind_of_saved : (b : Grant) (some : Bool) → is_saved b ≡ some → kind_of (body.Grant b) ≡ cond some 15 4
kind_of_saved b some is = ap (λ (v : Bool). cond v 15 4) is

spells_grant : (some : Bool) (from to : List ℕ) (b : Grant) → is_saved b ≡ some → (grant_format some).Spelled from to b
    → SpelledBody from to (body.Grant b)
spells_grant some from to b is s = subst (λ (v : Bool). (grant_format v).Spelled from to b) (sym is) s

pub refuse_lawful : Lawful refuse
unfolding refuse
refuse_lawful = made_lawful field.counted (λ x. record { seq = x }) (λ b. b.seq) counted_lawful (λ b. refl)
    (λ from to x s. refl)

pub task_result_lawful : Lawful task_result
unfolding task_result
task_result_lawful =
    made_lawful (followed field.worker (λ _. followed field.grant (λ _. field.outcome)))
    (λ x. record { from = x.0; grant = x.1.0; outcome = x.1.1 }) (λ b. (b.from, (b.grant, b.outcome)))
    (followed_lawful field.worker (λ _. followed field.grant (λ _. field.outcome)) worker_lawful
    (λ _. followed_lawful field.grant (λ _. field.outcome) grant_lawful (λ _. outcome_lawful)))
    (λ b. refl)
    (λ from to x s. refl)

pub result_ack_lawful : Lawful result_ack
unfolding result_ack
result_ack_lawful = made_lawful field.grant (λ x. record { grant = x }) (λ b. b.grant) grant_lawful (λ b. refl)
    (λ from to x s. refl)

-- what stands in an offer behind how far it is
offer_rest : Progress → Format (Task × (ℕ × (List Frame × List Record)))
offer_rest progress = followed field.task
    (λ _. followed field.raised (λ next. followed (field.frames progress next) (λ _. field.records progress next)))

offer_rest_lawful : (progress : Progress) → Lawful (offer_rest progress)
unfolding offer_rest
offer_rest_lawful progress =
    followed_lawful field.task (λ _. followed field.raised
    (λ next. followed (field.frames progress next) (λ _. field.records progress next))) task_lawful (λ _.
    followed_lawful field.raised (λ next.
    followed (field.frames progress next) (λ _. field.records progress next)) raised_lawful (λ next.
    followed_lawful (field.frames progress next) (λ _. field.records progress next) (frames_lawful progress next)
    (λ _. records_lawful progress next)))

pub offer_lawful : Lawful offer
unfolding offer offer_rest
offer_lawful =
    made_lawful (followed field.worker (λ _.
    followed field.grant (λ _. followed field.raised
    (λ _. followed field.actor (λ _. followed field.progress offer_rest)))))
    (λ x. record {
      from = x.0;
      grant = x.1.0;
      hop = x.1.1.0;
      parent = x.1.1.1.0;
      progress = x.1.1.1.1.0;
      task = x.1.1.1.1.1.0;
      next = x.1.1.1.1.1.1.0;
      frames = x.1.1.1.1.1.1.1.0;
      records = x.1.1.1.1.1.1.1.1;
    })
    (λ b. (b.from, (b.grant, (b.hop, (b.parent, (b.progress, (b.task, (b.next, (b.frames, b.records)))))))))
    (followed_lawful field.worker (λ _.
    followed field.grant (λ _. followed field.raised
    (λ _. followed field.actor (λ _. followed field.progress offer_rest)))) worker_lawful (λ _.
    followed_lawful field.grant (λ _. followed field.raised
    (λ _. followed field.actor (λ _. followed field.progress offer_rest))) grant_lawful (λ _.
    followed_lawful field.raised (λ _. followed field.actor (λ _. followed field.progress offer_rest)) raised_lawful
    (λ _.
    followed_lawful field.actor (λ _. followed field.progress offer_rest) actor_lawful (λ _.
    followed_lawful field.progress offer_rest progress_lawful offer_rest_lawful)))))
    (λ b. refl)
    (λ from to x s. refl)

pub offer_ack_lawful : Lawful offer_ack
unfolding offer_ack
offer_ack_lawful =
    made_lawful (followed field.worker (λ _. followed field.grant (λ _. field.hop)))
    (λ x. record { from = x.0; grant = x.1.0; hop = x.1.1 }) (λ b. (b.from, (b.grant, b.hop)))
    (followed_lawful field.worker (λ _. followed field.grant (λ _. field.hop)) worker_lawful
    (λ _. followed_lawful field.grant (λ _. field.hop) grant_lawful (λ _. hop_lawful)))
    (λ b. refl)
    (λ from to x s. refl)

pub leave_lawful : Lawful leave
unfolding leave
leave_lawful =
    made_lawful (followed field.worker (λ own. field.other_worker own)) (λ x. record { from = x.0; heir = x.1 })
    (λ b. (b.from, b.heir))
    (followed_lawful field.worker (λ own. field.other_worker own) worker_lawful other_worker_lawful)
    (λ b. refl)
    (λ from to x s. refl)

pub abort_lawful : Lawful abort
unfolding abort
abort_lawful = made_lawful field.grant (λ x. record { grant = x }) (λ b. b.grant) grant_lawful (λ b. refl)
    (λ from to x s. refl)

pub save_lawful : Lawful save
unfolding save
save_lawful =
    made_lawful (followed field.worker (λ _. followed field.place (λ _. field.signed)))
    (λ x. record { from = x.0; place = x.1.0; value = x.1.1 })
    (λ b. (b.from, (b.place, b.value)))
    (followed_lawful field.worker (λ _. followed field.place (λ _. field.signed)) worker_lawful
    (λ _. followed_lawful field.place (λ _. field.signed) place_lawful (λ _. signed_lawful)))
    (λ b. refl)
    (λ from to x s. refl)

pub beat_lawful : Lawful beat
unfolding beat
beat_lawful =
    made_lawful (followed field.worker (λ _. field.counted)) (λ x. record { from = x.0; version = x.1 })
    (λ b. (b.from, b.version))
    (followed_lawful field.worker (λ _. field.counted) worker_lawful (λ _. counted_lawful))
    (λ b. refl)
    (λ from to x s. refl)

pub piece_lawful : Lawful piece
unfolding piece
piece_lawful =
    made_lawful (followed field.worker (λ _.
    followed field.grant (λ _. followed field.raised
    (λ _. followed field.pieces (λ pieces.
    followed (field.piece_of pieces) (λ number. field.part pieces number))))))
    (λ x. record {
      from = x.0;
      grant = x.1.0;
      hop = x.1.1.0;
      pieces = x.1.1.1.0;
      number = x.1.1.1.1.0;
      bytes = x.1.1.1.1.1;
    })
    (λ b. (b.from, (b.grant, (b.hop, (b.pieces, (b.number, b.bytes))))))
    (followed_lawful field.worker (λ _.
    followed field.grant (λ _. followed field.raised
    (λ _. followed field.pieces (λ pieces. followed (field.piece_of pieces) (λ number. field.part pieces number)))))
    worker_lawful (λ _.
    followed_lawful field.grant (λ _. followed field.raised
    (λ _. followed field.pieces (λ pieces. followed (field.piece_of pieces) (λ number. field.part pieces number))))
    grant_lawful (λ _.
    followed_lawful field.raised (λ _. followed field.pieces
    (λ pieces. followed (field.piece_of pieces) (λ number. field.part pieces number))) raised_lawful (λ _.
    followed_lawful field.pieces (λ pieces.
    followed (field.piece_of pieces) (λ number. field.part pieces number)) pieces_lawful (λ pieces.
    followed_lawful (field.piece_of pieces) (λ number. field.part pieces number) (piece_of_lawful pieces)
    (part_lawful pieces))))))
    (λ b. refl)
    (λ from to x s. refl)

-- ---- the fields of a kind

reads_found : {X : Type 0} (F : Format X) (make : X → Body) (kind : ℕ) → Lawful F
    → ((from to : List ℕ) (x : X) → F.Spelled from to x → kind_of (make x) ≡ kind)
    → ((from to : List ℕ) (x : X) → F.Spelled from to x → SpelledBody from to (make x))
    → (from to : List ℕ) (b : Body) → IsBytes from → reads F make from ≡ Ok (b, to)
    → ((kind_of b ≡ kind) × SpelledBody from to b) × IsBytes to
reads_found F make kind law kinds spells from to b bytes e =
    let r = bind_ok (F.read from) (λ x. Ok (make x.0, x.1)) (b, to) e in
    let s = law.found from r.0.1 r.0.0 bytes r.1 in
    let read : Body × List ℕ = (make r.0.0, r.0.1) in
    subst (λ (q : Body × List ℕ). ((kind_of q.0 ≡ kind) × SpelledBody from q.1 q.0) × IsBytes q.1)
    (ok_is read (b, to) r.2) ((kinds from r.0.1 r.0.0 s.0, spells from r.0.1 r.0.0 s.0), s.1)

reads_only : {X : Type 0} (F : Format X) (make : X → Body) → Lawful F → (from to : List ℕ) (x : X) → F.Spelled from to x
    → reads F make from ≡ Ok (make x, to)
reads_only F make law from to x s = rw (law.only from to x s) refl

body_found : (kind : ℕ) (from to : List ℕ) (b : Body) → IsBytes from → read_body kind from ≡ Ok (b, to)
    → ((kind_of b ≡ kind) × SpelledBody from to b) × IsBytes to
body_found zero from to b bytes e = absurd cc
body_found (suc zero) from to b bytes e =
    reads_found join body.Join 1 join_lawful (λ f t x s. refl) (λ f t x s. s) from to b bytes e
body_found (suc (suc zero)) from to b bytes e =
    reads_found roster body.Roster 2 roster_lawful (λ f t x s. refl) (λ f t x s. s) from to b bytes e
body_found (suc (suc (suc zero))) from to b bytes e =
    reads_found steal body.Steal 3 steal_lawful (λ f t x s. refl) (λ f t x s. s) from to b bytes e
body_found (suc (suc (suc (suc zero)))) from to b bytes e =
    reads_found granted body.Grant 4 granted_lawful (λ f t b s. kind_of_saved b false (none_spelled f t b s))
    (λ f t b s. spells_grant false f t b (none_spelled f t b s) s) from to b bytes e
body_found (suc (suc (suc (suc (suc zero))))) from to b bytes e =
    reads_found refuse body.Refuse 5 refuse_lawful (λ f t x s. refl) (λ f t x s. s) from to b bytes e
body_found (suc (suc (suc (suc (suc (suc zero)))))) from to b bytes e =
    reads_found task_result body.Result 6 task_result_lawful (λ f t x s. refl) (λ f t x s. s) from to b bytes e
body_found (suc (suc (suc (suc (suc (suc (suc zero))))))) from to b bytes e =
    reads_found result_ack body.ResultAck 7 result_ack_lawful (λ f t x s. refl) (λ f t x s. s) from to b bytes e
body_found (suc (suc (suc (suc (suc (suc (suc (suc zero)))))))) from to b bytes e =
    reads_found offer body.Offer 8 offer_lawful (λ f t x s. refl) (λ f t x s. s) from to b bytes e
body_found (suc (suc (suc (suc (suc (suc (suc (suc (suc zero))))))))) from to b bytes e =
    reads_found offer_ack body.OfferAck 9 offer_ack_lawful (λ f t x s. refl) (λ f t x s. s) from to b bytes e
body_found (suc (suc (suc (suc (suc (suc (suc (suc (suc (suc zero)))))))))) from to b bytes e =
    reads_found leave body.Leave 10 leave_lawful (λ f t x s. refl) (λ f t x s. s) from to b bytes e
body_found (suc (suc (suc (suc (suc (suc (suc (suc (suc (suc (suc zero))))))))))) from to b bytes e =
    reads_found abort body.Abort 11 abort_lawful (λ f t x s. refl) (λ f t x s. s) from to b bytes e
body_found (suc (suc (suc (suc (suc (suc (suc (suc (suc (suc (suc (suc zero)))))))))))) from to b bytes e =
    reads_found beat body.Beat 12 beat_lawful (λ f t x s. refl) (λ f t x s. s) from to b bytes e
body_found (suc (suc (suc (suc (suc (suc (suc (suc (suc (suc (suc (suc (suc zero))))))))))))) from to b bytes e =
    reads_found piece body.Piece 13 piece_lawful (λ f t x s. refl) (λ f t x s. s) from to b bytes e
body_found (suc (suc (suc (suc (suc (suc (suc (suc (suc (suc (suc (suc (suc (suc zero)))))))))))))) from to b bytes e =
    reads_found save body.Save 14 save_lawful (λ f t x s. refl) (λ f t x s. s) from to b bytes e
body_found (suc (suc (suc (suc (suc (suc (suc (suc (suc (suc (suc (suc (suc (suc (suc zero))))))))))))))) from to b
    bytes e = reads_found saved_grant body.Grant 15 saved_grant_lawful
    (λ f t b s. kind_of_saved b true (some_spelled f t b s))
    (λ f t b s. spells_grant true f t b (some_spelled f t b s) s) from to b bytes e
body_found (suc (suc (suc (suc (suc (suc (suc (suc (suc (suc (suc (suc (suc (suc (suc (suc n)))))))))))))))) from to b
    bytes e = absurd cc

grant_only : (some : Bool) (from to : List ℕ) (b : Grant) → (grant_format some).Spelled from to b
    → read_body (cond some 15 4) from ≡ Ok (body.Grant b, to)
grant_only true from to b s = reads_only saved_grant body.Grant saved_grant_lawful from to b s
grant_only false from to b s = reads_only granted body.Grant granted_lawful from to b s

body_only : (from to : List ℕ) (b : Body) → SpelledBody from to b → read_body (kind_of b) from ≡ Ok (b, to)
body_only from to (body.Join b) s = reads_only join body.Join join_lawful from to b s
body_only from to (body.Roster b) s = reads_only roster body.Roster roster_lawful from to b s
body_only from to (body.Steal b) s = reads_only steal body.Steal steal_lawful from to b s
body_only from to (body.Grant b) s = grant_only (is_saved b) from to b s
body_only from to (body.Refuse b) s = reads_only refuse body.Refuse refuse_lawful from to b s
body_only from to (body.Result b) s = reads_only task_result body.Result task_result_lawful from to b s
body_only from to (body.ResultAck b) s = reads_only result_ack body.ResultAck result_ack_lawful from to b s
body_only from to (body.Offer b) s = reads_only offer body.Offer offer_lawful from to b s
body_only from to (body.OfferAck b) s = reads_only offer_ack body.OfferAck offer_ack_lawful from to b s
body_only from to (body.Leave b) s = reads_only leave body.Leave leave_lawful from to b s
body_only from to (body.Abort b) s = reads_only abort body.Abort abort_lawful from to b s
body_only from to (body.Beat b) s = reads_only beat body.Beat beat_lawful from to b s
body_only from to (body.Piece b) s = reads_only piece body.Piece piece_lawful from to b s
body_only from to (body.Save b) s = reads_only save body.Save save_lawful from to b s

body_one : (from to : List ℕ) (b : Body) → SpelledBody from to b → from ≡ write_body b ++ to
body_one from to (body.Join b) s = join_lawful.one from to b s
body_one from to (body.Roster b) s = roster_lawful.one from to b s
body_one from to (body.Steal b) s = steal_lawful.one from to b s
body_one from to (body.Grant b) s = (grant_format_lawful (is_saved b)).one from to b s
body_one from to (body.Refuse b) s = refuse_lawful.one from to b s
body_one from to (body.Result b) s = task_result_lawful.one from to b s
body_one from to (body.ResultAck b) s = result_ack_lawful.one from to b s
body_one from to (body.Offer b) s = offer_lawful.one from to b s
body_one from to (body.OfferAck b) s = offer_ack_lawful.one from to b s
body_one from to (body.Leave b) s = leave_lawful.one from to b s
body_one from to (body.Abort b) s = abort_lawful.one from to b s
body_one from to (body.Beat b) s = beat_lawful.one from to b s
body_one from to (body.Piece b) s = piece_lawful.one from to b s
body_one from to (body.Save b) s = save_lawful.one from to b s

body_writes : (b : Body) (to : List ℕ) → fits_body b ≡ true → SpelledBody (write_body b ++ to) to b
body_writes (body.Join b) to f = join_lawful.writes b to f
body_writes (body.Roster b) to f = roster_lawful.writes b to f
body_writes (body.Steal b) to f = steal_lawful.writes b to f
body_writes (body.Grant b) to f = (grant_format_lawful (is_saved b)).writes b to f
body_writes (body.Refuse b) to f = refuse_lawful.writes b to f
body_writes (body.Result b) to f = task_result_lawful.writes b to f
body_writes (body.ResultAck b) to f = result_ack_lawful.writes b to f
body_writes (body.Offer b) to f = offer_lawful.writes b to f
body_writes (body.OfferAck b) to f = offer_ack_lawful.writes b to f
body_writes (body.Leave b) to f = leave_lawful.writes b to f
body_writes (body.Abort b) to f = abort_lawful.writes b to f
body_writes (body.Beat b) to f = beat_lawful.writes b to f
body_writes (body.Piece b) to f = piece_lawful.writes b to f
body_writes (body.Save b) to f = save_lawful.writes b to f

body_fit : (from to : List ℕ) (b : Body) → SpelledBody from to b → fits_body b ≡ true
body_fit from to (body.Join b) s = join_lawful.fit from to b s
body_fit from to (body.Roster b) s = roster_lawful.fit from to b s
body_fit from to (body.Steal b) s = steal_lawful.fit from to b s
body_fit from to (body.Grant b) s = (grant_format_lawful (is_saved b)).fit from to b s
body_fit from to (body.Refuse b) s = refuse_lawful.fit from to b s
body_fit from to (body.Result b) s = task_result_lawful.fit from to b s
body_fit from to (body.ResultAck b) s = result_ack_lawful.fit from to b s
body_fit from to (body.Offer b) s = offer_lawful.fit from to b s
body_fit from to (body.OfferAck b) s = offer_ack_lawful.fit from to b s
body_fit from to (body.Leave b) s = leave_lawful.fit from to b s
body_fit from to (body.Abort b) s = abort_lawful.fit from to b s
body_fit from to (body.Beat b) s = beat_lawful.fit from to b s
body_fit from to (body.Piece b) s = piece_lawful.fit from to b s
body_fit from to (body.Save b) s = save_lawful.fit from to b s

pub fields_lawful : (kind : ℕ) → Lawful (fields kind)
unfolding fields
fields_lawful kind = record {
  found = λ from to b bytes e. body_found kind from to b bytes e;
  only = λ from to b s. subst (λ (k : ℕ). read_body k from ≡ Ok (b, to)) s.0 (body_only from to b s.1);
  one = λ from to b s. body_one from to b s.1;
  writes = λ b to f. let h = and_parts (eqb (kind_of b) kind)
      (fits_body b) f in (eqb-true (kind_of b) kind h.0, body_writes b to h.1);
  fit = λ from to b s. and_from (eqb (kind_of b) kind) (fits_body b) (eq-eqb (kind_of b) kind s.0)
      (body_fit from to b s.1);
}

-- ---- the packet

-- what stands behind the kind
after_kind : ℕ → Format (ℕ × (ℕ × Body))
after_kind kind = followed (number 8) (λ _. followed (field.address (suits kind)) (λ _. fields kind))

after_kind_lawful : (kind : ℕ) → Lawful (after_kind kind)
unfolding after_kind
after_kind_lawful kind =
    followed_lawful (number 8) (λ _. followed (field.address (suits kind)) (λ _. fields kind)) (number_lawful 8 wide8)
    (λ _.
    followed_lawful (field.address (suits kind)) (λ _. fields kind) (address_lawful (suits kind))
    (λ _. fields_lawful kind))

-- what is spelled behind a kind is of that kind
kind_spelled : (kind : ℕ) (from to : List ℕ) (x : ℕ × (ℕ × Body)) → (after_kind kind).Spelled from to x
    → kind_of x.1.1 ≡ kind
unfolding after_kind fields
kind_spelled kind from to x s = s.2.2.0

-- what stands behind the version
in_version : ℕ → Format (ℕ × (ℕ × (ℕ × Body)))
in_version version = followed (tested fault.Kind (number 1) (has_kind version)) after_kind

in_version_lawful : (version : ℕ) → Lawful (in_version version)
unfolding in_version
in_version_lawful version = followed_lawful (tested fault.Kind (number 1) (has_kind version)) after_kind
    (tested_lawful fault.Kind (number 1) (has_kind version) (number_lawful 1 wide1)) after_kind_lawful

-- what is spelled behind a version is of a kind that it has
version_spelled : (version : ℕ) (from to : List ℕ) (x : ℕ × (ℕ × (ℕ × Body))) → (in_version version).Spelled from to x
    → (version_of x.0 ≡ version) × (kind_of x.1.1.1 ≡ x.0)
unfolding in_version
version_spelled version from to x s = (
  eqb-true (version_of x.0) version (and_parts (is_kind x.0) (eqb (version_of x.0) version) s.1.1).1,
  kind_spelled x.0 s.0 to x.1 s.2,
)

abbrev Fields : Type 0
Fields = Unit {0} × (ℕ × (ℕ × (ℕ × (ℕ × Body))))

same_fields : (x : Fields) → version_of x.1.1.0 ≡ x.1.0 → kind_of x.1.1.1.1.1 ≡ x.1.1.0
    → ◌≡◌ {A = Fields} (
      tt,
      (
        version_of (kind_of x.1.1.1.1.1),
        (kind_of x.1.1.1.1.1, (x.1.1.1.0, (x.1.1.1.1.0, x.1.1.1.1.1))),
      ),
    ) x
same_fields x v k = rw (k, v) refl

pub packet_lawful : Lawful packet
unfolding packet in_version after_kind
packet_lawful =
    let version : Format ℕ = tested fault.Version (number 1) is_version in
    made_lawful (followed (constant fault.Magic 2 0x434E) (λ _. followed version in_version))
    (λ x. record { job = x.1.1.1.0; to = x.1.1.1.1.0; body = x.1.1.1.1.1 })
    (λ p. (tt, (version_of (kind_of p.body), (kind_of p.body, (p.job, (p.to, p.body))))))
    (followed_lawful (constant fault.Magic 2 0x434E) (λ _. followed version in_version)
    (constant_lawful fault.Magic 2 0x434E wide2) (λ _.
    followed_lawful version in_version (tested_lawful fault.Version (number 1) is_version (number_lawful 1 wide1))
    in_version_lawful))
    (λ p. refl)
    (λ from to x s. let k = version_spelled x.1.0 s.2.0 to x.1.1 s.2.2 in same_fields x k.0 k.1)

-- ---- what can be written

version_in : (b : Body) → (ltb (version_of (kind_of b)) (256 ^ 1) && is_version (version_of (kind_of b))) ≡ true
version_in (body.Join b) = refl
version_in (body.Roster b) = refl
version_in (body.Steal b) = refl
version_in (body.Grant b) = by_saved (is_saved b)
  where
    by_saved : (some : Bool) → (ltb (version_of (cond some 15 4)) (256 ^ 1) && is_version (version_of (cond some 15 4)))
        ≡ true
    by_saved true = refl
    by_saved false = refl
version_in (body.Refuse b) = refl
version_in (body.Result b) = refl
version_in (body.ResultAck b) = refl
version_in (body.Offer b) = refl
version_in (body.OfferAck b) = refl
version_in (body.Leave b) = refl
version_in (body.Abort b) = refl
version_in (body.Beat b) = refl
version_in (body.Piece b) = refl
version_in (body.Save b) = refl

kind_in : (b : Body) → (ltb (kind_of b) (256 ^ 1) && has_kind (version_of (kind_of b)) (kind_of b)) ≡ true
kind_in (body.Join b) = refl
kind_in (body.Roster b) = refl
kind_in (body.Steal b) = refl
kind_in (body.Grant b) = by_saved (is_saved b)
  where
    by_saved : (some : Bool) → (ltb (cond some 15 4) (256 ^ 1)
        && has_kind (version_of (cond some 15 4)) (cond some 15 4)) ≡ true
    by_saved true = refl
    by_saved false = refl
kind_in (body.Refuse b) = refl
kind_in (body.Result b) = refl
kind_in (body.ResultAck b) = refl
kind_in (body.Offer b) = refl
kind_in (body.OfferAck b) = refl
kind_in (body.Leave b) = refl
kind_in (body.Abort b) = refl
kind_in (body.Beat b) = refl
kind_in (body.Piece b) = refl
kind_in (body.Save b) = refl

-- an address that suits a kind is one
in_range : (word : ℕ) → 0 < word → word < 2 ^ 64 → is_address word ≡ true
in_range word low high = and_from (ltb 0 word) (ltb word (2 ^ 64)) (lt-ltb 0 word low) (lt-ltb word (2 ^ 64) high)

worker_address : (word : ℕ) → is_worker word ≡ true → is_address word ≡ true
worker_address word e =
    let parts = and_parts (ltb 0 word) (ltb word (2 ^ 63)) e in
    let high : word < 2 ^ 63 = ltb-true word (2 ^ 63) parts.1 in
    in_range word (ltb-true 0 word parts.0) (omega (arith, high))

house_address : (word : ℕ) → is_house word ≡ true → is_address word ≡ true
house_address word e =
    let parts = and_parts (ltb (2 ^ 63) word) (ltb word (2 ^ 64)) e in
    let low : 2 ^ 63 < word = ltb-true (2 ^ 63) word parts.0 in
    in_range word (omega (arith, low)) (ltb-true word (2 ^ 64) parts.1)

actor_address : (word : ℕ) → is_actor word ≡ true → is_address word ≡ true
actor_address word e = ⊎_elim (worker_address word) (house_address word) (or_cases (is_worker word) (is_house word) e)

any_address : (word : ℕ) → eqb word (2 ^ 63) ≡ true → is_address word ≡ true
any_address word e =
    let same : word ≡ 2 ^ 63 = eqb-true word (2 ^ 63) e in
    in_range word (omega (arith, same)) (omega (arith, same))

either_way : (b x y z : Bool) → (x ≡ true → z ≡ true) → (y ≡ true → z ≡ true) → cond b x y ≡ true → z ≡ true
either_way true x y z f g e = f e
either_way false x y z f g e = g e

suits_address : (kind to : ℕ) → suits kind to ≡ true → is_address to ≡ true
suits_address kind to e =
    let others : Bool = cond (eqb kind 10 || (eqb kind 12 || eqb kind 14)) (is_house to) (is_worker to) in
    either_way (eqb kind 1) (eqb to (2 ^ 63)) (cond (eqb kind 3 || eqb kind 6) (is_actor to) others) (is_address to)
    (any_address to)
    (λ d. either_way (eqb kind 3 || eqb kind 6) (is_actor to) others (is_address to) (actor_address to)
    (λ c. either_way (eqb kind 10 || (eqb kind 12 || eqb kind 14)) (is_house to) (is_worker to) (is_address to)
    (house_address to) (worker_address to) c) d) e

-- a packet can be written
pub packet_fits : (p : PacketOf) → is_packet p ≡ true → packet.fits p ≡ true
unfolding packet fields
packet_fits p whole =
    let kind : ℕ = kind_of p.body in
    let head = and_parts (ltb p.job (2 ^ 64)) (suits kind p.to && fits_body p.body) whole in
    let job : p.job < 2 ^ 64 = ltb-true p.job (2 ^ 64) head.0 in
    let parts = and_parts (suits kind p.to) (fits_body p.body) head.1 in
    let address : is_address p.to ≡ true = suits_address kind p.to parts.0 in
    let word = and_parts (ltb 0 p.to) (ltb p.to (2 ^ 64)) address in
    let to : (ltb p.to (256 ^ 8) && (is_address p.to && suits kind p.to)) ≡ true =
    and_from (ltb p.to (256 ^ 8)) (is_address p.to && suits kind p.to) word.1
    (and_from (is_address p.to) (suits kind p.to) address parts.0) in
    let said : (eqb kind kind && fits_body p.body) ≡ true =
    and_from (eqb kind kind) (fits_body p.body) (eq-eqb kind kind refl) parts.1 in
    let version : ℕ = version_of kind in
    let rest : Bool = ltb p.job (256 ^ 8)
    && ((ltb p.to (256 ^ 8) && (is_address p.to && suits kind p.to)) && (eqb kind kind && fits_body p.body)) in
    and_from (ltb version (256 ^ 1) && is_version version) ((ltb kind (256 ^ 1) && has_kind version kind) && rest)
    (version_in p.body)
    (and_from (ltb kind (256 ^ 1) && has_kind version kind) rest (kind_in p.body)
    (and_from (ltb p.job (256 ^ 8)) ((ltb p.to (256 ^ 8) && (is_address p.to && suits kind p.to))
    && (eqb kind kind && fits_body p.body)) (lt-ltb p.job (256 ^ 8) (omega arith))
    (and_from (ltb p.to (256 ^ 8) && (is_address p.to && suits kind p.to))
    (eqb kind kind && fits_body p.body) to said)))

-- what can be written is a packet
packet_fits_parts : (p : PacketOf) → packet.fits p ≡ true → is_packet p ≡ true
unfolding packet fields
packet_fits_parts p f =
    let kind : ℕ = kind_of p.body in
    let version : ℕ = version_of kind in
    let first = and_parts (ltb version (256 ^ 1) && is_version version)
    ((ltb kind (256 ^ 1) && has_kind version kind)
    && (ltb p.job (256 ^ 8) && ((ltb p.to (256 ^ 8) && (is_address p.to && suits kind p.to))
    && (eqb kind kind && fits_body p.body)))) f in
    let a = and_parts (ltb kind (256 ^ 1) && has_kind version kind)
    (ltb p.job (256 ^ 8) && ((ltb p.to (256 ^ 8) && (is_address p.to && suits kind p.to))
    && (eqb kind kind && fits_body p.body))) first.1 in
    let b = and_parts (ltb p.job (256 ^ 8))
    ((ltb p.to (256 ^ 8) && (is_address p.to && suits kind p.to)) && (eqb kind kind && fits_body p.body)) a.1 in
    let c = and_parts (ltb p.to (256 ^ 8) && (is_address p.to && suits kind p.to))
    (eqb kind kind && fits_body p.body) b.1 in
    let to = and_parts (ltb p.to (256 ^ 8)) (is_address p.to && suits kind p.to) c.0 in
    let said = and_parts (eqb kind kind) (fits_body p.body) c.1 in
    and_from (ltb p.job (2 ^ 64)) (suits kind p.to && fits_body p.body) b.0
    (and_from (suits kind p.to) (fits_body p.body) (and_parts (is_address p.to) (suits kind p.to) to.1).1 said.1)

-- what is read of bytes is a packet
pub is_packet_read : (bytes to : List ℕ) (p : PacketOf) → IsBytes bytes → packet.read bytes ≡ Ok (p, to)
    → is_packet p ≡ true
is_packet_read bytes to p fits e = packet_fits_parts p
    (packet_lawful.fit bytes to p (packet_lawful.found bytes to p fits e).0)

-- ---- all of the bytes

-- a packet has one spelling
pub one_spelling : (a b : List ℕ) (p : PacketOf) → Spelling a p → Spelling b p → a ≡ b
one_spelling a b p s t = packet_lawful.one a [] p s ∙ sym (packet_lawful.one b [] p t)

-- what is spelled can be made
pub spelled_made : (a : List ℕ) (p : PacketOf) → Spelling a p → is_packet p ≡ true
spelled_made a p s = packet_fits_parts p (packet_lawful.fit a [] p s)

-- what can be made is spelled
pub made_spelled : (p : PacketOf) → is_packet p ≡ true → IsSpelled p
made_spelled p whole = record {
  bytes = packet.write p ++ [];
  spelling = packet_lawful.writes p [] (packet_fits p whole);
}

-- a spelling has one packet
pub one_packet : (a : List ℕ) (p q : PacketOf) → Spelling a p → Spelling a q → p ≡ q
one_packet a p q s t =
    ap (λ (x : PacketOf × List ℕ). x.0)
    (ok_is (p, []) (q, []) (sym (packet_lawful.only a [] p s) ∙ packet_lawful.only a [] q t))

guard_err : {A : Type 0} (b : Bool) (d : Fault) (r : Result A Fault) (y : A) → cond b (Err d) r ≡ Ok y
    → (b ≡ false) × (r ≡ Ok y)
guard_err true d r y e = absurd cc
guard_err false d r y e = (refl, e)

-- what the reading of all of the bytes answers is the packet in front, and nothing is behind it
pub read_whole : (bytes : List ℕ) (p : PacketOf) → long_reading bytes ≡ Ok p → packet.read bytes ≡ Ok (p, [])
unfolding long_reading
read_whole bytes p e =
    let read = bind_ok (packet.read bytes) (λ x. cond (eqb (length x.1) 0) (Ok x.0) (Err fault.Trailing)) p e in
    let ended = test_ok (eqb (length read.0.1) 0) fault.Trailing read.0.0 p read.2 in
    let nothing : read.0.1 ≡ [] = nil_from_length read.0.1 (eqb-true (length read.0.1) 0 ended.0) in
    subst (λ (q : PacketOf). packet.read bytes ≡ Ok (q, [])) ended.1
    (subst (λ (to : List ℕ). packet.read bytes ≡ Ok (read.0.0, to)) nothing read.1)

-- the packet in front, where all of the bytes are read
pub is_whole : (bytes left : List ℕ) (p q : PacketOf) → long_reading bytes ≡ Ok p → packet.read bytes ≡ Ok (q, left)
    → long_reading bytes ≡ Ok q
is_whole bytes left p q e front =
    let same : p ≡ q = ap (λ (x : PacketOf × List ℕ). x.0)
    (ok_is (p, []) (q, left) (sym (read_whole bytes p e) ∙ front)) in
    subst (λ (x : PacketOf). long_reading bytes ≡ Ok x) same e

-- the reading of a packet in front has no fault then
pub no_fault : (bytes : List ℕ) (p : PacketOf) (e : ReadError) → long_reading bytes ≡ Ok p → Fails e (packet.read bytes)
    → Fails e (long_reading bytes)
no_fault bytes p errors.Memory read fails = tt
no_fault bytes p (errors.Fault f) read fails =
    let both : (let r : Result (PacketOf × List ℕ) Fault = Ok (p, []) in r) ≡ Err f =
    sym (read_whole bytes p read) ∙ fails in
    absurd cc

-- a packet with nothing behind it is all of the bytes
read_to_end : (bytes left : List ℕ) (p : PacketOf) → packet.read bytes ≡ Ok (p, left) → nat_eq (length left) 0 ≡ true
    → long_reading bytes ≡ Ok p
unfolding long_reading
read_to_end bytes left p e nothing = rw (e, nothing) refl

-- and so are bytes that were passed over to their end
pub passed_whole : (bytes left : List ℕ) → end_of (packet.read bytes) ≡ Ok left → nat_eq (length left) 0 ≡ true
    → (p : PacketOf) × (long_reading bytes ≡ Ok p)
passed_whole bytes left e nothing =
    let x = ended (packet.read bytes) left e in
    (x.0, read_to_end bytes left x.0 x.1 nothing)

-- where they aren't too many, nothing else is read of them, and else they are refused
pub reading_short : (bytes : List ℕ) → length bytes ≤ 1048576 → reading bytes ≡ long_reading bytes
unfolding reading long_reading
reading_short bytes short = rw (le-ltb 1048576 (length bytes) short) refl

pub reading_long : (bytes : List ℕ) → 1048576 < length bytes → reading bytes ≡ Err fault.TooBig
unfolding reading
reading_long bytes long = rw (lt-ltb 1048576 (length bytes) long) refl

-- what is given of them is given of as many as are allowed
pub gives_short : (bytes : List ℕ) (r : Result PacketOf ReadError) → length bytes ≤ 1048576
    → Gives (λ x. x) r (long_reading bytes) → Gives (λ x. x) r (reading bytes)
gives_short bytes r short e = subst (λ (read : Result PacketOf Fault). Gives (λ x. x) r read)
    (sym (reading_short bytes short)) e

-- what the reading of all of the bytes answers is spelled so
pub reading_found : (bytes : List ℕ) (p : PacketOf) → IsBytes bytes → reading bytes ≡ Ok p → Spells bytes p
unfolding reading
reading_found bytes p fits e =
    let short = guard_err (ltb 1048576 (length bytes)) fault.TooBig
    (packet.read bytes >>= λ x. cond (eqb (length x.1) 0) (Ok x.0) (Err fault.Trailing)) p e in
    let read = bind_ok (packet.read bytes) (λ x. cond (eqb (length x.1) 0) (Ok x.0) (Err fault.Trailing)) p short.1 in
    let ended = test_ok (eqb (length read.0.1) 0) fault.Trailing read.0.0 p read.2 in
    let nothing : read.0.1 ≡ [] = nil_from_length read.0.1 (eqb-true (length read.0.1) 0 ended.0) in
    let s : packet.Spelled bytes read.0.1 read.0.0 = (packet_lawful.found bytes read.0.1 read.0.0 fits read.1).0 in (
      subst (λ (q : PacketOf). packet.Spelled bytes [] q) ended.1
          (subst (λ (to : List ℕ). packet.Spelled bytes to read.0.0) nothing s),
      ltb-false 1048576 (length bytes) short.0,
    )

-- what is spelled so is the answer
pub reading_only : (bytes : List ℕ) (p : PacketOf) → Spells bytes p → reading bytes ≡ Ok p
unfolding reading
reading_only bytes p s = rw (le-ltb 1048576 (length bytes) s.1, packet_lawful.only bytes [] p s.0) refl

-- the same of a function that gives what reading gives
pub is_found : (bytes : List ℕ) (r : Result PacketOf ReadError) → IsBytes bytes → Gives (λ x. x) r (reading bytes)
    → IfOk r (λ p. Spells bytes p)
is_found bytes (Ok p) fits e = reading_found bytes p fits e
is_found bytes (Err d) fits e = tt

pub is_only : (bytes : List ℕ) (r : Result PacketOf ReadError) (p : PacketOf) → Spells bytes p
    → Gives (λ x. x) r (reading bytes) → Gives (λ x. x) r (Ok p)
is_only bytes r p s e = subst (λ (read : Result PacketOf Fault). Gives (λ x. x) r read) (reading_only bytes p s) e

-- what is written for a packet is its spelling
written : (p : PacketOf) (old out : List ℕ) → old ≡ [] → out ≡ old ++ packet.write p → packet.fits p ≡ true
    → Spelling out p
written p old out none e fits =
    let all : out ≡ packet.write p ++ [] =
    e ∙ ap (λ (front : List ℕ). front ++ packet.write p) none ∙ sym (append-nil (packet.write p)) in
    subst (λ (bytes : List ℕ). packet.Spelled bytes [] p) (sym all) (packet_lawful.writes p [] fits)

pub is_written : (p : PacketOf) (old out : List ℕ) → old ≡ [] → out ≡ old ++ packet.write p → packet.fits p ≡ true
    → length out ≤ 1048576 → Spells out p
is_written p old out none e fits short = (written p old out none e fits, short)

pub is_too_big : (p : PacketOf) (old out : List ℕ) → old ≡ [] → out ≡ old ++ packet.write p → packet.fits p ≡ true
    → 1048576 < length out → IsTooBig p
is_too_big p old out none e fits long = record { bytes = out; spelling = written p old out none e fits; long = long }

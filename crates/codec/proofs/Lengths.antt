-- How many bytes a format writes at most, of what can be written. A packet that is no offer takes
-- fewer than are allowed.
use Rattle.std.proofs.Common.{◌≡◌, ℕ, zero, suc, ◌+◌, ◌*◌, ◌^◌, ◌≤◌, ◌<◌, Bool, true, false, cond, not, eqb, leb, ltb, List, [], ◌∷◌, ◌++◌, length, reverse, Option, Some, None, ap, ◌∙◌, arith}
use Rattle.std.specs.Prelude.{◌&&◌}
use Rattle.std.proofs.lemmas.Bool.{and_parts, eqb-true, leb-true, ltb-true}
use Rattle.std.proofs.lemmas.List.{length-append}
use Rattle.std.proofs.Math.Nat.{mul-le-mul_left, mul-suc}
use Rattle.std.specs.Int.{w64, cast_unsigned}
use Rattle.byteorder.specs.Endian.{big_bytes}
use Rattle.byteorder.specs.Numbers.{length-bytes_high_first}
use Rattle.ids.specs.Names.{is_actor, is_counted, is_epoch, is_worker}
use Rattle.ids.specs.declared.outcome.Outcome.TheVariants.{Value, TooDeep}
use Rattle.ids.specs.declared.member.Status.TheVariants.{Live, Dead, Left}
use Rattle.packet_fields.specs.declared.fault.Fault.{Fault}
use Rattle.packet_fields.specs.declared.fault.Fault.TheVariants as fault
use Rattle.packet_fields.specs.Format.{Format, at_most, tagged_arm, followed, is_empty, items, listed, made, never, nothing, number, of_part, plain, raw, tested, variant}
use Rattle.packet_fields.specs.Fields as field
use Rattle.codec.specs.declared.body.Body.{Body}
use Rattle.codec.specs.declared.body.Body.TheVariants as body
use Rattle.codec.specs.declared.body.Grant.{Grant}
use Rattle.saved_values.specs.Places.{is_saved_place}
use Rattle.saved_values.specs.Saved.{place_of}
use Rattle.saved_values.specs.declared.value.SavedValue.{SavedValue}
use Rattle.codec.specs.Table.{PacketOf, Spells, abort, beat, fields, fits_body, grant_format, granted, is_packet, is_saved, is_short, join, kind_of, leave, offer_ack, packet, piece, refuse, result_ack, roster, save, saved_grant, steal, suits, task_result, version_of, write_body}
use Rattle.codec.proofs.TableLaws.{is_written}

-- of what can be written, at most so many bytes are
pub record AtMost {X : Type 0} (most : ℕ) (F : Format X) : Type 0 where
  pub bytes : (x : X) → F.fits x ≡ true → length (F.write x) ≤ most

-- ---- the words of formats

number_bytes : (n : ℕ) → AtMost n (number n)
number_bytes n = record { bytes = λ x f. omega (arith, length-bytes_high_first n x) }

tested_bytes : {X : Type 0} (most : ℕ) (fault : Fault) (F : Format X) (test : X → Bool) → AtMost most F
    → AtMost most (tested fault F test)
tested_bytes most fault F test bound = record { bytes = λ x f. bound.bytes x (and_parts (F.fits x) (test x) f).0 }

followed_bytes : {X Y : Type 0} (m n : ℕ) (F : Format X) (G : X → Format Y) → AtMost m F → ((x : X) → AtMost n (G x))
    → AtMost (m + n) (followed F G)
followed_bytes m n F G bound bounds = record {
  bytes = λ p f.
      let h = and_parts (F.fits p.0) ((G p.0).fits p.1) f in
      omega (arith, length-append (F.write p.0) ((G p.0).write p.1), bound.bytes p.0 h.0, (bounds p.0).bytes p.1 h.1);
}

made_bytes : {X Y : Type 0} (most : ℕ) (F : Format X) (make : X → Y) (parts : Y → X) → AtMost most F
    → AtMost most (made F make parts)
made_bytes most F make parts bound = record { bytes = λ y f. bound.bytes (parts y) f }

nothing_bytes : {Y : Type 0} (most : ℕ) (y : Y) (test : Y → Bool) → AtMost most (nothing y test)
nothing_bytes most y test = record { bytes = λ x f. omega arith }

never_bytes : {Y : Type 0} (most : ℕ) (fault : Fault) → AtMost most (never {Y = Y} fault)
never_bytes most fault = record { bytes = λ x f. omega arith }

part_bytes : {X : Type 0} (most : ℕ) (F : Format X) (o : Option X) → AtMost most F → of_part false F.fits o ≡ true
    → length (of_part [] F.write o) ≤ most
part_bytes most F None bound f = omega arith
part_bytes most F (Some x) bound f = bound.bytes x f

variant_bytes : {X Y : Type 0} (most : ℕ) (F : Format X) (make : X → Y) (part : Y → Option X) → AtMost most F
    → AtMost most (variant F make part)
variant_bytes most F make part bound = record { bytes = λ y f. part_bytes most F (part y) bound f }

chosen_bytes : {T Y : Type 0} (m n : ℕ) (F : Format T) (arm : T → Format Y) (tag : Y → T) → AtMost m F
    → ((t : T) → AtMost n (arm t)) → AtMost (m + n) (tagged_arm F arm tag)
chosen_bytes m n F arm tag bound bounds = record {
  bytes = λ y f.
      let h = and_parts (F.fits (tag y)) ((arm (tag y)).fits y) f in
      omega (
        arith,
        length-append (F.write (tag y)) ((arm (tag y)).write y),
        bound.bytes (tag y) h.0,
        (bounds (tag y)).bytes y h.1,
      );
}

plain_bytes : {X : Type 0} (each : ℕ) (F : Format X) → AtMost each F → (count : ℕ) (xs : List X)
    → (plain F count).fits xs ≡ true → length ((plain F count).write xs) ≤ each * count
plain_bytes each F bound zero xs f = omega arith
plain_bytes each F bound (suc count) [] f = omega arith
plain_bytes each F bound (suc count) (x ∷ xs) f =
    let h = and_parts (F.fits x) ((plain F count).fits xs) f in
    omega (
      arith,
      mul-suc each count,
      length-append (F.write x) ((plain F count).write xs),
      bound.bytes x h.0,
      plain_bytes each F bound count xs h.1,
    )

items_bytes : {K X : Type 0} (each : ℕ) (key : X → K) (F : Option K → Format X)
    → ((last : Option K) → AtMost each (F last)) → (last : Option K) (count : ℕ) (xs : List X)
    → (items key F last count).fits xs ≡ true → length ((items key F last count).write xs) ≤ each * count
items_bytes each key F bound last zero xs f = omega arith
items_bytes each key F bound last (suc count) [] f = omega arith
items_bytes each key F bound last (suc count) (x ∷ xs) f =
    let rest = items key F (Some (key x)) count in
    let h = and_parts ((F last).fits x) (rest.fits xs) f in
    omega (
      arith,
      mul-suc each count,
      length-append ((F last).write x) (rest.write xs),
      (bound last).bytes x h.0,
      items_bytes each key F bound (Some (key x)) count xs h.1,
    )

-- a list is as long as its count and so many items
listed_bytes : {X : Type 0} (n most each : ℕ) (G : ℕ → Format (List X))
    → ((count : ℕ) (xs : List X) → (G count).fits xs ≡ true → length ((G count).write xs) ≤ each * count)
    → AtMost (n + each * most) (listed n (at_most most) G)
listed_bytes n most each G bound = record {
  bytes = λ xs f.
      let count : ℕ = length xs in
      let h = and_parts (ltb count (256 ^ n) && leb count most) ((G count).fits xs) f in
      let few : count ≤ most = leb-true count most (and_parts (ltb count (256 ^ n)) (leb count most) h.0).1 in
      omega (
        arith,
        length-append (big_bytes n count) ((G count).write xs),
        length-bytes_high_first n count,
        bound count xs h.1,
        mul-le-mul_left each few,
      );
}

-- ---- fields

worker_bytes : AtMost 8 field.worker
unfolding field.worker
worker_bytes = tested_bytes 8 fault.Field (number 8) is_worker (number_bytes 8)

other_worker_bytes : (own : ℕ) → AtMost 8 (field.other_worker own)
other_worker_bytes own = tested_bytes 8 fault.Field field.worker (λ heir. not (eqb heir own)) worker_bytes

actor_bytes : AtMost 8 field.actor
unfolding field.actor
actor_bytes = tested_bytes 8 fault.Field (number 8) is_actor (number_bytes 8)

counted_bytes : AtMost 8 field.counted
unfolding field.counted
counted_bytes = tested_bytes 8 fault.Field (number 8) is_counted (number_bytes 8)

hop_bytes : AtMost 4 field.hop
unfolding field.hop
hop_bytes = number_bytes 4

grant_bytes : AtMost 16 field.grant
unfolding field.grant
grant_bytes =
    made_bytes 16 (followed field.actor (λ minter. field.counted)) (λ p. record { minter = p.0; number = p.1 })
    (λ g. (g.minter, g.number))
    (followed_bytes 8 8 field.actor (λ minter. field.counted) actor_bytes (λ minter. counted_bytes))

step_bytes : AtMost 1 field.step
unfolding field.step
step_bytes = tested_bytes 1 fault.Field (number 1) (λ s. ltb s 9) (number_bytes 1)

-- a place of 1,024 steps
place_bytes : AtMost 1026 field.place
unfolding field.place field.steps
place_bytes = made_bytes 1026 field.steps reverse reverse
    (listed_bytes 2 1024 1 (plain field.step) (plain_bytes 1 field.step step_bytes))

thread_bytes : AtMost 1 field.thread
unfolding field.thread
thread_bytes = tested_bytes 1 fault.Field (number 1) (λ t. ltb t 64) (number_bytes 1)

signed_bytes : AtMost 8 field.signed
unfolding field.signed
signed_bytes = record { bytes = λ z f. omega (arith, length-bytes_high_first 8 (cast_unsigned w64 z)) }

-- eight numbers
numbers_bytes : AtMost 65 field.numbers
unfolding field.numbers
numbers_bytes = listed_bytes 1 8 8 (plain field.signed) (plain_bytes 8 field.signed signed_bytes)

task_bytes : AtMost 1092 field.task
unfolding field.task
task_bytes =
    made_bytes 1092 (followed field.place (λ _. followed field.thread (λ _. field.numbers)))
    (λ x. record { place = x.0; thread = x.1.0; numbers = x.1.1 }) (λ t. (t.place, (t.thread, t.numbers)))
    (followed_bytes 1026 66 field.place (λ _. followed field.thread (λ _. field.numbers)) place_bytes
    (λ _. followed_bytes 1 65 field.thread (λ _. field.numbers) thread_bytes (λ _. numbers_bytes)))

arm_bytes : (tag : ℕ) → AtMost 8 (field.outcome_arm tag)
arm_bytes zero = never_bytes 8 fault.Field
arm_bytes (suc zero) = variant_bytes 8 field.signed Value field.value_in signed_bytes
arm_bytes (suc (suc zero)) = nothing_bytes 8 TooDeep field.is_too_deep
arm_bytes (suc (suc (suc n))) = never_bytes 8 fault.Field

outcome_bytes : AtMost 9 field.outcome
unfolding field.outcome
outcome_bytes = chosen_bytes 1 8 (number 1) field.outcome_arm field.tag_of_outcome (number_bytes 1) arm_bytes

epoch_bytes : AtMost 8 field.epoch
unfolding field.epoch
epoch_bytes = tested_bytes 8 fault.Field (number 8) is_epoch (number_bytes 8)

status_arm_bytes : (own tag : ℕ) → AtMost 8 (field.status_arm own tag)
status_arm_bytes own zero = nothing_bytes 8 Live field.is_live
status_arm_bytes own (suc zero) = nothing_bytes 8 Dead field.is_dead
status_arm_bytes own (suc (suc zero)) =
    variant_bytes 8 (field.other_worker own) Left field.heir_in (other_worker_bytes own)
status_arm_bytes own (suc (suc (suc n))) = never_bytes 8 fault.Field

status_bytes : (own : ℕ) → AtMost 9 (field.status own)
unfolding field.status
status_bytes own = chosen_bytes 1 8 (number 1) (field.status_arm own) field.tag_of_status (number_bytes 1)
    (status_arm_bytes own)

member_bytes : (last : Option ℕ) → AtMost 17 (field.member last)
unfolding field.member
member_bytes last =
    made_bytes 17 (followed (tested fault.Field field.worker (field.is_above last)) field.status)
    (λ x. record { incarnation = x.0; status = x.1 }) (λ m. (m.incarnation, m.status))
    (followed_bytes 8 9 (tested fault.Field field.worker (field.is_above last)) field.status
    (tested_bytes 8 fault.Field field.worker (field.is_above last) worker_bytes) status_bytes)

-- 4,096 members
members_bytes : AtMost 69634 field.members
unfolding field.members
members_bytes = listed_bytes 2 4096 17 (items field.name_of_member field.member None)
    (items_bytes 17 field.name_of_member field.member member_bytes None)

-- ---- kinds

join_bytes : AtMost 8 join
unfolding join
join_bytes = made_bytes 8 field.worker (λ x. record { from = x }) (λ b. b.from) worker_bytes

roster_bytes : AtMost 69650 roster
unfolding roster
roster_bytes =
    made_bytes 69650 (followed field.epoch (λ _. followed field.counted (λ _. field.members)))
    (λ x. record { epoch = x.0; version = x.1.0; members = x.1.1 }) (λ b. (b.epoch, (b.version, b.members)))
    (followed_bytes 8 69642 field.epoch (λ _. followed field.counted (λ _. field.members)) epoch_bytes
    (λ _. followed_bytes 8 69634 field.counted (λ _. field.members) counted_bytes (λ _. members_bytes)))

steal_bytes : AtMost 16 steal
unfolding steal
steal_bytes =
    made_bytes 16 (followed field.worker (λ _. field.counted)) (λ x. record { from = x.0; seq = x.1 })
    (λ b. (b.from, b.seq))
    (followed_bytes 8 8 field.worker (λ _. field.counted) worker_bytes (λ _. counted_bytes))

granted_bytes : AtMost 1116 granted
unfolding granted field.no_values
granted_bytes =
    made_bytes 1116 (followed field.counted
    (λ _. followed field.grant (λ _. followed field.task (λ _. field.no_values))))
    (λ x. record { seq = x.0; grant = x.1.0; task = x.1.1.0; saved = x.1.1.1 })
    (λ b. (b.seq, (b.grant, (b.task, b.saved))))
    (followed_bytes 8 1108 field.counted
    (λ _. followed field.grant (λ _. followed field.task (λ _. field.no_values))) counted_bytes (λ _.
    followed_bytes 16 1092 field.grant (λ _. followed field.task (λ _. field.no_values)) grant_bytes (λ _.
    followed_bytes 1092 0 field.task (λ _. field.no_values) task_bytes (λ _. nothing_bytes 0 [] is_empty))))

-- 64 saved values of 33 bytes
saved_place_bytes : AtMost 25 field.saved_place
unfolding field.saved_place
saved_place_bytes =
    tested_bytes 25 fault.Field (made (listed 2 (λ n. ltb 0 n && ltb n 24) (plain field.step)) reverse reverse)
    is_saved_place
    (made_bytes 25 (listed 2 (λ n. ltb 0 n && ltb n 24) (plain field.step)) reverse reverse few)
  where
    few : AtMost 25 (listed 2 (λ n. ltb 0 n && ltb n 24) (plain field.step))
    few = record {
      bytes = λ xs f.
          let count : ℕ = length xs in
          let h = and_parts (ltb count (256 ^ 2) && (ltb 0 count && ltb count 24))
          ((plain field.step count).fits xs) f in
          let room = and_parts (ltb count (256 ^ 2)) (ltb 0 count && ltb count 24) h.0 in
          let below : count < 24 = ltb-true count 24 (and_parts (ltb 0 count) (ltb count 24) room.1).1 in
          omega (
            arith,
            length-append (big_bytes 2 count) ((plain field.step count).write xs),
            length-bytes_high_first 2 count,
            plain_bytes 1 field.step step_bytes count xs h.1,
            below,
          );
    }

saved_value_bytes : (last : Option (List ℕ)) → AtMost 33 (field.saved_value last)
unfolding field.saved_value
saved_value_bytes last =
    made_bytes 33 (followed (tested fault.Field field.saved_place (field.is_later last)) (λ _. field.signed))
    (λ x. record { place = x.0; value = x.1 }) (λ s. (s.place, s.value))
    (followed_bytes 25 8 (tested fault.Field field.saved_place (field.is_later last)) (λ _. field.signed)
    (tested_bytes 25 fault.Field field.saved_place (field.is_later last) saved_place_bytes) (λ _. signed_bytes))

saved_values_bytes : AtMost 2113 field.saved_values
unfolding field.saved_values
saved_values_bytes = record {
  bytes = λ xs f.
      let count : ℕ = length xs in
      let inner : Format (List SavedValue) = items place_of field.saved_value None count in
      let h = and_parts (ltb count (256 ^ 1) && (ltb 0 count && leb count 64)) (inner.fits xs) f in
      let room = and_parts (ltb count (256 ^ 1)) (ltb 0 count && leb count 64) h.0 in
      let few : count ≤ 64 = leb-true count 64 (and_parts (ltb 0 count) (leb count 64) room.1).1 in
      omega (
        arith,
        length-append (big_bytes 1 count) (inner.write xs),
        length-bytes_high_first 1 count,
        items_bytes 33 place_of field.saved_value saved_value_bytes None count xs h.1,
        few,
      );
}

saved_grant_bytes : AtMost 3229 saved_grant
unfolding saved_grant
saved_grant_bytes =
    made_bytes 3229 (followed field.counted
    (λ _. followed field.grant (λ _. followed field.task (λ _. field.saved_values))))
    (λ x. record { seq = x.0; grant = x.1.0; task = x.1.1.0; saved = x.1.1.1 })
    (λ b. (b.seq, (b.grant, (b.task, b.saved))))
    (followed_bytes 8 3221 field.counted
    (λ _. followed field.grant (λ _. followed field.task (λ _. field.saved_values))) counted_bytes (λ _.
    followed_bytes 16 3205 field.grant (λ _. followed field.task (λ _. field.saved_values)) grant_bytes (λ _.
    followed_bytes 1092 2113 field.task (λ _. field.saved_values) task_bytes (λ _. saved_values_bytes))))

-- a Grant of either kind
grant_format_bytes : (some : Bool) (b : Grant) → (grant_format some).fits b ≡ true
    → length ((grant_format some).write b) ≤ 3229
grant_format_bytes true b f = saved_grant_bytes.bytes b f
grant_format_bytes false b f = omega (arith, granted_bytes.bytes b f)

refuse_bytes : AtMost 8 refuse
unfolding refuse
refuse_bytes = made_bytes 8 field.counted (λ x. record { seq = x }) (λ b. b.seq) counted_bytes

result_bytes : AtMost 33 task_result
unfolding task_result
result_bytes =
    made_bytes 33 (followed field.worker (λ _. followed field.grant (λ _. field.outcome)))
    (λ x. record { from = x.0; grant = x.1.0; outcome = x.1.1 }) (λ b. (b.from, (b.grant, b.outcome)))
    (followed_bytes 8 25 field.worker (λ _. followed field.grant (λ _. field.outcome)) worker_bytes
    (λ _. followed_bytes 16 9 field.grant (λ _. field.outcome) grant_bytes (λ _. outcome_bytes)))

result_ack_bytes : AtMost 16 result_ack
unfolding result_ack
result_ack_bytes = made_bytes 16 field.grant (λ x. record { grant = x }) (λ b. b.grant) grant_bytes

offer_ack_bytes : AtMost 28 offer_ack
unfolding offer_ack
offer_ack_bytes =
    made_bytes 28 (followed field.worker (λ _. followed field.grant (λ _. field.hop)))
    (λ x. record { from = x.0; grant = x.1.0; hop = x.1.1 }) (λ b. (b.from, (b.grant, b.hop)))
    (followed_bytes 8 20 field.worker (λ _. followed field.grant (λ _. field.hop)) worker_bytes
    (λ _. followed_bytes 16 4 field.grant (λ _. field.hop) grant_bytes (λ _. hop_bytes)))

leave_bytes : AtMost 16 leave
unfolding leave
leave_bytes =
    made_bytes 16 (followed field.worker (λ own. field.other_worker own)) (λ x. record { from = x.0; heir = x.1 })
    (λ b. (b.from, b.heir))
    (followed_bytes 8 8 field.worker (λ own. field.other_worker own) worker_bytes other_worker_bytes)

abort_bytes : AtMost 16 abort
unfolding abort
abort_bytes = made_bytes 16 field.grant (λ x. record { grant = x }) (λ b. b.grant) grant_bytes

beat_bytes : AtMost 16 beat
unfolding beat
beat_bytes =
    made_bytes 16 (followed field.worker (λ _. field.counted)) (λ x. record { from = x.0; version = x.1 })
    (λ b. (b.from, b.version))
    (followed_bytes 8 8 field.worker (λ _. field.counted) worker_bytes (λ _. counted_bytes))

save_bytes : AtMost 1042 save
unfolding save
save_bytes =
    made_bytes 1042 (followed field.worker (λ _. followed field.place (λ _. field.signed)))
    (λ x. record { from = x.0; place = x.1.0; value = x.1.1 })
    (λ b. (b.from, (b.place, b.value)))
    (followed_bytes 8 1034 field.worker (λ _. followed field.place (λ _. field.signed)) worker_bytes
    (λ _. followed_bytes 1026 8 field.place (λ _. field.signed) place_bytes (λ _. signed_bytes)))

-- a part of an offer
part_few : (pieces number count : ℕ) → field.allows_part pieces number count ≡ true → count ≤ 65536
part_few pieces number count e = by_last (eqb (number + 1) pieces) e
  where
    by_last : (b : Bool) → cond b (ltb 0 count && leb count field.part_bytes) (eqb count field.part_bytes) ≡ true
        → count ≤ 65536
    by_last true f = leb-true count field.part_bytes (and_parts (ltb 0 count) (leb count field.part_bytes) f).1
    by_last false f = omega (arith, eqb-true count field.part_bytes f)

part_of_bytes : (pieces number : ℕ) → AtMost 65540 (field.part pieces number)
unfolding field.part
part_of_bytes pieces number = record {
  bytes = λ xs f.
      let count : ℕ = length xs in
      let h = and_parts (ltb count (256 ^ 4) && field.allows_part pieces number count) ((raw count).fits xs) f in
      let few : count ≤ 65536 = part_few pieces number count
      (and_parts (ltb count (256 ^ 4)) (field.allows_part pieces number count) h.0).1 in
      omega (arith, length-append (big_bytes 4 count) xs, length-bytes_high_first 4 count, few);
}

raised_bytes : AtMost 4 field.raised
unfolding field.raised
raised_bytes = tested_bytes 4 fault.Field (number 4) (λ n. ltb 0 n) (number_bytes 4)

pieces_bytes : AtMost 2 field.pieces
unfolding field.pieces
pieces_bytes = tested_bytes 2 fault.Field (number 2) (λ n. leb 2 n && leb n field.most_pieces) (number_bytes 2)

piece_of_bytes : (pieces : ℕ) → AtMost 2 (field.piece_of pieces)
piece_of_bytes pieces = tested_bytes 2 fault.Field (number 2) (λ n. ltb n pieces) (number_bytes 2)

piece_bytes : AtMost 65572 piece
unfolding piece
piece_bytes =
    made_bytes 65572 (followed field.worker
    (λ _. followed field.grant (λ _. followed field.raised
    (λ _. followed field.pieces (λ pieces.
    followed (field.piece_of pieces) (λ number. field.part pieces number))))))
    (λ x. record {
      from = x.0;
      grant = x.1.0;
      hop = x.1.1.0;
      pieces = x.1.1.1.0;
      number = x.1.1.1.1.0;
      bytes = x.1.1.1.1.1;
    })
    (λ b. (b.from, (b.grant, (b.hop, (b.pieces, (b.number, b.bytes))))))
    (followed_bytes 8 65564 field.worker
    (λ _. followed field.grant (λ _. followed field.raised
    (λ _. followed field.pieces (λ pieces. followed (field.piece_of pieces) (λ number. field.part pieces number)))))
    worker_bytes (λ _.
    followed_bytes 16 65548 field.grant
    (λ _. followed field.raised (λ _. followed field.pieces
    (λ pieces. followed (field.piece_of pieces) (λ number. field.part pieces number)))) grant_bytes (λ _.
    followed_bytes 4 65544 field.raised
    (λ _. followed field.pieces (λ pieces. followed (field.piece_of pieces) (λ number. field.part pieces number)))
    raised_bytes (λ _.
    followed_bytes 2 65542 field.pieces
    (λ pieces. followed (field.piece_of pieces) (λ number. field.part pieces number)) pieces_bytes (λ pieces.
    followed_bytes 2 65540 (field.piece_of pieces) (λ number. field.part pieces number) (piece_of_bytes pieces)
    (part_of_bytes pieces))))))

-- the fields of a short body: a roster's are the most
body_bytes : (b : Body) → is_short b ≡ true → fits_body b ≡ true → length (write_body b) ≤ 69650
body_bytes (body.Join b) short f = omega (arith, join_bytes.bytes b f)
body_bytes (body.Roster b) short f = roster_bytes.bytes b f
body_bytes (body.Steal b) short f = omega (arith, steal_bytes.bytes b f)
body_bytes (body.Grant b) short f = omega (arith, grant_format_bytes (is_saved b) b f)
body_bytes (body.Refuse b) short f = omega (arith, refuse_bytes.bytes b f)
body_bytes (body.Result b) short f = omega (arith, result_bytes.bytes b f)
body_bytes (body.ResultAck b) short f = omega (arith, result_ack_bytes.bytes b f)
body_bytes (body.Offer b) short f = absurd cc
body_bytes (body.OfferAck b) short f = omega (arith, offer_ack_bytes.bytes b f)
body_bytes (body.Leave b) short f = omega (arith, leave_bytes.bytes b f)
body_bytes (body.Abort b) short f = omega (arith, abort_bytes.bytes b f)
body_bytes (body.Beat b) short f = omega (arith, beat_bytes.bytes b f)
body_bytes (body.Piece b) short f = omega (arith, piece_bytes.bytes b f)
body_bytes (body.Save b) short f = omega (arith, save_bytes.bytes b f)

-- ---- packets

six_parts : (a b c d e f : List ℕ) → length (a ++ (b ++ (c ++ (d ++ (e ++ f)))))
    ≡ length a + (length b + (length c + (length d + (length e + length f))))
six_parts a b c d e f = simp length-append

-- a short packet has at most 69,670 bytes
pub packet_bytes : (p : PacketOf) → is_packet p ≡ true → is_short p.body ≡ true → length (packet.write p) ≤ 69670
unfolding packet fields
packet_bytes p whole short =
    let kind : ℕ = kind_of p.body in
    let rest = and_parts (ltb p.job (2 ^ 64)) (suits kind p.to && fits_body p.body) whole in
    let fits : fits_body p.body ≡ true = (and_parts (suits kind p.to) (fits_body p.body) rest.1).1 in
    omega (
      arith,
      six_parts (big_bytes 2 0x434E) (big_bytes 1 (version_of kind)) (big_bytes 1 kind) (big_bytes 8 p.job)
          (big_bytes 8 p.to) (write_body p.body),
      length-bytes_high_first 2 0x434E,
      length-bytes_high_first 1 (version_of kind),
      length-bytes_high_first 1 kind,
      length-bytes_high_first 8 p.job,
      length-bytes_high_first 8 p.to,
      body_bytes p.body short fits,
    )

-- what is written for a short packet is its spelling, and not too much
pub is_written_short : (p : PacketOf) (old out : List ℕ) → old ≡ [] → out ≡ old ++ packet.write p → packet.fits p ≡ true
    → is_packet p ≡ true → is_short p.body ≡ true → Spells out p
is_written_short p old out none e fits whole short =
    let same : out ≡ packet.write p = e ∙ ap (λ (front : List ℕ). front ++ packet.write p) none in
    is_written p old out none e fits (omega (arith, ap length same, packet_bytes p whole short))

-- Each field keeps the laws of formats: the term of its law is that of its format.
use Rattle.std.proofs.Common.{◌≡◌, ℕ, zero, suc, ◌^◌, ◌<◌, Bool, true, not, eqb, leb, ltb, List, [], ◌++◌, reverse, Option, Some, None, Result, Ok, refl, sym, ap, subst, ◌∙◌, arith}
use Rattle.std.specs.Prelude.{ℤ, pos, negsuc, FitsSigned, ◌&&◌}
use Rattle.std.specs.Int.{w64, cast_signed, cast_unsigned}
use Rattle.std.proofs.Math.Facts.{sfits_to_z}
use Rattle.std.proofs.lemmas.Bool.{lt-ltb, ltb-true}
use Rattle.std.proofs.lemmas.Int.{of_z-to_z, to_z-of_z}
use Rattle.std.proofs.lemmas.List.{reverse-reverse}
use Rattle.byteorder.specs.Endian.{big_bytes}
use Rattle.ids.specs.Names.{Grant, is_actor, is_address, is_counted, is_epoch, is_worker}
use Rattle.ids.specs.declared.outcome.Outcome.{Outcome}
use Rattle.ids.specs.declared.outcome.Outcome.TheVariants.{Value, TooDeep}
use Rattle.ids.specs.declared.returns.Return.{Return}
use Rattle.ids.specs.declared.returns.Return.TheVariants.{Whole, Local}
use Rattle.packet_fields.specs.declared.fault.Fault.TheVariants.{Field}
use Rattle.ids.specs.declared.outcome.Progress.{Progress}
use Rattle.ids.specs.declared.outcome.Progress.TheVariants.{Active, Finished}
use Rattle.ids.specs.declared.member.Status.{Status}
use Rattle.ids.specs.declared.member.Status.TheVariants.{Live, Dead, Left}
use Rattle.ids.specs.declared.work.Task.{Task}
use Rattle.saved_values.specs.Places.{is_saved_place}
use Rattle.saved_values.specs.Saved.{place_of}
use Rattle.packet_fields.specs.Format.{Format, IsBytes, ◌>>=◌, at_most, checked, followed, is_empty, items, listed, made, number, plain, raw}
use Rattle.packet_fields.specs.Fields.{actor, address, allows, allows_part, below, counted, epoch, frame, frames, goes_to, grant, grant_of_record, heir_in, hop, is_above, is_active, is_behind, is_dead, is_later, is_live, is_open, is_too_deep, is_whole, is_word, local_in, member, members, most_pieces, name_of_member, no_values, number_of_frame, numbers, other_worker, outcome, outcome_arm, outcome_in, part, piece_of, pieces, place, progress, progress_arm, raised, records, return_arm, saved_place, saved_value, saved_values, signed, slot, slot_arm, slots, status, status_arm, step, steps, stolen, tag_of_outcome, tag_of_progress, tag_of_return, tag_of_slot, tag_of_status, task, thread, value_in, worker}
use Rattle.packet_fields.proofs.FormatLaws.{Lawful, bind_ok, checked_lawful, chosen_lawful, empty_is, followed_lawful, items_lawful, items_length, listed_lawful, made_lawful, never_lawful, nothing_lawful, number_again, number_lawful, ok_is, plain_lawful, plain_length, raw_lawful, raw_length, variant_lawful, wide1, wide2, wide4, wide8}

-- ---- names and numbers

pub worker_lawful : Lawful worker
unfolding worker
worker_lawful = checked_lawful (number 8) is_worker (number_lawful 8 wide8)

pub other_worker_lawful : (own : ℕ) → Lawful (other_worker own)
other_worker_lawful own = checked_lawful worker (λ heir. not (eqb heir own)) worker_lawful

pub epoch_lawful : Lawful epoch
unfolding epoch
epoch_lawful = checked_lawful (number 8) is_epoch (number_lawful 8 wide8)

pub actor_lawful : Lawful actor
unfolding actor
actor_lawful = checked_lawful (number 8) is_actor (number_lawful 8 wide8)

pub address_lawful : (allowed : ℕ → Bool) → Lawful (address allowed)
address_lawful allowed = checked_lawful (number 8) (λ to. is_address to && allowed to) (number_lawful 8 wide8)

pub counted_lawful : Lawful counted
unfolding counted
counted_lawful = checked_lawful (number 8) is_counted (number_lawful 8 wide8)

pub hop_lawful : Lawful hop
unfolding hop
hop_lawful = number_lawful 4 wide4

pub raised_lawful : Lawful raised
unfolding raised
raised_lawful = checked_lawful (number 4) (λ n. ltb 0 n) (number_lawful 4 wide4)

pub below_lawful : (next : ℕ) → Lawful (below next)
below_lawful next = checked_lawful (number 4) (λ n. ltb n next) (number_lawful 4 wide4)

pub pieces_lawful : Lawful pieces
unfolding pieces
pieces_lawful = checked_lawful (number 2) (λ n. leb 2 n && leb n most_pieces) (number_lawful 2 wide2)

pub piece_of_lawful : (pieces : ℕ) → Lawful (piece_of pieces)
piece_of_lawful pieces = checked_lawful (number 2) (λ n. ltb n pieces) (number_lawful 2 wide2)

pub part_lawful : (pieces number : ℕ) → Lawful (part pieces number)
unfolding part
part_lawful pieces number = listed_lawful 4 (allows_part pieces number) raw wide4 raw_lawful raw_length

pub grant_lawful : Lawful grant
unfolding grant
grant_lawful =
    made_lawful (followed actor (λ minter. counted)) (λ p. record { minter = p.0; number = p.1 })
    (λ g. (g.minter, g.number))
    (followed_lawful actor (λ minter. counted) actor_lawful (λ minter. counted_lawful))
    (λ g. refl)
    (λ from to p s. refl)

-- ---- tasks

pub step_lawful : Lawful step
unfolding step
step_lawful = checked_lawful (number 1) (λ s. ltb s 9) (number_lawful 1 wide1)

pub steps_lawful : Lawful steps
unfolding steps
steps_lawful = listed_lawful 2 (at_most 1024) (plain step) wide2 (plain_lawful step step_lawful) (plain_length step)

pub place_lawful : Lawful place
unfolding place
place_lawful = made_lawful steps reverse reverse steps_lawful (λ xs. reverse-reverse xs)
    (λ from to xs s. reverse-reverse xs)

pub thread_lawful : Lawful thread
unfolding thread
thread_lawful = checked_lawful (number 1) (λ t. ltb t 64) (number_lawful 1 wide1)

-- the test of a number is std's of what fits
fits_signed : (z : ℤ) → is_word z ≡ true → FitsSigned w64 z
fits_signed (pos n) e = record { sfits = ltb-true n (2 ^ 63) e }
fits_signed (negsuc n) e = record { sfits = ltb-true n (2 ^ 63) e }

is_word_of : (z : ℤ) → FitsSigned w64 z → is_word z ≡ true
is_word_of (pos n) s = lt-ltb n (2 ^ 63) s.sfits
is_word_of (negsuc n) s = lt-ltb n (2 ^ 63) s.sfits

bits_fit : (z : ℤ) → is_word z ≡ true → cast_unsigned w64 z < 256 ^ 8
bits_fit (pos n) e = omega (arith, ltb-true n (2 ^ 63) e)
bits_fit (negsuc n) e = omega arith

-- two's complement gives back the number
bits_back : (x : ℕ) → x < 256 ^ 8 → cast_unsigned w64 (cast_signed w64 x) ≡ x
bits_back x lt = of_z-to_z w64 x (omega arith)

is_word_signed : (x : ℕ) → x < 256 ^ 8 → is_word (cast_signed w64 x) ≡ true
is_word_signed x lt = is_word_of (cast_signed w64 x) (sfits_to_z (omega arith))

pub signed_lawful : Lawful signed
unfolding signed
signed_lawful = record {
  found = λ from to z bytes e.
      let b = bind_ok ((number 8).read from) (λ x. Ok (cast_signed w64 x.0, x.1)) (z, to) e in
      let s = (number_lawful 8 wide8).found from b.0.1 b.0.0 bytes b.1 in
      let read : ℤ × List ℕ = (cast_signed w64 b.0.0, b.0.1) in
      let spelled : from ≡ big_bytes 8 (cast_unsigned w64 (cast_signed w64 b.0.0)) ++ b.0.1 =
      s.0.1 ∙ ap (λ (x : ℕ). big_bytes 8 x ++ b.0.1) (sym (bits_back b.0.0 s.0.0)) in
      subst (λ (q : ℤ × List ℕ). ((is_word q.0 ≡ true) × (from ≡ big_bytes 8 (cast_unsigned w64 q.0) ++ q.1))
      × IsBytes q.1) (ok_is read (z, to) b.2) ((is_word_signed b.0.0 s.0.0, spelled), s.1);
  only = λ from to z s.
      let number_read : (number 8).read from ≡ Ok (cast_unsigned w64 z, to) =
      ap (number 8).read s.1 ∙ number_again 8 wide8 (cast_unsigned w64 z) to (bits_fit z s.0) in
      ap (λ (r : Result (ℕ × List ℕ) _). r >>= λ x. Ok (cast_signed w64 x.0, x.1)) number_read
      ∙ ap (λ (v : ℤ). Ok (v, to)) (to_z-of_z w64 z (fits_signed z s.0));
  one = λ from to z s. s.1;
  writes = λ z to f. (f, refl);
  fit = λ from to z s. s.0;
}

pub numbers_lawful : Lawful numbers
unfolding numbers
numbers_lawful = listed_lawful 1 (at_most 8) (plain signed) wide1 (plain_lawful signed signed_lawful)
    (plain_length signed)

pub task_lawful : Lawful task
unfolding task
task_lawful =
    made_lawful (followed place (λ _. followed thread (λ _. numbers)))
    (λ x. record { place = x.0; thread = x.1.0; numbers = x.1.1 })
    (λ t. (t.place, (t.thread, t.numbers)))
    (followed_lawful place (λ _. followed thread (λ _. numbers)) place_lawful
    (λ _. followed_lawful thread (λ _. numbers) thread_lawful (λ _. numbers_lawful)))
    (λ t. refl)
    (λ from to x s. refl)

-- ---- outcomes

value_of : (v : ℤ) (o : Outcome) → value_in o ≡ Some v → Value v ≡ o
value_of v (Value u) e = cc
value_of v TooDeep e = absurd cc

too_deep_is : (o : Outcome) → is_too_deep o ≡ true → o ≡ TooDeep
too_deep_is (Value v) e = absurd cc
too_deep_is TooDeep e = refl

pub outcome_arm_lawful : (tag : ℕ) → Lawful (outcome_arm tag)
outcome_arm_lawful zero = never_lawful Field
outcome_arm_lawful (suc zero) = variant_lawful signed Value value_in signed_lawful (λ v. refl) value_of
outcome_arm_lawful (suc (suc zero)) = nothing_lawful TooDeep is_too_deep refl too_deep_is
outcome_arm_lawful (suc (suc (suc n))) = never_lawful Field

pub outcome_tags : (tag : ℕ) (from to : List ℕ) (o : Outcome) → (outcome_arm tag).Spelled from to o
    → tag_of_outcome o ≡ tag
outcome_tags zero from to o s = absurd s
outcome_tags (suc zero) from to o s = ap tag_of_outcome (sym s.2)
outcome_tags (suc (suc zero)) from to o s = ap tag_of_outcome s.1
outcome_tags (suc (suc (suc n))) from to o s = absurd s

pub outcome_lawful : Lawful outcome
unfolding outcome
outcome_lawful = chosen_lawful (number 1) outcome_arm tag_of_outcome
    (number_lawful 1 wide1) outcome_arm_lawful outcome_tags

-- ---- how far a subcomputation is

finished_is : (o : Outcome) (p : Progress) → outcome_in p ≡ Some o → Finished o ≡ p
finished_is o Active e = absurd cc
finished_is o (Finished u) e = cc

active_is : (p : Progress) → is_active p ≡ true → p ≡ Active
active_is Active e = refl
active_is (Finished o) e = absurd cc

progress_arm_lawful : (tag : ℕ) → Lawful (progress_arm tag)
progress_arm_lawful zero = nothing_lawful Active is_active refl active_is
progress_arm_lawful (suc tag) = variant_lawful
    (outcome_arm (suc tag)) Finished outcome_in (outcome_arm_lawful (suc tag)) (λ o. refl) finished_is

progress_tags : (tag : ℕ) (from to : List ℕ) (p : Progress) → (progress_arm tag).Spelled from to p
    → tag_of_progress p ≡ tag
progress_tags zero from to p s = ap tag_of_progress s.1
progress_tags (suc tag) from to p s = ap tag_of_progress (sym s.2) ∙ outcome_tags (suc tag) from to s.0 s.1

pub progress_lawful : Lawful progress
unfolding progress
progress_lawful = chosen_lawful (number 1) progress_arm tag_of_progress
    (number_lawful 1 wide1) progress_arm_lawful progress_tags

-- ---- slots

open_is : (o : Option ℤ) → is_open o ≡ true → o ≡ None
open_is None e = refl
open_is (Some v) e = absurd cc

slot_arm_lawful : (tag : ℕ) → Lawful (slot_arm tag)
slot_arm_lawful zero = nothing_lawful None is_open refl open_is
slot_arm_lawful (suc zero) = variant_lawful signed Some (λ o. o) signed_lawful (λ v. refl) (λ v o e. sym e)
slot_arm_lawful (suc (suc n)) = never_lawful Field

slot_tags : (tag : ℕ) (from to : List ℕ) (o : Option ℤ) → (slot_arm tag).Spelled from to o → tag_of_slot o ≡ tag
slot_tags zero from to o s = ap tag_of_slot s.1
slot_tags (suc zero) from to o s = ap tag_of_slot (sym s.2)
slot_tags (suc (suc n)) from to o s = absurd s

pub slot_lawful : Lawful slot
unfolding slot
slot_lawful = chosen_lawful (number 1) slot_arm tag_of_slot (number_lawful 1 wide1) slot_arm_lawful slot_tags

pub slots_lawful : Lawful slots
unfolding slots
slots_lawful = listed_lawful 1 (at_most 8) (plain slot) wide1 (plain_lawful slot slot_lawful) (plain_length slot)

-- ---- where a value goes

local_is : (p : ℕ × ℕ) (r : Return) → local_in r ≡ Some p → Local p.0 p.1 ≡ r
local_is p Whole e = absurd cc
local_is p (Local f s) e =
    let q : ℕ × ℕ = (f, s) in
    let same : q ≡ p = cc in
    ap (λ (r : ℕ × ℕ). Local r.0 r.1) (sym same)

whole_is : (r : Return) → is_whole r ≡ true → r ≡ Whole
whole_is Whole e = refl
whole_is (Local f s) e = absurd cc

return_arm_lawful : (next tag : ℕ) → Lawful (return_arm next tag)
return_arm_lawful next zero = nothing_lawful Whole is_whole refl whole_is
return_arm_lawful next (suc zero) =
    variant_lawful (followed (below next) (λ f. checked (number 1) (λ s. ltb s 8))) (λ p. Local p.0 p.1) local_in
    (followed_lawful (below next) (λ f. checked (number 1) (λ s. ltb s 8)) (below_lawful next)
    (λ f. checked_lawful (number 1) (λ s. ltb s 8) (number_lawful 1 wide1)))
    (λ p. refl)
    local_is
return_arm_lawful next (suc (suc n)) = never_lawful Field

return_tags : (next tag : ℕ) (from to : List ℕ) (r : Return) → (return_arm next tag).Spelled from to r
    → tag_of_return r ≡ tag
return_tags next zero from to r s = ap tag_of_return s.1
return_tags next (suc zero) from to r s = ap tag_of_return (sym s.2)
return_tags next (suc (suc n)) from to r s = absurd s

pub goes_to_lawful : (next : ℕ) → Lawful (goes_to next)
unfolding goes_to
goes_to_lawful next = chosen_lawful (number 1) (return_arm next) tag_of_return (number_lawful 1 wide1)
    (return_arm_lawful next) (return_tags next)

-- ---- members

heir_is : (heir : ℕ) (s : Status) → heir_in s ≡ Some heir → Left heir ≡ s
heir_is heir Live e = absurd cc
heir_is heir Dead e = absurd cc
heir_is heir (Left other) e = cc

live_is : (s : Status) → is_live s ≡ true → s ≡ Live
live_is Live e = refl
live_is Dead e = absurd cc
live_is (Left heir) e = absurd cc

dead_is : (s : Status) → is_dead s ≡ true → s ≡ Dead
dead_is Live e = absurd cc
dead_is Dead e = refl
dead_is (Left heir) e = absurd cc

status_arm_lawful : (own tag : ℕ) → Lawful (status_arm own tag)
status_arm_lawful own zero = nothing_lawful Live is_live refl live_is
status_arm_lawful own (suc zero) = nothing_lawful Dead is_dead refl dead_is
status_arm_lawful own (suc (suc zero)) =
    variant_lawful (other_worker own) Left heir_in (other_worker_lawful own) (λ heir. refl) heir_is
status_arm_lawful own (suc (suc (suc n))) = never_lawful Field

status_tags : (own tag : ℕ) (from to : List ℕ) (t : Status) → (status_arm own tag).Spelled from to t
    → tag_of_status t ≡ tag
status_tags own zero from to t s = ap tag_of_status s.1
status_tags own (suc zero) from to t s = ap tag_of_status s.1
status_tags own (suc (suc zero)) from to t s = ap tag_of_status (sym s.2)
status_tags own (suc (suc (suc n))) from to t s = absurd s

pub status_lawful : (own : ℕ) → Lawful (status own)
unfolding status
status_lawful own = chosen_lawful (number 1) (status_arm own) tag_of_status (number_lawful 1 wide1)
    (status_arm_lawful own) (status_tags own)

pub member_lawful : (last : Option ℕ) → Lawful (member last)
unfolding member
member_lawful last =
    made_lawful (followed (checked worker (is_above last)) status) (λ x. record { incarnation = x.0; status = x.1 })
    (λ m. (m.incarnation, m.status))
    (followed_lawful (checked worker (is_above last)) status
    (checked_lawful worker (is_above last) worker_lawful) status_lawful)
    (λ m. refl)
    (λ from to x s. refl)

pub members_lawful : Lawful members
unfolding members
members_lawful = listed_lawful 2 (at_most 4096) (items name_of_member member None) wide2
    (items_lawful name_of_member member member_lawful None) (items_length name_of_member member None)

-- ---- frames

-- what stands behind a frame's number
frame_rest : ℕ → Format (List ℕ × (ℕ × (List (Option ℤ) × Return)))
frame_rest next = followed place (λ _. followed thread (λ _. followed slots (λ _. goes_to next)))

frame_rest_lawful : (next : ℕ) → Lawful (frame_rest next)
unfolding frame_rest
frame_rest_lawful next =
    followed_lawful place (λ _. followed thread (λ _. followed slots (λ _. goes_to next))) place_lawful (λ _.
    followed_lawful thread (λ _. followed slots (λ _. goes_to next)) thread_lawful (λ _.
    followed_lawful slots (λ _. goes_to next) slots_lawful (λ _. goes_to_lawful next)))

pub frame_lawful : (next : ℕ) (last : Option ℕ) → Lawful (frame next last)
unfolding frame frame_rest
frame_lawful next last =
    made_lawful (followed (checked (below next) (is_above last)) (λ _. frame_rest next))
    (λ x. record { number = x.0; place = x.1.0; thread = x.1.1.0; slots = x.1.1.1.0; returns = x.1.1.1.1 })
    (λ f. (f.number, (f.place, (f.thread, (f.slots, f.returns)))))
    (followed_lawful (checked (below next) (is_above last)) (λ _. frame_rest next)
    (checked_lawful (below next) (is_above last) (below_lawful next)) (λ _. frame_rest_lawful next))
    (λ f. refl)
    (λ from to x s. refl)

pub frames_lawful : (progress : Progress) (next : ℕ) → Lawful (frames progress next)
unfolding frames
frames_lawful progress next =
    listed_lawful 4 (allows progress) (items number_of_frame (frame next) None) wide4
    (items_lawful number_of_frame (frame next) (frame_lawful next) None)
    (items_length number_of_frame (frame next) None)

-- ---- records

-- what stands behind a record's grant
record_rest : ℕ → Format (ℕ × (ℕ × (Task × Return)))
record_rest next = followed worker (λ _. followed (below next) (λ _. followed task (λ _. goes_to next)))

record_rest_lawful : (next : ℕ) → Lawful (record_rest next)
unfolding record_rest
record_rest_lawful next =
    followed_lawful worker (λ _. followed (below next) (λ _. followed task (λ _. goes_to next))) worker_lawful (λ _.
    followed_lawful (below next) (λ _. followed task (λ _. goes_to next)) (below_lawful next) (λ _.
    followed_lawful task (λ _. goes_to next) task_lawful (λ _. goes_to_lawful next)))

pub stolen_lawful : (next : ℕ) (last : Option Grant) → Lawful (stolen next last)
unfolding stolen record_rest
stolen_lawful next last =
    made_lawful (followed (checked grant (is_behind last)) (λ _. record_rest next))
    (λ x. record { grant = x.0; holder = x.1.0; frame = x.1.1.0; task = x.1.1.1.0; returns = x.1.1.1.1 })
    (λ r. (r.grant, (r.holder, (r.frame, (r.task, r.returns)))))
    (followed_lawful (checked grant (is_behind last)) (λ _. record_rest next)
    (checked_lawful grant (is_behind last) grant_lawful) (λ _. record_rest_lawful next))
    (λ r. refl)
    (λ from to x s. refl)

pub records_lawful : (progress : Progress) (next : ℕ) → Lawful (records progress next)
unfolding records
records_lawful progress next =
    listed_lawful 4 (allows progress) (items grant_of_record (stolen next) None) wide4
    (items_lawful grant_of_record (stolen next) (stolen_lawful next) None)
    (items_length grant_of_record (stolen next) None)

-- ---- saved values

pub saved_place_lawful : Lawful saved_place
unfolding saved_place
saved_place_lawful =
    checked_lawful (made (listed 2 (λ n. ltb 0 n && ltb n 24) (plain step)) reverse reverse) is_saved_place
    (made_lawful (listed 2 (λ n. ltb 0 n && ltb n 24) (plain step)) reverse reverse
    (listed_lawful 2 (λ n. ltb 0 n && ltb n 24) (plain step) wide2 (plain_lawful step step_lawful)
    (plain_length step)) (λ xs. reverse-reverse xs) (λ from to xs s. reverse-reverse xs))

pub saved_value_lawful : (last : Option (List ℕ)) → Lawful (saved_value last)
unfolding saved_value
saved_value_lawful last =
    made_lawful (followed (checked saved_place (is_later last)) (λ _. signed))
    (λ x. record { place = x.0; value = x.1 }) (λ s. (s.place, s.value))
    (followed_lawful (checked saved_place (is_later last)) (λ _. signed)
    (checked_lawful saved_place (is_later last) saved_place_lawful) (λ _. signed_lawful))
    (λ s. refl)
    (λ from to x s. refl)

pub saved_values_lawful : Lawful saved_values
unfolding saved_values
saved_values_lawful =
    listed_lawful 1 (λ n. ltb 0 n && leb n 64) (items place_of saved_value None) wide1
    (items_lawful place_of saved_value saved_value_lawful None) (items_length place_of saved_value None)

pub no_values_lawful : Lawful no_values
unfolding no_values
no_values_lawful = nothing_lawful [] is_empty refl (λ xs e. empty_is xs e)

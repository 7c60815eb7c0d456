-- An Offer of what fits an accepted program and can move once more is a packet.
use Rattle.std.proofs.Common.{◌≡◌, ℕ, ◌+◌, ◌<◌, ◌≤◌, ◌^◌, Bool, true, false, not, nat_lt, List, [], ◌∷◌, cond, length, IsTrue, Option, Some, None, refl, sym, ap, ◌∙◌, arith}
use Rattle.std.specs.List.{AllByRecursion, sum_by}
use Rattle.std.proofs.lemmas.Bool.{lt-ltb, ltb-true}
use Rattle.ids.specs.Names.{Grant, is_worker}
use Rattle.ids.specs.Naming.{name_of_frame, name_of_record}
use Rattle.ids.specs.Ordered.{AreInOrder}
use Rattle.ids.specs.declared.outcome.Outcome.{Outcome}
use Rattle.ids.specs.declared.outcome.Progress.{Progress}
use Rattle.ids.specs.declared.outcome.Progress.TheVariants.{Active, Finished}
use Rattle.ids.specs.declared.work.Frame.{Frame}
use Rattle.ids.specs.declared.work.Record.{Record}
use Rattle.ids.specs.declared.work.Task.{Task}
use Rattle.task_tree.specs.declared.tree.Program.{Program}
use Rattle.kind_check.specs.Total.{IsAccepted, Takes}
use Rattle.packet_fields.specs.Fields as field
use Rattle.codec.specs.Table as table
use Rattle.codec.specs.Table.{PacketOf, is_packet}
use Rattle.codec.specs.declared.body.Body.TheVariants as body
use Rattle.codec.specs.declared.body.Offer.{Offer}
use Rattle.frames.specs.Frames.{AreBelow}
use Rattle.sub_rules.specs.declared.content.Content.{Content}
use Rattle.sub_rules.specs.Debts.{IsOwed}
use Rattle.sub_rules.proofs.Sums.{all_weaker}
use Rattle.subcomputation.specs.Fitting.{Fits, frame_fits, record_fits}
use Rattle.subcomputation.specs.Subs.{SubOf}
use Rattle.subcomputation.proofs.Fitting.{to_takes}
use Rattle.departure.specs.Offers.{offer, offer_of}
use Rattle.departure.specs.Typed.{FrameTyped, IsFew, RecordTyped, SubTyped}
use Rattle.departure.proofs.OfferingCounts.{having, no_more_than}
use Rattle.departure.proofs.OfferingFields.{FrameSuits, RecordSuits, both, frames_fit, records_fit}
use Rattle.departure.proofs.OfferingReturns.{GoesTo, HasFewSlots, frames_go, records_go}

-- what fits an accepted program is few
abbrev pub ThreadsAreFew : Type 0
ThreadsAreFew = (p : Program) (t count : ℕ) → IsAccepted p → Takes p t count → (t < 64) × (count ≤ 8)

pub fitting_is_few : ThreadsAreFew → (p : Program) (c : Content) → IsAccepted p → Fits p c → IsFew c
fitting_is_few law p c accepted fits =
    let task = law p c.task.thread (length c.task.numbers) accepted
    (to_takes p c.task.thread (length c.task.numbers) fits.task) in
    record {
      thread = task.0;
      numbers = task.1;
      frames = all_weaker (λ f. IsTrue (frame_fits p f)) (λ f. (f.thread < 64) × (length f.slots ≤ 8))
          (λ f fit. law p f.thread (length f.slots) accepted (to_takes p f.thread (length f.slots) fit)) c.frames
          fits.frames;
      records = all_weaker (λ r. IsTrue (record_fits p r)) (λ r. (r.task.thread < 64) × (length r.task.numbers ≤ 8))
          (λ r fit. law p r.task.thread (length r.task.numbers) accepted
          (to_takes p r.task.thread (length r.task.numbers) fit)) c.records fits.records;
    }

-- all that is known of each frame, and of each record
frames_suit : (next : ℕ) (fs : List Frame) → AreBelow next fs
    → AllByRecursion (λ f. (f.thread < 64) × (length f.slots ≤ 8)) fs → AllByRecursion (λ f. GoesTo next f.returns) fs
    → AllByRecursion FrameTyped fs → AllByRecursion (FrameSuits next) fs
frames_suit next [] below few goes typed = tt
frames_suit next (f ∷ fs) below few goes typed = (
  record { number = below.0; thread = few.0.0; few = few.0.1; goes = goes.0; typed = typed.0 },
  frames_suit next fs below.1 few.1 goes.1 typed.1,
)

records_suit : (next : ℕ) (rs : List Record) → AllByRecursion (λ r. r.frame < next) rs
    → AllByRecursion (λ r. (r.task.thread < 64) × (length r.task.numbers ≤ 8)) rs
    → AllByRecursion (λ r. GoesTo next r.returns) rs → AllByRecursion RecordTyped rs
    → AllByRecursion (RecordSuits next) rs
records_suit next [] below few goes typed = tt
records_suit next (r ∷ rs) below few goes typed = (
  record { number = below.0; thread = few.0.0; few = few.0.1; goes = goes.0; typed = typed.0 },
  records_suit next rs below.1 few.1 goes.1 typed.1,
)

no_frames : (o : Outcome) (next : ℕ) → (field.frames (Finished o) next).fits [] ≡ true
unfolding field.frames
no_frames o next = refl

no_records : (o : Outcome) (next : ℕ) → (field.records (Finished o) next).fits [] ≡ true
unfolding field.records
no_records o next = refl

-- what is known of the frames and records together
record Held (next : ℕ) (frames : List Frame) (records : List Record) : Type 0 where
  limit : next < 2 ^ 32
  below : AreBelow next frames
  stolen_below : AllByRecursion (λ r. r.frame < next) records
  once : (n : ℕ) → sum_by (having (λ (f : Frame). f.number) n) frames + sum_by
      (having (λ (r : Record). r.frame) n) records ≤ 1
  frame_order : AreInOrder name_of_frame frames
  record_order : AreInOrder name_of_record records
  few_frames : AllByRecursion (λ f. (f.thread < 64) × (length f.slots ≤ 8)) frames
  few_records : AllByRecursion (λ r. (r.task.thread < 64) × (length r.task.numbers ≤ 8)) records
  typed_frames : AllByRecursion FrameTyped frames
  typed_records : AllByRecursion RecordTyped records

few_slots : (frames : List Frame) → AllByRecursion (λ f. (f.thread < 64) × (length f.slots ≤ 8)) frames
    → AllByRecursion HasFewSlots frames
few_slots frames few = all_weaker (λ f. (f.thread < 64) × (length f.slots ≤ 8)) HasFewSlots
    (λ f both. both.1) frames few

frames_held : (p : Progress) (next : ℕ) (frames : List Frame) (records : List Record) → IsOwed p frames records
    → Held next frames records → (field.frames p next).fits frames ≡ true
frames_held Active next frames records owed held =
    let goes = frames_go next frames records owed held.below (few_slots frames held.few_frames) in
    frames_fit next frames held.limit (no_more_than (λ (f : Frame). f.number) next frames (λ n. let h =
    held.once n in omega arith) held.below) held.frame_order
    (frames_suit next frames held.below held.few_frames goes held.typed_frames)
frames_held (Finished o) next frames records owed held = rw owed.0 (no_frames o next)

records_held : (p : Progress) (next : ℕ) (frames : List Frame) (records : List Record) → IsOwed p frames records
    → Held next frames records → (field.records p next).fits records ≡ true
records_held Active next frames records owed held =
    let goes = records_go next frames records owed held.below (few_slots frames held.few_frames) in
    records_fit next records held.limit
    (no_more_than (λ (r : Record). r.frame) next records (λ n. let h =
    held.once n in omega arith) held.stolen_below) held.record_order
    (records_suit next records held.stolen_below held.few_records goes held.typed_records)
records_held (Finished o) next frames records owed held = rw owed.1 (no_records o next)

raised_fits : (n : ℕ) → 0 < n → n < 2 ^ 32 → field.raised.fits n ≡ true
unfolding field.raised
raised_fits n some limit = both (lt-ltb n (256 ^ 4) (omega arith)) (lt-ltb 0 n some)

held_by : (s : SubOf) → SubTyped s → IsFew s.content → AllByRecursion FrameTyped s.content.frames
    → AllByRecursion RecordTyped s.content.records → Held s.content.next s.content.frames s.content.records
held_by s typed few frames records = record {
  limit = typed.next;
  below = typed.sound.below;
  stolen_below = typed.sound.stolen_below;
  once = typed.sound.once;
  frame_order = typed.frames;
  record_order = typed.records;
  few_frames = few.frames;
  few_records = few.records;
  typed_frames = frames;
  typed_records = records;
}

-- the theorem
pub offered_fits : (job from heir : ℕ) (s : SubOf) → job < 2 ^ 64 → field.worker.fits from ≡ true
    → is_worker heir ≡ true → s.hop + 1 < 2 ^ 32 → SubTyped s → IsFew s.content
    → AllByRecursion FrameTyped s.content.frames → AllByRecursion RecordTyped s.content.records
    → is_packet (offer job from heir s) ≡ true
unfolding table.offer
offered_fits job from heir s job_fits from_fits heir_fits moves typed few frames records =
    let c = s.content in
    let held = held_by s typed few frames records in
    both (lt-ltb job (2 ^ 64) job_fits)
    (both heir_fits
    (both from_fits
    (both typed.grant
    (both (raised_fits (s.hop + 1) (omega arith) moves)
    (both typed.parent
    (both typed.progress
    (both (typed.task few.thread few.numbers)
    (both (raised_fits c.next typed.begun typed.next)
    (both (frames_held c.progress c.next c.frames c.records typed.sound.owed held)
    (records_held c.progress c.next c.frames c.records typed.sound.owed held))))))))))

-- the packet that is made of the Offer
abbrev pub packet_of : ℕ → ℕ → Offer → PacketOf
packet_of job to made = record { job = job; to = to; body = body.Offer made }

pub packet_made : (job from heir to : ℕ) (s : SubOf) (made : Offer) (o : Option PacketOf)
    → o ≡ cond (is_packet (packet_of job to made)) (Some (packet_of job to made)) None → to ≡ heir
    → made ≡ offer_of from s → is_packet (offer job from heir s) ≡ true → o ≡ Some (offer job from heir s)
packet_made job from heir to s made o is same_to same_offer fits =
    let same : packet_of job to made ≡ offer job from heir s =
    ap (λ t. packet_of job t made) same_to ∙ ap (packet_of job heir) same_offer in
    is ∙ ap (λ p. cond (is_packet p) (Some p) None) same ∙ ap (λ b. cond b (Some (offer job from heir s)) None) fits

-- one that hasn't moved for the last time moves once more
not_false : (b : Bool) → not b ≡ false → b ≡ true
not_false true is = refl
not_false false is = absurd cc

pub moves_on : (hop : ℕ) → not (nat_lt (hop + 1) (2 ^ 32)) ≡ false → hop + 1 < 2 ^ 32
moves_on hop is = ltb-true (hop + 1) (2 ^ 32) (not_false (nat_lt (hop + 1) (2 ^ 32)) is)

pub next_hop : (hop next : ℕ) (o : Option ℕ) → not (nat_lt (hop + 1) (2 ^ 32)) ≡ false
    → o ≡ cond (nat_lt (hop + 1) (2 ^ 32)) (Some (hop + 1)) None → o ≡ Some next → next ≡ hop + 1
next_hop hop next o moves is there =
    let counted : Some (hop + 1) ≡ o = sym (is
    ∙ ap (λ b. cond b (Some (hop + 1)) None) (not_false (nat_lt (hop + 1) (2 ^ 32)) moves)) in
    cc

-- an Offer of the same parts
abbrev pub offer_with : ℕ → Grant → ℕ → ℕ → Progress → Task → ℕ → List Frame → List Record → Offer
offer_with from grant hop parent progress task next frames records = record {
  from = from;
  grant = grant;
  hop = hop;
  parent = parent;
  progress = progress;
  task = task;
  next = next;
  frames = frames;
  records = records;
}

pub same_offer : (from : ℕ) (s : SubOf) (grant : Grant) (hop parent : ℕ) (progress : Progress) (task : Task) (next : ℕ)
    (frames : List Frame) (records : List Record) → grant ≡ s.grant → hop ≡ s.hop + 1 → parent ≡ s.content.parent
    → progress ≡ s.content.progress → task ≡ s.content.task → next ≡ s.content.next → frames ≡ s.content.frames
    → records ≡ s.content.records → offer_with from grant hop parent progress task next frames records ≡ offer_of from s
same_offer from s grant hop parent progress task next frames records a b c d e f g h = cc

-- A ready frame leaves a sound content: nothing is owed to it.
use Rattle.std.proofs.Common.{◌≡◌, ◌≢◌, ℕ, ◌+◌, List, Some, refl, ap, ◌∙◌, arith}
use Rattle.std.specs.List.{sum_by}
use Rattle.ids.specs.Names.{Grant}
use Rattle.ids.specs.Named.{Name}
use Rattle.ids.specs.Naming.{name_of_frame, name_of_grant, name_of_record}
use Rattle.ids.specs.Ordered.{AreInOrder}
use Rattle.ids.specs.declared.returns.Return.{Return}
use Rattle.ids.specs.declared.returns.Return.TheVariants.{Local}
use Rattle.ids.specs.declared.work.Frame.{Frame}
use Rattle.ids.specs.declared.work.Record.{Record}
use Rattle.serial_meaning.specs.Job.{JobOf}
use Rattle.frames.specs.Frames.{frame_in, missing_in, without_frame}
use Rattle.victim_records.specs.Records.{record_in}
use Rattle.sub_rules.specs.declared.content.Content.{Content}
use Rattle.sub_rules.specs.Debts.{IsSound, owes, record_owes, awaits_at}
use Rattle.sub_rules.proofs.Sums.{sum_left, nothing_left}
use Rattle.sub_rules.proofs.Slots.{apart, awaits_nothing}
use Rattle.sub_rules.proofs.Departures.{frame_goes_on}
use Rattle.sub_rules.proofs.Arrivals.{same_self}
use Rattle.agreement_laws.specs.Agreement.{IsOwed, ContentAgrees}
use Rattle.agreement_laws.proofs.Finding.{left, stays, part_of_sum}
use Rattle.agreement_laws.proofs.Owing.{Keeps, still_owed, still_holds, record_still_holds}

-- frames of other numbers don't await there
elsewhere : (n j : ℕ) (f : Frame) → (name_of_frame f ≡ (n, 0) → ⊥) → awaits_at (Local n j) f ≡ 0
elsewhere n j f other = rw (apart f.number n (λ same. other (ap (λ (k : ℕ). let name : Name = (k, 0) in name) same)))
    refl

-- nothing is owed to a frame
pub record Unowed (c : Content) (n : ℕ) : Type 0 where
  pub frames : (m i : ℕ) (f : Frame) → frame_in m c.frames ≡ Some f → f.returns ≢ Local n i
  pub records : (g : Grant) (i : ℕ) (r : Record) → record_in g c.records ≡ Some r → r.returns ≢ Local n i

nothing_owed : (c : Content) (f : Frame) (i : ℕ) → IsSound c → AreInOrder name_of_frame c.frames
    → frame_in f.number c.frames ≡ Some f → missing_in f.slots ≡ 0
    → sum_by (owes (Local f.number i)) c.frames + sum_by (record_owes (Local f.number i)) c.records ≡ 0
nothing_owed c f i sound order there ready =
    let r = Local f.number i in
    let goes_on = frame_goes_on c.progress f.number f c.frames c.records there sound.owed in
    let owed = goes_on.1.each r in
    let sums = sum_left name_of_frame (awaits_at r) (f.number, 0) f c.frames order there in
    let others = nothing_left name_of_frame (awaits_at r) (f.number, 0) (elsewhere f.number i) c.frames in
    let here = awaits_nothing f r ready in
    omega arith

frame_owes : (f : Frame) (r : Return) → f.returns ≡ r → owes r f ≡ 1
frame_owes f r same = rw (same, same_self) refl

a_record_owes : (x : Record) (r : Return) → x.returns ≡ r → record_owes r x ≡ 1
a_record_owes x r same = rw (same, same_self) refl

-- where a frame is ready
pub ready_unowed : (c : Content) (f : Frame) → IsSound c → AreInOrder name_of_frame c.frames
    → frame_in f.number c.frames ≡ Some f → missing_in f.slots ≡ 0 → Unowed c f.number
ready_unowed c f sound order there ready = record {
  frames = λ m i g at same. (
      let none = nothing_owed c f i sound order there ready in
      let part = part_of_sum name_of_frame (owes (Local f.number i)) (m, 0) g c.frames at in
      let one = frame_owes g (Local f.number i) same in
      absurd (omega arith));
  records = λ g i x at same. (
      let none = nothing_owed c f i sound order there ready in
      let part = part_of_sum name_of_record (record_owes (Local f.number i)) (name_of_grant g) x c.records at in
      let one = a_record_owes x (Local f.number i) same in
      absurd (omega arith));
}

other_name : (m n : ℕ) → m ≢ n → ◌≢◌ {A = Name} (m, 0) (n, 0)
other_name m n other same = other (ap (λ (name : Name). name.0) same)

-- the frames that a value goes to stay when another goes
pub keeps_without : (n : ℕ) (frames : List Frame) (r : Return) → ((i : ℕ) → r ≢ Local n i)
    → Keeps frames (without_frame n frames) r
keeps_without n frames r elsewhere m j f is there =
    let other : m ≢ n = λ same. elsewhere j (is ∙ ap (λ k. Local k j) same) in
    record { frame = f; there = stays name_of_frame (m, 0) (n, 0) frames (other_name m n other) ∙ there; at = refl }

-- what is left agrees
pub left_agrees : (job : JobOf) (c : Content) (n : ℕ) → Unowed c n → ContentAgrees job c
    → ContentAgrees job (record c { frames = without_frame n c.frames })
left_agrees job c n unowed agrees = record {
  task = agrees.task;
  frames = λ m f at. (
      let was = left name_of_frame (m, 0) (n, 0) f c.frames at in
      still_holds job c.task.place c.frames (without_frame n c.frames) f
      (keeps_without n c.frames f.returns (λ i. unowed.frames m i f was.1)) (agrees.frames m f was.1));
  records = λ g r at. record_still_holds job c.task.place c.frames (without_frame n c.frames) r
      (keeps_without n c.frames r.returns (λ i. unowed.records g i r at)) (agrees.records g r at);
  outcome = agrees.outcome;
}

-- what the frame owes is still owed
pub left_owes : (job : JobOf) (c : Content) (f : Frame) → Unowed c f.number → frame_in f.number c.frames ≡ Some f
    → ContentAgrees job c → IsOwed job c.task.place (without_frame f.number c.frames) f.place f.returns
left_owes job c f unowed there agrees =
    still_owed job c.task.place c.frames (without_frame f.number c.frames) f.place f.returns
    (keeps_without f.number c.frames f.returns (λ i. unowed.frames f.number i f there))
    (agrees.frames f.number f there).owed

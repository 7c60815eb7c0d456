-- Frames that are granted away, and records that are closed or renamed.
use Rattle.std.proofs.Common.{◌≡◌, ℕ, ℤ, List, Option, Some, None, inl, inr, refl, sym, ap, ◌∙◌, arith}
use Rattle.ids.specs.Names.{Grant}
use Rattle.ids.specs.Named.{Name, changed_of}
use Rattle.ids.specs.Naming.{name_of_frame, name_of_grant, name_of_record}
use Rattle.ids.specs.Ordered.{AreInOrder}
use Rattle.ids.specs.declared.outcome.Outcome.{Outcome}
use Rattle.ids.specs.declared.outcome.Outcome.TheVariants.{Value, TooDeep}
use Rattle.ids.specs.declared.returns.Return.{Return}
use Rattle.ids.specs.declared.work.Frame.{Frame}
use Rattle.ids.specs.declared.work.Record.{Record}
use Rattle.serial_meaning.specs.Places.{value_at, outcome_of, outcome_at}
use Rattle.serial_meaning.specs.Job.{JobOf}
use Rattle.serial_meaning.specs.Agrees.{numbers_in}
use Rattle.serial_meaning.proofs.FrameLaws.{bound_at, call_of}
use Rattle.frames.specs.Frames.{frame_in, put_frame, without_frame}
use Rattle.victim_records.specs.Records.{record_in, put_record, without_record, with_holder}
use Rattle.sub_rules.specs.declared.content.Content.{Content}
use Rattle.sub_rules.specs.Content.{Ready, ready, ready_in, task_of}
use Rattle.sub_rules.specs.Changes.{closed, record_of, granted_out, frame_of, redone, with_parent, with_thief}
use Rattle.sub_rules.specs.Debts.{IsSound, is_stolen}
use Rattle.sub_rules.proofs.Slots.{numbers_full}
use Rattle.sub_rules.proofs.Numbers.{absent, stolen_itself}
use Rattle.sub_rules.proofs.Departures.{frame_number}
use Rattle.agreement_laws.specs.Agreement.{TaskAgrees, RecordHolds, ContentAgrees}
use Rattle.agreement_laws.proofs.Finding.{left, put_stays, put_or_there, part_of_sum}
use Rattle.agreement_laws.proofs.Places.{none_at_root}
use Rattle.agreement_laws.proofs.Tasks.{task_holds, frame_task}
use Rattle.agreement_laws.proofs.Owing.{Keeps, still_owed, still_holds, record_still_holds}
use Rattle.agreement_laws.proofs.Leaving.{ready_unowed, left_agrees, left_owes}
use Rattle.agreement_laws.proofs.Arriving.{ChangeAgrees, end_agrees, arrival_agrees}

-- a content agrees without a record
pub closed_agrees : (job : JobOf) (c : Content) (g : Grant) → ContentAgrees job c
    → ContentAgrees job (record c { records = without_record g c.records })
closed_agrees job c g agrees = record {
  task = agrees.task;
  frames = agrees.frames;
  records = λ h r at. agrees.records h r (left name_of_record (name_of_grant h) (name_of_grant g) r c.records at).1;
  outcome = agrees.outcome;
}

-- what an outcome says of the value
value_of_outcome : (o : Option ℤ) (v : ℤ) → Value v ≡ outcome_of o → o ≡ Some v
value_of_outcome None v is = cc
value_of_outcome (Some w) v is = let same : v ≡ w = cc in ap Some (sym same)

none_of_outcome : (o : Option ℤ) → TooDeep ≡ outcome_of o → o ≡ None
none_of_outcome None is = refl
none_of_outcome (Some w) is = cc

-- the outcome of a record's task keeps agreement
pub result_agrees : (job : JobOf) (c : Content) (r : Record) (o : Outcome) → ContentAgrees job c
    → record_in r.grant c.records ≡ Some r → o ≡ outcome_at job.program job.input r.task.place
    → ChangeAgrees job (closed r o c)
result_agrees job c r (Value v) agrees there is =
    let holds = agrees.records r.grant r there in
    arrival_agrees job (record c { records = without_record r.grant c.records }) r.task.place r.returns v
    (closed_agrees job c r.grant agrees)
    holds.owed
    (value_of_outcome (value_at job.program job.input r.task.place) v is)
result_agrees job c r TooDeep agrees there is =
    let holds = agrees.records r.grant r there in
    let none = none_of_outcome (value_at job.program job.input r.task.place) is in
    end_agrees job TooDeep (record c { records = without_record r.grant c.records }) agrees.task
    (sym (ap outcome_of (none_at_root job.program job.input c.task.place r.task.place
    (call_of r.task.thread r.task.numbers) holds.below holds.task.short holds.task.at none)))

abbrev full_frame : Frame → List ℤ → Ready
full_frame f numbers = record { frame = f; numbers = numbers }

-- a ready frame that is found stands under its number
record IsReady (c : Content) (r : Ready) : Type 0 where
  pub there : frame_in r.frame.number c.frames ≡ Some r.frame
  pub full : numbers_in r.frame.slots ≡ Some r.numbers

ready_made : (c : Content) (f : Frame) (numbers : List ℤ) (r : Ready) → IsReady c (full_frame f numbers)
    → Some (full_frame f numbers) ≡ Some r → IsReady c r
ready_made c f numbers r is made = let same : full_frame f numbers ≡ r = cc in rw same at is

-- a frame that is found is found under its number
under_its_number : (n : ℕ) (f : Frame) (frames : List Frame) → frame_in n frames ≡ Some f
    → frame_in f.number frames ≡ Some f
under_its_number n f frames there = rw (frame_number n f frames there) at there

ready_found : (n : ℕ) (c : Content) (r : Ready) → ready_in n c ≡ Some r → IsReady c r
ready_found n c r is =
    let b = bound_at (frame_in n c.frames) ready r is in
    let b2 = bound_at (numbers_in b.first.slots) (λ (numbers : List ℤ). Some (full_frame b.first numbers)) r b.next in
    ready_made c b.first b2.first r (record { there = under_its_number n b.first c.frames b.is; full = b2.is }) b2.next

-- the task that a thief gets
pub granted_task : (job : JobOf) (c : Content) (n : ℕ) (r : Ready) → ContentAgrees job c → ready_in n c ≡ Some r
    → TaskAgrees job (task_of r)
granted_task job c n r agrees is =
    let at = ready_found n c r is in
    frame_task job c.task.place c.frames r.frame r.numbers (agrees.frames r.frame.number r.frame at.there) at.full

-- a content agrees with a record that holds
record_added : (job : JobOf) (c : Content) (x : Record) → ContentAgrees job c → RecordHolds job c.task.place c.frames x
    → ContentAgrees job (record c { records = put_record x c.records })
record_added job c x agrees holds = record {
  task = agrees.task;
  frames = agrees.frames;
  records = λ g r at. elim (put_or_there name_of_record (name_of_grant g) x r c.records at) [
    | inl new ↦ rw (new.1) holds
    | inr was ↦ agrees.records g r was.1
  ];
  outcome = agrees.outcome;
}

-- a record stands in the place of a ready frame
pub grant_agrees : (job : JobOf) (c : Content) (n : ℕ) (g : Grant) (thief : ℕ) (r : Ready) → IsSound c
    → AreInOrder name_of_frame c.frames → ContentAgrees job c → ready_in n c ≡ Some r
    → ContentAgrees job (granted_out g thief r c)
grant_agrees job c n g thief r sound order agrees is =
    let at = ready_found n c r is in
    let unowed = ready_unowed c r.frame sound order at.there (numbers_full r.frame.slots r.numbers at.full) in
    record_added job (record c { frames = without_frame r.frame.number c.frames }) (record_of g thief r)
    (left_agrees job c r.frame.number unowed agrees)
    (record {
      task = granted_task job c n r agrees is;
      below = (agrees.frames r.frame.number r.frame at.there).below;
      owed = left_owes job c r.frame unowed at.there agrees;
    })

-- the number of a stolen frame is that of no other
stolen_alone : (c : Content) (r : Record) → IsSound c → record_in r.grant c.records ≡ Some r
    → frame_in r.frame c.frames ≡ None
stolen_alone c r sound there =
    let once = sound.once r.frame in
    let part = part_of_sum name_of_record (is_stolen r.frame) (name_of_grant r.grant) r c.records there in
    let itself = stolen_itself r in
    absent r.frame c.frames (omega arith)

-- frames stay at their places when one comes under a new number
keeps_again : (f : Frame) (frames : List Frame) (r : Return) → frame_in f.number frames ≡ None
    → Keeps frames (put_frame f frames) r
keeps_again f frames r new n j g is there =
    record {
      frame = g;
      there = put_stays name_of_frame (n, 0) f frames
          (λ same. none_some (ap (λ (name : Name). name.0) same)) ∙ there;
      at = refl;
    }
  where
    none_some : n ≡ f.number → ⊥
    none_some same = let at : frame_in f.number frames ≡ Some g =
        rw same at there in both (frame_in f.number frames) new at
      where
        both : (o : Option Frame) → o ≡ None → o ≡ Some g → ⊥
        both o none some = cc

-- the frame of a record that is closed is there again
pub redone_agrees : (job : JobOf) (c : Content) (r : Record) → IsSound c → ContentAgrees job c
    → record_in r.grant c.records ≡ Some r → ContentAgrees job (redone r c)
redone_agrees job c r sound agrees there =
    let holds = agrees.records r.grant r there in
    let new = stolen_alone c r sound there in
    let frames = put_frame (frame_of r) c.frames in
    let root = c.task.place in
    record {
      task = agrees.task;
      frames = λ n f at. elim (put_or_there name_of_frame (n, 0) (frame_of r) f c.frames at) [
        | inl again ↦ rw (again.1) (task_holds job root frames (frame_of r) r.task holds.task refl refl refl holds.below
            (still_owed job root c.frames frames r.task.place r.returns
            (keeps_again (frame_of r) c.frames r.returns new) holds.owed))
        | inr was ↦ still_holds job root c.frames frames f (keeps_again (frame_of r) c.frames f.returns new)
            (agrees.frames n f was.1)
      ];
      records = λ g x at. (
          let was = left name_of_record (name_of_grant g) (name_of_grant r.grant) x c.records at in
          record_still_holds job root c.frames frames x (keeps_again (frame_of r) c.frames x.returns new)
          (agrees.records g x was.1));
      outcome = agrees.outcome;
    }

pub parent_agrees : (job : JobOf) (host : ℕ) (c : Content) → ContentAgrees job c
    → ContentAgrees job (with_parent host c)
parent_agrees job host c agrees = record {
  task = agrees.task;
  frames = agrees.frames;
  records = agrees.records;
  outcome = agrees.outcome;
}

-- a record that another worker holds owes the same
pub thief_agrees : (job : JobOf) (g : Grant) (holder : ℕ) (c : Content) → ContentAgrees job c
    → ContentAgrees job (with_thief g holder c)
thief_agrees job g holder c agrees = by_found (record_in g c.records) refl
  where
    by_found : (o : Option Record) → record_in g c.records ≡ o
        → ContentAgrees job (record c { records = changed_of name_of_record (with_holder holder) c.records o })
    by_found None is = parent_agrees job c.parent c agrees
    by_found (Some x) is =
        let holds = agrees.records g x is in
        record_added job c (with_holder holder x) agrees
        (record { task = holds.task; below = holds.below; owed = holds.owed })

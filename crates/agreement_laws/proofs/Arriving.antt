-- A value comes to where it is awaited.
use Rattle.std.proofs.Common.{◌≡◌, ℕ, ℤ, zero, List, ◌∷◌, Option, Some, None, inl, inr, refl, sym, ap, ◌∙◌}
use Rattle.std.specs.List.{slice_set}
use Rattle.std.proofs.lemmas.List.{length-set}
use Rattle.task_tree.specs.declared.tree.Program.{Program}
use Rattle.ids.specs.Named.{Name}
use Rattle.ids.specs.Naming.{name_of_frame}
use Rattle.ids.specs.declared.outcome.Outcome.{Outcome}
use Rattle.ids.specs.declared.outcome.Outcome.TheVariants.{Value}
use Rattle.ids.specs.declared.returns.Return.{Return}
use Rattle.ids.specs.declared.returns.Return.TheVariants.{Whole, Local}
use Rattle.ids.specs.declared.work.Frame.{Frame}
use Rattle.ids.specs.declared.work.Record.{Record}
use Rattle.ids.proofs.Replacing.{put_is_found}
use Rattle.serial_meaning.specs.Places.{slot_at, value_at, outcome_of, outcome_at}
use Rattle.serial_meaning.specs.Job.{JobOf}
use Rattle.serial_meaning.specs.Agrees.{FrameAgrees}
use Rattle.serial_meaning.proofs.FrameLaws.{filled_agrees}
use Rattle.frames.specs.Frames.{frame_in, put_frame, with_slot}
use Rattle.sub_rules.specs.declared.change.ContentChange.{ContentChange}
use Rattle.sub_rules.specs.declared.content.Content.{Content}
use Rattle.sub_rules.specs.Changes.{arrives, ends, filled}
use Rattle.sub_rules.proofs.Departures.{frame_number}
use Rattle.agreement_laws.specs.Agreement.{IsOwed, FrameHolds, TaskAgrees, ContentAgrees, FillAgrees}
use Rattle.agreement_laws.proofs.Finding.{same_or_other, put_stays, put_or_there}
use Rattle.agreement_laws.proofs.Owing.{Keeps, still_owed, still_holds, record_still_holds}

-- a change keeps agreement, and the value that it puts into a slot is received there
pub record ChangeAgrees (job : JobOf) (change : ContentChange) : Type 0 where
  pub content : ContentAgrees job change.after
  pub fill : FillAgrees job change.fill

-- the end of a content agrees where the outcome does
pub end_agrees : (job : JobOf) (o : Outcome) (c : Content) → TaskAgrees job c.task
    → o ≡ outcome_at job.program job.input c.task.place → ChangeAgrees job (ends o c)
end_agrees job o c task is = record {
  content = record {
    task = task;
    frames = λ n f at. absurd (no_frame f at);
    records = λ g r at. absurd (no_record r at);
    outcome = is;
  };
  fill = tt;
}
  where
    no_frame : (f : Frame) → None ≡ Some f → ⊥
    no_frame f at = cc

    no_record : (r : Record) → None ≡ Some r → ⊥
    no_record r at = cc

-- a successor agrees with the value that one of its slots receives
successor_filled : (p : Program) (input : List ℤ) (place before : List ℕ) (t : ℕ) (slots : List (Option ℤ)) (j : ℕ)
    (v : ℤ) → place ≡ zero ∷ before → FrameAgrees p input place t slots → slot_at p input before j ≡ Some v
    → FrameAgrees p input place t (slice_set slots j (Some v))
successor_filled p input place before t slots j v successor agrees is =
    let next : FrameAgrees p input (zero ∷ before) t slots = rw successor at agrees in
    rw successor (filled_agrees p input before t slots j v next is)

same_found : (f g : Frame) (o : Option Frame) → o ≡ Some f → o ≡ Some g → f ≡ g
same_found f g o a b = cc

name_number : (m n : ℕ) → ◌≡◌ {A = Name} (m, 0) (n, 0) → m ≡ n
name_number m n same = ap (λ (name : Name). name.0) same

-- each frame stays at its place when a slot of one is filled
keeps_filled : (parent : Frame) (j : ℕ) (v : ℤ) (frames : List Frame) (r : Return)
    → frame_in parent.number frames ≡ Some parent → Keeps frames (put_frame (with_slot j v parent) frames) r
keeps_filled parent j v frames r here m i f is there = elim (same_or_other (m, 0) (parent.number, 0)) [
  | inl same ↦
      let number : m ≡ parent.number = name_number m parent.number same in
      let at : frame_in parent.number frames ≡ Some f = rw number at there in
      record {
        frame = with_slot j v parent;
        there = rw number (put_is_found name_of_frame (with_slot j v parent) frames);
        at = ap (λ (g : Frame). g.place) (same_found parent f (frame_in parent.number frames) here at);
      }
  | inr other ↦ record {
    frame = f;
    there = put_stays name_of_frame (m, 0) (with_slot j v parent) frames other ∙ there;
    at = refl;
  }
]

-- the frame whose slot is filled holds
parent_holds : (job : JobOf) (root : List ℕ) (frames : List Frame) (parent : Frame) (before : List ℕ) (j : ℕ) (v : ℤ)
    → frame_in parent.number frames ≡ Some parent → parent.place ≡ zero ∷ before
    → slot_at job.program job.input before j ≡ Some v → FrameHolds job root frames parent
    → FrameHolds job root (put_frame (with_slot j v parent) frames) (with_slot j v parent)
parent_holds job root frames parent before j v here successor is holds = record {
  takes = rw (length-set parent.slots j (Some v)) holds.takes;
  agrees = successor_filled job.program job.input parent.place before parent.thread parent.slots j v successor
      holds.agrees is;
  short = holds.short;
  below = holds.below;
  owed = still_owed job root frames (put_frame (with_slot j v parent) frames) parent.place parent.returns
      (keeps_filled parent j v frames parent.returns here) holds.owed;
}

-- the value that a slot receives comes to it
fill_agrees : (job : JobOf) (c : Content) (parent : Frame) (before : List ℕ) (j : ℕ) (v : ℤ) → ContentAgrees job c
    → frame_in parent.number c.frames ≡ Some parent → parent.place ≡ zero ∷ before
    → slot_at job.program job.input before j ≡ Some v → ChangeAgrees job (filled j v c parent)
fill_agrees job c parent before j v agrees here successor is = record {
  content = record {
    task = agrees.task;
    frames = λ m g at. elim (put_or_there name_of_frame (m, 0) (with_slot j v parent) g c.frames at) [
      | inl x ↦ rw (x.1) (parent_holds job c.task.place c.frames parent before j v here successor is
          (agrees.frames parent.number parent here))
      | inr x ↦ still_holds job c.task.place c.frames (put_frame (with_slot j v parent) c.frames) g
          (keeps_filled parent j v c.frames g.returns here) (agrees.frames m g x.1)
    ];
    records = λ g r at. record_still_holds job c.task.place c.frames (put_frame (with_slot j v parent) c.frames) r
        (keeps_filled parent j v c.frames r.returns here) (agrees.records g r at);
    outcome = agrees.outcome;
  };
  fill = record { before = before; successor = successor; value = is };
}

-- a value that is owed comes to where it is awaited
pub arrival_agrees : (job : JobOf) (c : Content) (place : List ℕ) (r : Return) (v : ℤ) → ContentAgrees job c
    → IsOwed job c.task.place c.frames place r → value_at job.program job.input place ≡ Some v
    → ChangeAgrees job (arrives r v c)
arrival_agrees job c place Whole v agrees owed is =
    end_agrees job (Value v) c agrees.task (sym (ap outcome_of (sym owed ∙ is)))
arrival_agrees job c place (Local n j) v agrees owed is =
    let number : n ≡ owed.parent.number = frame_number n owed.parent c.frames owed.there in
    let here : frame_in owed.parent.number c.frames ≡ Some owed.parent = rw number at owed.there in
    rw (owed.there) (fill_agrees job c owed.parent owed.before j v agrees here owed.successor (sym owed.value ∙ is))

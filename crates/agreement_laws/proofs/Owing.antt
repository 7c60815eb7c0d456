-- What is owed stays owed where the frame that it is owed to stays at its place.
use Rattle.std.proofs.Common.{◌≡◌, ℕ, List, Some, refl, ◌∙◌}
use Rattle.ids.specs.declared.returns.Return.{Return}
use Rattle.ids.specs.declared.returns.Return.TheVariants.{Whole, Local}
use Rattle.ids.specs.declared.work.Frame.{Frame}
use Rattle.ids.specs.declared.work.Record.{Record}
use Rattle.serial_meaning.specs.Job.{JobOf}
use Rattle.frames.specs.Frames.{frame_in}
use Rattle.agreement_laws.specs.Agreement.{IsOwed, FrameHolds, RecordHolds}

-- a frame stands under a number at a place
pub record Stands (frames : List Frame) (n : ℕ) (place : List ℕ) : Type 0 where
  pub frame : Frame
  pub there : frame_in n frames ≡ Some frame
  pub at : frame.place ≡ place

-- the frames that a value goes to stay at their places
abbrev pub Keeps : (old new : List Frame) → Return → Type 0
Keeps old new r = (n j : ℕ) (f : Frame) → r ≡ Local n j → frame_in n old ≡ Some f → Stands new n f.place

pub still_owed : (job : JobOf) (root : List ℕ) (old new : List Frame) (place : List ℕ) (r : Return) → Keeps old new r
    → IsOwed job root old place r → IsOwed job root new place r
still_owed job root old new place Whole keeps owed = owed
still_owed job root old new place (Local n j) keeps owed =
    let stands = keeps n j owed.parent refl owed.there in
    record {
      parent = stands.frame;
      before = owed.before;
      there = stands.there;
      successor = stands.at ∙ owed.successor;
      value = owed.value;
    }

pub still_holds : (job : JobOf) (root : List ℕ) (old new : List Frame) (f : Frame) → Keeps old new f.returns
    → FrameHolds job root old f → FrameHolds job root new f
still_holds job root old new f keeps holds = record {
  takes = holds.takes;
  agrees = holds.agrees;
  short = holds.short;
  below = holds.below;
  owed = still_owed job root old new f.place f.returns keeps holds.owed;
}

pub record_still_holds : (job : JobOf) (root : List ℕ) (old new : List Frame) (r : Record) → Keeps old new r.returns
    → RecordHolds job root old r → RecordHolds job root new r
record_still_holds job root old new r keeps holds = record {
  task = holds.task;
  below = holds.below;
  owed = still_owed job root old new r.task.place r.returns keeps holds.owed;
}

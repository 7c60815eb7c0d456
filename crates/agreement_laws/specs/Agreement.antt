-- A content agrees with a job: its frames, its records and its outcome are what the serial meaning
-- says of their places.
use Rattle.std.specs.Prelude.{◌≡◌, ◌≤◌, ℕ, ℤ, zero, List, ◌∷◌, ◌++◌, length, Option, Some, None}
use Rattle.std.specs.List.{AllByRecursion}
use Rattle.ids.specs.Names.{Grant}
use Rattle.ids.specs.declared.outcome.Progress.{Progress}
use Rattle.ids.specs.declared.outcome.Progress.TheVariants.{Active, Finished}
use Rattle.ids.specs.declared.returns.Return.{Return}
use Rattle.ids.specs.declared.returns.Return.TheVariants.{Whole, Local}
use Rattle.ids.specs.declared.work.Frame.{Frame}
use Rattle.ids.specs.declared.work.Record.{Record}
use Rattle.ids.specs.declared.work.Task.{Task}
use Rattle.kind_check.specs.Total.{Takes}
use Rattle.serial_meaning.specs.Places.{task_at, slot_at, value_at, outcome_at}
use Rattle.serial_meaning.specs.Job.{JobOf}
use Rattle.serial_meaning.specs.Agrees.{FrameAgrees}
use Rattle.frames.specs.Frames.{frame_in}
use Rattle.victim_records.specs.Records.{record_in}
use Rattle.saved_values.specs.declared.value.SavedValue.{SavedValue}
use Rattle.sub_rules.specs.declared.change.Filling.{Filling}
use Rattle.sub_rules.specs.declared.content.Content.{Content}
use Rattle.sub_rules.specs.Resuming.{Known}

-- a place is below another, or the same: it has more steps in front
pub record IsBelow (root place : List ℕ) : Type 0 where
  pub steps : List ℕ
  pub is : place ≡ steps ++ root

-- the value at a place is that of slot j of frame n, which succeeds a join
pub record IsOwedAt (job : JobOf) (frames : List Frame) (place : List ℕ) (n j : ℕ) : Type 0 where
  pub parent : Frame
  pub before : List ℕ
  pub there : frame_in n frames ≡ Some parent
  pub successor : parent.place ≡ zero ∷ before
  pub value : value_at job.program job.input place ≡ slot_at job.program job.input before j

-- what the value at a place is for: it is that of the whole, which stands at the root place, or
-- that of a slot
abbrev pub IsOwed : JobOf → List ℕ → List Frame → List ℕ → Return → Type 0
IsOwed job root frames place Whole = value_at job.program job.input place ≡ value_at job.program job.input root
IsOwed job root frames place (Local n j) = IsOwedAt job frames place n j

-- a task is that of its place in the serial run, within 1,024 steps, and its thread takes its
-- numbers
pub record TaskAgrees (job : JobOf) (task : Task) : Type 0 where
  pub takes : Takes job.program task.thread (length task.numbers)
  pub at : task_at job.program job.input task.place ≡ Some (record { thread = task.thread; numbers = task.numbers })
  pub short : length task.place ≤ 1024

-- a frame holds what the serial meaning says of its place, which is below the root place, and its
-- value is owed
pub record FrameHolds (job : JobOf) (root : List ℕ) (frames : List Frame) (f : Frame) : Type 0 where
  pub takes : Takes job.program f.thread (length f.slots)
  pub agrees : FrameAgrees job.program job.input f.place f.thread f.slots
  pub short : length f.place ≤ 1024
  pub below : IsBelow root f.place
  pub owed : IsOwed job root frames f.place f.returns

-- a record's task is that of its place, which is below the root place, and its value is owed
pub record RecordHolds (job : JobOf) (root : List ℕ) (frames : List Frame) (r : Record) : Type 0 where
  pub task : TaskAgrees job r.task
  pub below : IsBelow root r.task.place
  pub owed : IsOwed job root frames r.task.place r.returns

-- an outcome is that of the task
abbrev pub OutcomeAgrees : JobOf → List ℕ → Progress → Type 0
OutcomeAgrees job root Active = Unit {0}
OutcomeAgrees job root (Finished o) = o ≡ outcome_at job.program job.input root

-- a content agrees: its task, each of its frames and open records, and its outcome
pub record ContentAgrees (job : JobOf) (c : Content) : Type 0 where
  pub task : TaskAgrees job c.task
  pub frames : (n : ℕ) (f : Frame) → frame_in n c.frames ≡ Some f → FrameHolds job c.task.place c.frames f
  pub records : (g : Grant) (r : Record) → record_in g c.records ≡ Some r → RecordHolds job c.task.place c.frames r
  pub outcome : OutcomeAgrees job c.task.place c.progress

-- a value that comes to a slot of a successor is the one that the slot receives
pub record IsReceived (job : JobOf) (x : Filling) : Type 0 where
  pub before : List ℕ
  pub successor : x.place ≡ zero ∷ before
  pub value : slot_at job.program job.input before x.slot ≡ Some x.value

-- the same of a value that may have come
abbrev pub FillAgrees : JobOf → Option Filling → Type 0
FillAgrees job None = Unit {0}
FillAgrees job (Some x) = IsReceived job x

-- what is known agrees: it is the value of its place
abbrev pub KnownAgrees : JobOf → Known → Type 0
KnownAgrees job known = (place : List ℕ) (v : ℤ) → known place ≡ Some v → value_at job.program job.input place ≡ Some v

-- a saved value agrees: it is the value of its place
abbrev pub IsSavedOf : JobOf → SavedValue → Type 0
IsSavedOf job x = value_at job.program job.input x.place ≡ Some x.value

abbrev pub AllSavedAgree : JobOf → List SavedValue → Type 0
AllSavedAgree job saved = AllByRecursion (IsSavedOf job) saved

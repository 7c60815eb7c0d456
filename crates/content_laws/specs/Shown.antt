-- How tables show the content of a subcomputation: what each of its readers gives, at each frame
-- number, is in the tables.
use Rattle.std.specs.Prelude.{◌≡◌, ℕ, ℤ, Option, Some, None, slice_get}
use Rattle.ids.specs.Names.{Grant}
use Rattle.ids.specs.declared.outcome.Outcome.{Outcome}
use Rattle.ids.specs.declared.outcome.Outcome.TheVariants.{Value, TooDeep}
use Rattle.ids.specs.declared.outcome.Progress.{Progress}
use Rattle.ids.specs.declared.outcome.Progress.TheVariants.{Active, Finished}
use Rattle.ids.specs.declared.returns.Return.{Return}
use Rattle.ids.specs.declared.returns.Return.TheVariants.{Whole, Local}
use Rattle.ids.specs.declared.work.Frame.{Frame}
use Rattle.ids.specs.declared.work.Record.{Record}
use Rattle.ids.specs.declared.work.Task.{Task}
use Rattle.frames.specs.Frames.{frame_in}
use Rattle.victim_records.specs.Records.{record_in}
use Rattle.sub_rules.specs.declared.content.Content.{Content}
use Rattle.table_laws.specs.Content as tables

-- where a value goes
abbrev pub return_of : Return → tables.Return
return_of Whole = tables.Whole
return_of (Local n j) = tables.Local n j

-- a slot that a frame may have
abbrev pub slot_of : Option (Option ℤ) → tables.Slot
slot_of None = tables.Absent
slot_of (Some None) = tables.Empty
slot_of (Some (Some v)) = tables.Full v

-- a task
abbrev pub task_of : Task → tables.Task
task_of task = record { place = task.place; thread = task.thread; numbers = task.numbers }

-- the number of an outcome; none where it is too deep
abbrev pub outcome_number : Outcome → Option ℤ
outcome_number (Value v) = Some v
outcome_number TooDeep = None

-- the outcome of a content, if it is finished
abbrev pub outcome_of : Progress → Option (Option ℤ)
outcome_of Active = None
outcome_of (Finished o) = Some (outcome_number o)

-- a frame stands in tables under its number, and is no record
pub record ShowsFrame (t : tables.Content) (f : Frame) : Type 0 where
  pub returns : t.returns f.number ≡ Some (return_of f.returns)
  pub place : t.place f.number ≡ f.place
  pub thread : t.thread f.number ≡ f.thread
  pub slots : (j : ℕ) → t.slots f.number j ≡ slot_of (slice_get f.slots j)
  pub unstolen : t.granted f.number ≡ None

-- an open record stands under the number of its frame: its task in the frame's place, and its grant
pub record ShowsRecord (t : tables.Content) (r : Record) : Type 0 where
  pub returns : t.returns r.frame ≡ Some (return_of r.returns)
  pub holds : tables.HoldsTask t r.frame (task_of r.task)
  pub stolen : t.granted r.frame ≡ Some r.grant

-- number n is that of no frame and of no open record
pub record IsUnused (c : Content) (n : ℕ) : Type 0 where
  pub frame : frame_in n c.frames ≡ None
  pub record_of : (g : Grant) (r : Record) → record_in g c.records ≡ Some r → r.frame ≡ n → ⊥

-- nothing stands under a number. Its place and its thread may be any: tables keep those of frames
-- that are gone
pub record ShowsNothing (t : tables.Content) (n : ℕ) : Type 0 where
  pub returns : t.returns n ≡ None
  pub slots : (j : ℕ) → t.slots n j ≡ tables.Absent
  pub unstolen : t.granted n ≡ None

-- tables show a content. Who holds a record's grant isn't in them: it is told by who was sent what
pub record Shows (t : tables.Content) (c : Content) : Type 0 where
  pub host : t.host ≡ c.parent
  pub task : t.task ≡ task_of c.task
  pub next : t.next ≡ c.next
  pub outcome : t.outcome ≡ outcome_of c.progress
  pub frames : (n : ℕ) (f : Frame) → frame_in n c.frames ≡ Some f → ShowsFrame t f
  pub records : (g : Grant) (r : Record) → record_in g c.records ≡ Some r → ShowsRecord t r
  pub unused : (n : ℕ) → IsUnused c n → ShowsNothing t n

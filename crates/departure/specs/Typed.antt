-- What the types of a subcomputation's parts see to: that these parts can be written into a packet.
use Rattle.std.specs.Prelude.{◌≡◌, ◌<◌, ◌≤◌, ◌^◌, true, length}
use Rattle.std.specs.List.{AllByRecursion, list_all}
use Rattle.ids.specs.Naming.{name_of_frame, name_of_record}
use Rattle.ids.specs.Ordered.{AreInOrder}
use Rattle.ids.specs.declared.work.Frame.{Frame}
use Rattle.ids.specs.declared.work.Record.{Record}
use Rattle.ids.specs.declared.work.Task.{Task}
use Rattle.packet_fields.specs.Fields as field
use Rattle.sub_rules.specs.declared.content.Content.{Content}
use Rattle.sub_rules.specs.Debts.{IsSound}
use Rattle.subcomputation.specs.Subs.{SubOf}

-- a task can be written where its thread is below 64 and it has at most 8 numbers
abbrev pub TaskTyped : Task → Type 0
TaskTyped t = t.thread < 64 → length t.numbers ≤ 8 → field.task.fits t ≡ true

-- the place of a frame, and the numbers in its slots
pub record FrameTyped (f : Frame) : Type 0 where
  pub place : field.place.fits f.place ≡ true
  pub slots : list_all field.slot.fits f.slots ≡ true

-- the grant of a record, its holder, and its task
pub record RecordTyped (r : Record) : Type 0 where
  pub grant : field.grant.fits r.grant ≡ true
  pub holder : field.worker.fits r.holder ≡ true
  pub task : TaskTyped r.task

-- what a subcomputation has beside its frames and records, which are sound and stand in order
pub record SubTyped (s : SubOf) : Type 0 where
  pub grant : field.grant.fits s.grant ≡ true
  pub parent : field.actor.fits s.content.parent ≡ true
  pub progress : field.progress.fits s.content.progress ≡ true
  pub task : TaskTyped s.content.task
  pub begun : 0 < s.content.next
  pub next : s.content.next < 2 ^ 32
  pub sound : IsSound s.content
  pub frames : AreInOrder name_of_frame s.content.frames
  pub records : AreInOrder name_of_record s.content.records

-- its threads are below 64, and have at most 8 numbers or slots
pub record IsFew (c : Content) : Type 0 where
  pub thread : c.task.thread < 64
  pub numbers : length c.task.numbers ≤ 8
  pub frames : AllByRecursion (λ f. (f.thread < 64) × (length f.slots ≤ 8)) c.frames
  pub records : AllByRecursion (λ r. (r.task.thread < 64) × (length r.task.numbers ≤ 8)) c.records

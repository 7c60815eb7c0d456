-- What is found on a disk.
use Rattle.std.specs.Prelude.{◌≡◌, ◌≢◌, ℕ, List, [], Option, None, Some}
use Rattle.ids.specs.declared.outcome.Outcome.{Outcome}
use Rattle.disk.specs.declared.cells.Cell.{Cell}
use Rattle.disk.specs.Device.{Device}
use Rattle.disk.specs.File.{CrashLeaves}
use Rattle.checkpoint.specs.Format.{fresh}
use Rattle.checkpoint.specs.Store.{IsRefused, KeepsRecord, ReadsAsStore}
use Rattle.checkpoint.specs.declared.record.CheckpointRecord.{CheckpointRecord}
use Rattle.checkpoint.specs.declared.record.StoreError.{StoreError}
use Rattle.serial_meaning.specs.Job.{JobOf}
use Rattle.world_steps.specs.Agrees.{StoredAgree}
use Rattle.world_steps.specs.declared.first_disk.Found.{Found}
use Rattle.world_steps.specs.declared.first_disk.Found.TheVariants.{Kept, Begins}

-- a file keeps the record that was read of one that a crash may leave of a disk, of whatever
-- sequence, or that of a job that has just begun where that one was empty; it is the job's, with
-- this outcome or none
pub record IsKeptOf (old : Device) (number : ℕ) (outcome : Option Outcome) (file : List Cell) : Type 0 where
  pub content : List ℕ
  pub left : CrashLeaves old.file content
  pub sequence : ℕ
  pub found : CheckpointRecord
  pub read : content ≢ [] → (n : ℕ) × ReadsAsStore content n found
  pub made : content ≡ [] → found ≡ fresh number
  pub kept : KeepsRecord file sequence found
  pub own : found.job ≡ number
  pub told : found.outcome ≡ outcome

abbrev pub IsFoundOn : {D : Type 0} → (D → Device) → JobOf → Device → Found D → Type 0
IsFoundOn device job old (Kept o d) = IsKeptOf old job.number (Some o) (device d).file
IsFoundOn device job old (Begins f) = (f.job ≡ job) × IsKeptOf old job.number None (device f.disk).file

-- what is saved on the disk that comes back agrees, if that was so of the one that was given
abbrev pub StillAgrees : {D : Type 0} → (D → Device) → JobOf → Device → Found D → Type 0
StillAgrees device job old (Kept o d) = StoredAgree job old → StoredAgree job (device d)
StillAgrees device job old (Begins f) = StoredAgree job old → StoredAgree job (device f.disk)

-- why nothing is found: what a crash may leave of the disk isn't opened for the job of a number
pub record IsRefusedOn (e : StoreError) (file : List Cell) (number : ℕ) : Type 0 where
  pub content : List ℕ
  pub left : CrashLeaves file content
  pub refused : IsRefused e content number

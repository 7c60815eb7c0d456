-- The disk over which a run of a job begins.
use Rattle.std.specs.Prelude.{◌≡◌, ℕ, List, None}
use Rattle.disk.specs.Device.{Device}
use Rattle.checkpoint.specs.Store.{KeepsRecord}
use Rattle.checkpoint.specs.declared.record.CheckpointRecord.{CheckpointRecord}
use Rattle.saved_values.specs.declared.value.SavedValue.{SavedValue}
use Rattle.serial_meaning.specs.Job.{JobOf}
use Rattle.world_steps.specs.Seats.{IsStill}

-- it isn't armed, all of it is there for good, and it is the job's checkpoint, without an outcome;
-- values may be saved there
pub record IsFirst (job : JobOf) (d : Device) : Type 0 where
  pub still : IsStill d
  pub sequence : ℕ
  pub found : CheckpointRecord
  pub kept : KeepsRecord d.file sequence found
  pub own : found.job ≡ job.number
  pub no_outcome : found.outcome ≡ None

-- and these values are saved there
abbrev pub IsFirstWith : JobOf → Device → List SavedValue → Type 0
IsFirstWith job d saved = (first : IsFirst job d) × (first.found.saved ≡ saved)

pub record FirstOf (D : Type 0) : Type 0 where
  pub job : JobOf
  pub disk : D
  pub saved : List SavedValue

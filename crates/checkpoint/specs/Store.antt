-- A store as its callers see it.
use Rattle.std.specs.Prelude.{◌≡◌, ◌≢◌, ◌≤◌, ◌-◌, ◌^◌, ℕ, Bool, false, not, List, length, take, get_or}
use Rattle.disk.specs.Device.{Device as DeviceOf}
use Rattle.disk.specs.declared.cells.Cell.{Cell}
use Rattle.disk.specs.File.{CrashLeaves}
use Rattle.checkpoint.specs.Format.{IsNew, IsOld, IsStore, name}
use Rattle.checkpoint.specs.Pair.{is_open, slot}
use Rattle.checkpoint.specs.declared.record.CheckpointRecord.{CheckpointRecord}
use Rattle.checkpoint.specs.declared.record.SlotId.{SlotId}
use Rattle.checkpoint.specs.declared.record.SlotId.TheVariants.{Small, Large}
use Rattle.checkpoint.specs.declared.record.StoreError.{StoreError}
use Rattle.checkpoint.specs.declared.record.StoreError.TheVariants.{Spent, JobMismatch, Damaged, Device, Version}

-- the disk, the current record and its sequence, and whether a call of the device failed
pub record Opened (D : Type 0) : Type 0 where
  pub disk : D
  pub «record» : CheckpointRecord
  pub sequence : ℕ
  pub ended : Bool

-- a store that was read, and isn't opened yet: its disk, the current record, its sequence and where
-- it stands
pub record LookedAt (D : Type 0) : Type 0 where
  pub disk : D
  pub «record» : CheckpointRecord
  pub sequence : ℕ
  pub slot : SlotId

-- a read gives a store with this current record
abbrev pub ReadsAsStore : List ℕ → ℕ → CheckpointRecord → Type 0
ReadsAsStore file sequence r = (at : SlotId) × IsStore file at sequence r

-- whatever a crash leaves is a store with this current record, in one slot
pub record KeepsRecord (file : List Cell) (sequence : ℕ) (r : CheckpointRecord) : Type 0 where
  pub slot : SlotId
  pub each : (c : List ℕ) → CrashLeaves file c → IsStore c slot sequence r

-- and one of the newer form
pub record KeepsNew (file : List Cell) (sequence : ℕ) (r : CheckpointRecord) : Type 0 where
  pub second : Bool
  pub each : (c : List ℕ) → CrashLeaves file c → IsNew c second sequence r

-- so it is of a store that is open on a disk, and its current record
abbrev pub KeepsItself : {D : Type 0} → (D → DeviceOf) → Opened D → Type 0
KeepsItself device s = KeepsNew (device s.disk).file s.sequence s.record

-- whatever a crash leaves is a store with this current record, of whatever sequence
abbrev pub KeepsContent : List Cell → CheckpointRecord → Type 0
KeepsContent file r = (c : List ℕ) → CrashLeaves file c → (sequence : ℕ) × ReadsAsStore c sequence r

-- the sequence is spent: no record can follow
abbrev pub IsSpent : {D : Type 0} → Opened D → Type 0
IsSpent s = (s.ended ≡ false) × (s.sequence ≡ 2 ^ 64 - 1)

-- the file begins as a store of some version
abbrev pub IsNamed : List ℕ → Type 0
IsNamed file = (8 ≤ length file) × (take 7 file ≡ name)

-- it is a store of another version
abbrev pub IsOther : List ℕ → Type 0
IsOther file = IsNamed file × (get_or file 7 0 ≢ 1)

-- it is a store of the older form, of a job, whose sequence is spent
pub record IsSpentOld (file : List ℕ) (job : ℕ) : Type 0 where
  pub second : Bool
  pub found : CheckpointRecord
  pub old : IsOld file second (2 ^ 64 - 1) found
  pub own : found.job ≡ job

-- why a file that was read isn't opened for a job
abbrev pub IsRefused : StoreError → List ℕ → ℕ → Type 0
IsRefused Version file job = IsOther file
IsRefused Damaged file job = ¬ IsOther file × ((n : ℕ) (r : CheckpointRecord) → ¬ ReadsAsStore file n r)
IsRefused JobMismatch file job = (n : ℕ) × (r : CheckpointRecord) × ReadsAsStore file n r × (r.job ≢ job)
IsRefused Spent file job = IsSpentOld file job
IsRefused Device file job = ⊥

-- the slot beside one
abbrev pub beside : SlotId → List ℕ → List ℕ
beside (Small second) file = slot 8 63 (not second) file
beside (Large second) file = slot 136 2111 (not second) file

-- what is held of a file that reads so: where the record stands, and whether the gate beside it
-- reads as open
pub record IsHeld (file : List ℕ) (at : SlotId) (sequence : ℕ) (r : CheckpointRecord) (gate : Bool) : Type 0 where
  pub store : IsStore file at sequence r
  pub other : gate ≡ is_open (beside at file)

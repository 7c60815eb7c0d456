-- A commit and an opening at any moment.
use Rattle.std.specs.Prelude.{◌+◌, ◌≤◌, ◌⊎◌, ℕ, Bool, IsTrue, List, length, take, Option}
use Rattle.disk.specs.declared.cells.Cell.{Cell}
use Rattle.disk.specs.Device.{Device}
use Rattle.disk.specs.File.{CrashLeaves, bytes_of}
use Rattle.checkpoint.specs.Calls.{DeviceCall, Stopped, after}
use Rattle.checkpoint.specs.Commit.{IsCommit, IsOpening}
use Rattle.checkpoint.specs.Format.{IsNew}
use Rattle.checkpoint.specs.Store.{KeepsNew, KeepsRecord, Opened, ReadsAsStore}
use Rattle.checkpoint.specs.declared.record.CheckpointRecord.{CheckpointRecord}

-- a read gives a store of the newer form with this current record
abbrev pub ReadsAsNew : List ℕ → ℕ → CheckpointRecord → Type 0
ReadsAsNew file sequence r = (second : Bool) × IsNew file second sequence r

-- whatever a crash leaves is a store of the record before or of the next one
abbrev pub KeepsEither : List Cell → ℕ → CheckpointRecord → CheckpointRecord → Type 0
KeepsEither file sequence before next = (c : List ℕ) → CrashLeaves file c → ReadsAsNew c sequence before ⊎ ReadsAsNew c (sequence + 1) next

-- so it is after a call on an open store: the record of before, or this one
abbrev pub KeepsOldOr : {D : Type 0} → (D → Device) → CheckpointRecord → (old new : Opened D) → Type 0
KeepsOldOr device next old new = KeepsEither (device new.disk).file old.sequence old.record next

-- the calls of a commit on a device that keeps the record before
pub record Moments (d : Device) (sequence : ℕ) (before next : CheckpointRecord) (calls : List DeviceCall) : Type 0 where
  -- while at most four calls passed, it keeps that record
  pub early : (k : ℕ) → k ≤ 4 → KeepsNew (after d (take k calls)).file sequence before
  pub early_stop : (plan : ℕ → Option (List ℕ)) (new : Device) → Stopped (take 4 calls) plan d new → KeepsNew new.file sequence before
  -- a device that can be cut doesn't carry out a call that fails, so there it is the same with the
  -- fifth
  pub fifth_stop : IsTrue d.can_cut → (plan : ℕ → Option (List ℕ)) (new : Device) → Stopped (take 5 calls) plan d new → KeepsNew new.file sequence before
  -- after the fifth, or where any of them failed, it keeps that one or the next
  pub fifth : KeepsEither (after d (take 5 calls)).file sequence before next
  pub stop : (plan : ℕ → Option (List ℕ)) (new : Device) → Stopped calls plan d new → KeepsEither new.file sequence before next
  -- after the sixth it keeps the next
  pub done : KeepsNew (after d calls).file (sequence + 1) next

-- so it is with each commit
abbrev pub BeforeOrAfter : Type 0
BeforeOrAfter = (d : Device) (sequence : ℕ) (before next : CheckpointRecord) (calls : List DeviceCall) → KeepsRecord d.file sequence before → IsCommit (bytes_of d.file) sequence before next calls → Moments d sequence before next calls

-- whatever a crash leaves is a store of this record, of one of these sequences
abbrev pub KeepsAt : List Cell → (old new : ℕ) → CheckpointRecord → Type 0
KeepsAt file old new r = (c : List ℕ) → CrashLeaves file c → ReadsAsStore c old r ⊎ ReadsAsStore c new r

-- the calls of an opening on a device that keeps the record: it keeps that at each moment, and at
-- its end as a store of the newer form
pub record Openings (d : Device) (sequence : ℕ) (r : CheckpointRecord) (opened : ℕ) (calls : List DeviceCall) : Type 0 where
  pub kept : (k : ℕ) → k ≤ length calls → KeepsAt (after d (take k calls)).file sequence opened r
  pub stop : (plan : ℕ → Option (List ℕ)) (new : Device) → Stopped calls plan d new → KeepsAt new.file sequence opened r
  pub done : KeepsNew (after d calls).file opened r

-- so it is with each opening
abbrev pub KeptAllAlong : Type 0
KeptAllAlong = (d : Device) (sequence : ℕ) (r : CheckpointRecord) (opened : ℕ) (calls : List DeviceCall) → KeepsRecord d.file sequence r → IsOpening (bytes_of d.file) sequence r opened calls → Openings d sequence r opened calls

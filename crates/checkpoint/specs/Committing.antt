-- What a call does that commits a record, and one that opens a store.
use Rattle.std.specs.Prelude.{◌≡◌, ◌≢◌, ◌⊎◌, ◌↔◌, ◌+◌, false, true, ℕ, List, length, Option, Result, IsErrOf, OnOk, OnErr, IfOk, IfErr}
use Rattle.disk.specs.Device.{Device}
use Rattle.disk.specs.File.{bytes_of}
use Rattle.checkpoint.specs.Calls.{DeviceCall, Passed, Stopped}
use Rattle.checkpoint.specs.Commit.{IsCommit, IsOpening, opening}
use Rattle.checkpoint.specs.Moments.{KeepsOldOr}
use Rattle.checkpoint.specs.Store.{IsRefused, IsSpent, KeepsContent, KeepsItself, KeepsRecord, Opened, ReadsAsStore}
use Rattle.checkpoint.specs.declared.record.CheckpointRecord.{CheckpointRecord}
use Rattle.checkpoint.specs.declared.record.StoreError.{StoreError}
use Rattle.checkpoint.specs.declared.record.StoreError.TheVariants as error

-- on disks of a type, with the device that each is and its plan, which calls will fail
module _ {D : Type 0} (device : D → Device) (planned : D → ℕ → Option (List ℕ)) where
  -- a record is committed into an open store, by six device calls
  pub record Commits (next : CheckpointRecord) (result : Result (Unit {0}) StoreError) (old new : Opened D) : Type 0 where
    pub ok : OnOk result (new ≡ record { disk = new.disk; «record» = next; sequence = old.sequence + 1; ended = false })
    pub calls : OnOk result ((calls : List DeviceCall) × IsCommit (bytes_of (device old.disk).file) old.sequence old.«record» next calls × Passed calls (planned old.disk) (device old.disk) (device new.disk))
    pub plan : OnOk result ((i : ℕ) → planned new.disk i ≡ planned old.disk (i + 6))
    pub refused : OnErr result (IsErrOf result error.Spent ⊎ IsErrOf result error.Device)
    pub spent : IsErrOf result error.Spent ↔ IsSpent old
    pub unchanged : IsErrOf result error.Spent → new ≡ old
    pub ended : old.ended ≡ true → IsErrOf result error.Device × (new ≡ old)
    pub ends : IsErrOf result error.Device → new ≡ record old { disk = new.disk; ended = true }
    pub can_cut : (device new.disk).can_cut ≡ (device old.disk).can_cut
    pub stopped : IsErrOf result error.Device → old.ended ≡ false → (calls : List DeviceCall) × IsCommit (bytes_of (device old.disk).file) old.sequence old.«record» next calls × Stopped calls (planned old.disk) (device old.disk) (device new.disk)
    -- where whatever a crash leaves has the current record: then it has the new one, or at any
    -- moment that one or the new one
    pub kept : KeepsItself device old → OnOk result (KeepsItself device new)
    pub either : KeepsItself device old → KeepsOldOr device next old new

  -- the store of a job is opened over a disk; what is refused gives the disk back
  pub record Opens (job : ℕ) (disk : D) (result : Result (Opened D) (StoreError × D)) : Type 0 where
    pub opened : IfOk result (λ s. (s.ended ≡ false) × ReadsAsStore (bytes_of (device s.disk).file) s.sequence s.«record» × (s.«record».job ≡ job))
    pub calls : IfOk result (λ s. (n : ℕ) × (calls : List DeviceCall) × IsOpening (bytes_of (device disk).file) n s.«record» s.sequence calls × Passed calls (planned disk) (device disk) (device s.disk) × ((i : ℕ) → planned s.disk i ≡ planned disk (i + length calls)))
    -- where whatever a crash leaves has one current record, that is the store's, and it stays so
    pub kept : IfOk result (λ s. (n : ℕ) (r : CheckpointRecord) → KeepsRecord (device disk).file n r → KeepsItself device s × (s.«record» ≡ r))
    pub kept_back : IfErr result (λ e. (n : ℕ) (r : CheckpointRecord) → KeepsRecord (device disk).file n r → KeepsContent (device e.1).file r)
    pub alone : IfErr result (λ e. (n : ℕ) (r : CheckpointRecord) → ReadsAsStore (bytes_of (device disk).file) n r → r.job ≡ job → (e.0 ≡ error.Device) ⊎ (e.0 ≡ error.Spent))
    pub refused : IfErr result (λ e. e.0 ≢ error.Device → IsRefused e.0 (bytes_of (device disk).file) job × Passed opening (planned disk) (device disk) (device e.1))
    pub stopped : IfErr result (λ e. e.0 ≡ error.Device → Stopped opening (planned disk) (device disk) (device e.1) ⊎ ((n m : ℕ) × (r : CheckpointRecord) × (calls : List DeviceCall) × IsOpening (bytes_of (device disk).file) n r m calls × Stopped calls (planned disk) (device disk) (device e.1)))

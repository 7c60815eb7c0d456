-- What a call of the clearinghouse answers, and what it leaves of it and of its checkpoint.
use Rattle.std.specs.Prelude.{◌≡◌, ◌⊎◌, ◌+◌, ◌-◌, ◌<◌, ◌^◌, ◌++◌, ℕ, true, false, List, [], length, Option, None, Some, Result, Ok, Err}
use Rattle.codec.specs.Table.{PacketOf}
use Rattle.disk.specs.Device.{Device}
use Rattle.disk.specs.declared.cells.Cell.{Cell}
use Rattle.disk.specs.File.{CrashLeaves, bytes_of}
use Rattle.checkpoint.specs.Calls.{DeviceCall, Passed, Stopped as HasStopped, after}
use Rattle.checkpoint.specs.Commit.{IsCommit, IsOpening, opening}
use Rattle.checkpoint.specs.Moments.{KeepsEither}
use Rattle.checkpoint.specs.Store.{IsRefused, KeepsNew, KeepsRecord, Opened, ReadsAsStore}
use Rattle.checkpoint.specs.declared.record.CheckpointRecord.{CheckpointRecord as Stored}
use Rattle.checkpoint.specs.declared.record.StoreError.TheVariants as store_error
use Rattle.ids.specs.declared.outcome.Outcome.{Outcome}
use Rattle.saved_values.specs.declared.value.SavedValue.{SavedValue}
use Rattle.serial_meaning.specs.Job.{JobOf}
use Rattle.clearinghouse.specs.Calls.{can_begin, next_epoch}
use Rattle.clearinghouse.specs.House.{HouseOf, Kept, State, Open, Stopped, kept_of, opened}
use Rattle.clearinghouse.specs.Laws.{IsHouse}
use Rattle.clearinghouse.specs.Moves
use Rattle.clearinghouse.specs.Steps.{HouseAnswer, Ignored, Refused, Does}
use Rattle.clearinghouse.specs.declared.error.HouseError.{HouseError}
use Rattle.clearinghouse.specs.declared.error.HouseError.TheVariants as error
use Rattle.clearinghouse.specs.declared.parts.Act.{Act}
use Rattle.clearinghouse.specs.declared.parts.Act.TheVariants as act
use Rattle.clearinghouse.specs.declared.parts.HouseStep.{HouseStep}
use Rattle.clearinghouse.specs.declared.parts.Stop.{Stop}
use Rattle.clearinghouse.specs.declared.parts.Stop.TheVariants as by

-- of an answer that commits nothing: what is sent, and the clearinghouse after it
abbrev pub IsSent : HouseAnswer → List PacketOf → HouseOf → Type 0
IsSent Ignored sent new = ⊥
IsSent (Refused e) sent new = ⊥
IsSent (Does s) sent new = (s.commits ≡ None) × (sent ≡ s.sent) × (new ≡ s.after)

-- of an answer that records an outcome: that one, and what is sent
abbrev pub IsRecorded : HouseAnswer → Outcome → List PacketOf → HouseOf → Type 0
IsRecorded Ignored o sent old = ⊥
IsRecorded (Refused e) o sent old = ⊥
IsRecorded (Does s) o sent old = (s ≡ Moves.records o s.sent old) × (sent ≡ s.sent)

-- of an answer that saves values: these
abbrev pub IsSaved : HouseAnswer → List SavedValue → HouseOf → Type 0
IsSaved Ignored saved old = ⊥
IsSaved (Refused e) saved old = ⊥
IsSaved (Does s) saved old = s ≡ Moves.saves saved old

-- what is to be done by an answer; what is to be committed isn't done yet. Being out of memory may
-- leave a part of it
abbrev pub Acts : HouseAnswer → Result Act HouseError → HouseOf → HouseOf → Type 0
Acts expected (Ok act.Ignored) old new = (expected ≡ Ignored) × (new ≡ old)
Acts expected (Ok (act.Sends sent)) old new = IsSent expected sent new
Acts expected (Ok (act.Records o sent)) old new = IsRecorded expected o sent old × (new ≡ old) × (old.sequence + 1 < 2 ^ 64)
Acts expected (Ok (act.Saves saved)) old new = IsSaved expected saved old × (new ≡ old) × (old.sequence + 1 < 2 ^ 64)
Acts expected (Err error.Memory) old new = Unit {0}
Acts expected (Err (error.Bytes fault)) old new = (expected ≡ Refused (error.Bytes fault)) × (new ≡ old)
Acts expected (Err error.Spent) old new = (expected ≡ Refused error.Spent) × (new ≡ old)
Acts expected (Err error.JobMismatch) old new = ⊥
Acts expected (Err error.Damaged) old new = ⊥
Acts expected (Err error.Device) old new = ⊥
Acts expected (Err error.Version) old new = ⊥
Acts expected (Err error.RosterFull) old new = (expected ≡ Refused error.RosterFull) × (new ≡ old)

-- what a checkpoint keeps of a job, as its record
abbrev pub record_of : JobOf → Kept → Stored
record_of job k = record { job = job.number; epoch = k.epoch; outcome = k.outcome; saved = k.saved }

-- the same the other way
abbrev pub kept_in : ℕ → Stored → Kept
kept_in sequence r = record { sequence = sequence; epoch = r.epoch; outcome = r.outcome; saved = r.saved }

-- a clearinghouse of a job: where it stands, and its checkpoint's store
pub record HouseOn (D : Type 0) : Type 0 where
  pub job : JobOf
  pub state : State
  pub store : Opened D

-- it stands open until something stops it
abbrev pub state_of : HouseOf → Option Stop → State
state_of h None = Open h
state_of h (Some s) = Stopped s

-- what holds between the calls of an open one: what its checkpoint keeps is what it holds
pub record IsOpen {D : Type 0} (job : JobOf) (store : Opened D) (h : HouseOf) : Type 0 where
  pub house : IsHouse h
  pub stored : store ≡ record store { «record» = record_of job (kept_of h); sequence = h.sequence; ended = false }

abbrev pub IsHouseOn : {D : Type 0} → HouseOn D → State → Type 0
IsHouseOn on (Open h) = IsOpen on.job on.store h
IsHouseOn on (Stopped s) = Unit {0}

-- whatever a crash leaves is a checkpoint of one of two records
abbrev pub KeepsOneOf : List Cell → (one other : Stored) → Type 0
KeepsOneOf file one other = (c : List ℕ) → CrashLeaves file c → (sequence : ℕ) × (ReadsAsStore c sequence one ⊎ ReadsAsStore c sequence other)

-- a disk reads as a checkpoint of this job, over which an epoch can begin, and by these calls its
-- store is opened, which counts from here then
pub record Openable (job : JobOf) (d : Device) : Type 0 where
  pub sequence : ℕ
  pub found : Stored
  pub reads : ReadsAsStore (bytes_of d.file) sequence found
  pub own : found.job ≡ job.number
  -- an epoch and a commit are left
  pub begins : can_begin (kept_in sequence found) ≡ true
  pub counts : ℕ
  pub opens : List DeviceCall
  pub opening : IsOpening (bytes_of d.file) sequence found counts opens

-- what is committed then
abbrev pub begun_of : {job : JobOf} {d : Device} → Openable job d → Kept
begun_of way = next_epoch (kept_in way.counts way.found)

-- the commit of it, behind the calls that open it
abbrev pub Begins : (job : JobOf) (d : Device) → Openable job d → List DeviceCall → Type 0
Begins job d way calls = IsCommit (bytes_of (after d way.opens).file) way.counts way.found (record_of job (begun_of way)) calls

module _ {D : Type 0} (device : D → Device) (planned : D → ℕ → Option (List ℕ)) where
  abbrev bytes : Opened D → List ℕ
  bytes store = bytes_of (device store.disk).file

  -- a disk was read
  abbrev IsRead : (disk left : D) → Type 0
  IsRead disk left = Passed opening (planned disk) (device disk) (device left)

  -- the six calls of a commit were made, and all passed
  pub record Committed (next : Stored) (old new : Opened D) : Type 0 where
    pub store : new ≡ record { disk = new.disk; «record» = next; sequence = old.sequence + 1; ended = false }
    pub calls : (calls : List DeviceCall) × IsCommit (bytes old) old.sequence old.record next calls × Passed calls (planned old.disk) (device old.disk) (device new.disk)
    pub plan : (i : ℕ) → planned new.disk i ≡ planned old.disk (i + 6)
    -- where whatever a crash leaves has the record before, then it has the new one
    pub kept : KeepsNew (device old.disk).file old.sequence old.record → KeepsNew (device new.disk).file new.sequence new.record

  -- one of them failed, and those before it passed
  pub record Halted (next : Stored) (old new : Opened D) : Type 0 where
    pub store : new ≡ record old { disk = new.disk; ended = true }
    pub calls : (calls : List DeviceCall) × IsCommit (bytes old) old.sequence old.record next calls × HasStopped calls (planned old.disk) (device old.disk) (device new.disk)
    -- where whatever a crash leaves has the record before, then it has that one or the next
    pub either : KeepsNew (device old.disk).file old.sequence old.record → KeepsEither (device new.disk).file old.sequence old.record next

  -- what becomes of the checkpoint
  abbrev pub Stores : Option Kept → (old new : HouseOn D) → Type 0
  Stores None old new = new.store ≡ old.store
  Stores (Some k) old new = Committed (record_of old.job k) old.store new.store

  -- what is told of an answer that is no refusal, and what becomes of the clearinghouse
  abbrev pub Carries : HouseAnswer → HouseStep → (old new : HouseOn D) → Type 0
  Carries Ignored step old new = (step ≡ record { sent = []; ignored = true }) × (new ≡ old)
  Carries (Refused e) step old new = ⊥
  Carries (Does s) step old new = (step ≡ record { sent = s.sent; ignored = false }) × (new ≡ record old { state = Open s.after; store = new.store }) × Stores s.commits old new

  -- a commit failed: what was to be done isn't, and nothing is sent
  abbrev pub FailsToCommit : Option Kept → (old new : HouseOn D) → Type 0
  FailsToCommit None old new = ⊥
  FailsToCommit (Some k) old new = (new ≡ record old { state = Stopped by.Device; store = new.store }) × Halted (record_of old.job k) old.store new.store

  abbrev pub Fails : HouseAnswer → (old new : HouseOn D) → Type 0
  Fails Ignored old new = ⊥
  Fails (Refused e) old new = (e ≡ error.Device) × (new ≡ old)
  Fails (Does s) old new = FailsToCommit s.commits old new

  -- what is answered is what was to be answered; or a device call of its commit failed, or there
  -- was no memory, and then the clearinghouse is stopped
  abbrev pub HouseMeets : HouseAnswer → Result HouseStep HouseError → (old new : HouseOn D) → Type 0
  HouseMeets expected (Ok step) old new = Carries expected step old new
  HouseMeets expected (Err error.Memory) old new = new ≡ record old { state = Stopped by.Memory }
  HouseMeets expected (Err error.Device) old new = Fails expected old new
  HouseMeets expected (Err (error.Bytes fault)) old new = (expected ≡ Refused (error.Bytes fault)) × (new ≡ old)
  HouseMeets expected (Err error.Spent) old new = (expected ≡ Refused error.Spent) × (new ≡ old)
  HouseMeets expected (Err error.JobMismatch) old new = ⊥
  HouseMeets expected (Err error.Damaged) old new = ⊥
  HouseMeets expected (Err error.Version) old new = ⊥
  HouseMeets expected (Err error.RosterFull) old new = (expected ≡ Refused error.RosterFull) × (new ≡ old)

  -- a clearinghouse that was opened over a file: its next epoch is committed behind the calls that
  -- open its store
  pub record IsOpened (job : JobOf) (limit : ℕ) (disk : D) (new : HouseOn D) : Type 0 where
    pub way : Openable job (device disk)
    pub house : new ≡ record { job = job; state = Open (opened limit (begun_of way)); store = new.store }
    pub stored : new.store ≡ record { disk = new.store.disk; «record» = record_of job (begun_of way); sequence = way.counts + 1; ended = false }
    pub calls : (calls : List DeviceCall) × Begins job (device disk) way calls × Passed (way.opens ++ calls) (planned disk) (device disk) (device new.store.disk)
    pub plan : (i : ℕ) → planned new.store.disk i ≡ planned disk (i + (6 + length way.opens))
    pub kept : KeepsRecord (device disk).file way.sequence way.found → KeepsNew (device new.store.disk).file new.store.sequence new.store.record

  -- the store of a job, opened by these calls behind a disk, and the epoch that follows the last
  -- one
  pub record IsFoundFor (job : JobOf) (disk : D) (store : Opened D) (epoch : ℕ) : Type 0 where
    pub sequence : ℕ
    pub going : store.ended ≡ false
    pub reads : ReadsAsStore (bytes_of (device disk).file) sequence store.record
    pub own : store.record.job ≡ job.number
    pub next : epoch ≡ store.record.epoch + 1
    -- an epoch is left, and a commit unless the store's sequence is spent
    pub begins : (store.sequence ≡ 2 ^ 64 - 1 → ⊥) → can_begin (kept_in sequence store.record) ≡ true
    pub spent : store.sequence ≡ 2 ^ 64 - 1 → can_begin (kept_in sequence store.record) ≡ false × IsRead disk store.disk
    pub opens : List DeviceCall
    pub opening : IsOpening (bytes_of (device disk).file) sequence store.record store.sequence opens
    pub calls : Passed opens (planned disk) (device disk) (device store.disk)
    pub plan : (i : ℕ) → planned store.disk i ≡ planned disk (i + length opens)
    pub kept : (n : ℕ) (r : Stored) → KeepsRecord (device disk).file n r → KeepsNew (device store.disk).file store.sequence store.record × (store.record ≡ r)

  -- an epoch or a commit can't be counted any more
  pub record IsLast (job : JobOf) (disk : D) : Type 0 where
    pub sequence : ℕ
    pub found : Stored
    pub reads : ReadsAsStore (bytes_of (device disk).file) sequence found
    pub own : found.job ≡ job.number
    pub last : can_begin (kept_in sequence found) ≡ false

  -- the read passed, and a call by which the store is opened failed, or one of the commit
  pub record IsHaltedAtOnce (job : JobOf) (disk left : D) : Type 0 where
    pub way : Openable job (device disk)
    pub calls : HasStopped way.opens (planned disk) (device disk) (device left) ⊎ ((calls : List DeviceCall) × Begins job (device disk) way calls × HasStopped (way.opens ++ calls) (planned disk) (device disk) (device left))

  -- why a clearinghouse isn't opened over a file, and what was done to it
  abbrev pub IsRefusedOver : HouseError → JobOf → (disk left : D) → Type 0
  IsRefusedOver (error.Bytes fault) job disk left = ⊥
  IsRefusedOver error.Spent job disk left = IsLast job disk × IsRead disk left
  IsRefusedOver error.JobMismatch job disk left = IsRefused store_error.JobMismatch (bytes_of (device disk).file) job.number × IsRead disk left
  IsRefusedOver error.Damaged job disk left = IsRefused store_error.Damaged (bytes_of (device disk).file) job.number × IsRead disk left
  IsRefusedOver error.Device job disk left = HasStopped opening (planned disk) (device disk) (device left) ⊎ IsHaltedAtOnce job disk left
  IsRefusedOver error.Version job disk left = IsRefused store_error.Version (bytes_of (device disk).file) job.number × IsRead disk left
  IsRefusedOver error.RosterFull job disk left = ⊥
  IsRefusedOver error.Memory job disk left = ⊥

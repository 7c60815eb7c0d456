-- The calls by which a store is made and opened, and by which a record is committed.
use Rattle.std.specs.Prelude.{◌≡◌, ◌≢◌, ◌+◌, ◌-◌, ◌^◌, ℕ, Bool, not, List, [], ◌∷◌, ◌++◌, Option, if◌then◌else◌}
use Rattle.ids.specs.declared.outcome.Outcome.{Outcome}
use Rattle.checkpoint.specs.Calls.{DeviceCall, Read, Write, Cut, Sync}
use Rattle.checkpoint.specs.Format.{IsBody, IsBoth, IsMovedBody, IsNew, IsOld}
use Rattle.checkpoint.specs.Pair.{is_open, place, slot}
use Rattle.checkpoint.specs.declared.record.CheckpointRecord.{CheckpointRecord}
use Rattle.saved_values.specs.declared.value.SavedValue.{SavedValue}

-- the file is cut to nothing, and written in one write
abbrev pub formatting : List ℕ → List DeviceCall
formatting file = Cut 0 ∷ Write 0 file ∷ Sync ∷ []

-- a file is read: one byte more than a store has
abbrev pub opening : List DeviceCall
opening = Read 4361 ∷ []

-- bytes are written, and on the disk before the next call
abbrev pub putting : ℕ → List ℕ → List DeviceCall
putting at bytes = Write at bytes ∷ Sync ∷ []

-- the bytes that close a gate: none, where it reads as closed
abbrev pub closing : Bool → List ℕ
closing gate = if gate then 0 ∷ [] else []

-- a slot gets a body: its gate is closed, the body is written, the gate is opened
abbrev pub publishing : ℕ → Bool → List ℕ → List DeviceCall
publishing at gate bytes = Write at (closing gate) ∷ Sync ∷ Write (at + 1) bytes ∷ Sync ∷ Write at (165 ∷ []) ∷ Sync ∷ []

-- a store becomes one of the newer form: both large slots are written, and on the disk; then the
-- small slot that isn't current says that the record has moved
abbrev pub migrating : List ℕ → Bool → Bool → List ℕ → List DeviceCall
migrating both second gate bytes = Write 136 both ∷ Sync ∷ publishing (place 8 63 (not second)) gate bytes

-- by these calls, in a file that reads as a store of the older form
pub record IsMigration (file : List ℕ) (second : Bool) (sequence : ℕ) (r : CheckpointRecord) (calls : List DeviceCall) : Type 0 where
  pub current : IsOld file second sequence r
  pub left : sequence ≢ 2 ^ 64 - 1
  pub both : List ℕ
  pub large : IsBoth both r
  pub bytes : List ℕ
  pub small : IsMovedBody bytes (sequence + 1) r.job r.epoch
  pub same : calls ≡ migrating both second (is_open (slot 8 63 (not second) file)) bytes

-- by these calls a store is opened that a file reads as: it is read, and becomes one of the newer
-- form if it isn't. Its sequence counts from 0 then
pub data IsOpening (file : List ℕ) (sequence : ℕ) (r : CheckpointRecord) (opened : ℕ) (calls : List DeviceCall) : Type 0 where
  is_new : (second : Bool) → IsNew file second sequence r → opened ≡ sequence → calls ≡ opening → IsOpening file sequence r opened calls
  is_old : (second : Bool) (moves : List DeviceCall) → IsMigration file second sequence r moves → opened ≡ 0 → calls ≡ opening ++ moves → IsOpening file sequence r opened calls

-- by these calls a record of the next sequence goes into the large slot that isn't current, in a
-- file that reads so
pub record IsCommit (file : List ℕ) (sequence : ℕ) (before next : CheckpointRecord) (calls : List DeviceCall) : Type 0 where
  pub second : Bool
  pub current : IsNew file second sequence before
  pub bytes : List ℕ
  pub body : IsBody bytes (sequence + 1) next
  pub same : calls ≡ publishing (place 136 2111 (not second)) (is_open (slot 136 2111 (not second) file)) bytes

-- a record with other saved values
abbrev pub with_saved : CheckpointRecord → List SavedValue → CheckpointRecord
with_saved r saved = record r { saved = saved }

-- the next record of a job; the values that are saved stay
abbrev pub next_of : CheckpointRecord → ℕ → Option Outcome → CheckpointRecord
next_of r epoch outcome = record r { epoch = epoch; outcome = outcome }

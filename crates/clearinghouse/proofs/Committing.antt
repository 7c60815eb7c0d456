-- A commit of an outcome.
use Rattle.std.proofs.Common.{◌≡◌, ◌⊎◌, inl, inr, ◌+◌, ◌<◌, ◌^◌, ℕ, true, false, List, Option, Result, ap, sym, ◌∙◌, arith}
use Rattle.std.specs.Prelude.{IsErrOf}
use Rattle.disk.specs.Device.{Device}
use Rattle.disk.specs.File.{bytes_of}
use Rattle.checkpoint.specs.Calls.{DeviceCall, Stopped as HasStopped}
use Rattle.checkpoint.specs.Commit.{IsCommit, next_of}
use Rattle.checkpoint.specs.Moments.{KeepsEither}
use Rattle.checkpoint.specs.Store.{IsSpent, KeepsNew, Opened}
use Rattle.checkpoint.specs.declared.record.CheckpointRecord.{CheckpointRecord as Stored}
use Rattle.checkpoint.specs.declared.record.StoreError.{StoreError}
use Rattle.checkpoint.specs.declared.record.StoreError.TheVariants as store_error
use Rattle.ids.specs.declared.outcome.Outcome.{Outcome}
use Rattle.clearinghouse.specs.Meeting.{Halted}

-- a store that goes on, with the epoch and the sequence of a clearinghouse
abbrev pub Goes : {D : Type 0} → Opened D → (epoch sequence : ℕ) → Type 0
Goes old epoch sequence = old ≡ record old {
  «record» = record old.«record» { epoch = epoch };
  sequence = sequence;
  ended = false;
}

-- what is committed in the epoch that a store has
pub same_epoch : {D : Type 0} (old : Opened D) (at epoch sequence : ℕ) (outcome : Option Outcome) → at ≡ epoch
    → Goes old epoch sequence → next_of old.«record» at outcome ≡ record old.«record» { outcome = outcome }
same_epoch {D} old at epoch sequence outcome is stored =
    let same : old.«record».epoch ≡ epoch = ap (λ (s : Opened D). s.«record».epoch) stored in
    ap (λ e. next_of old.«record» e outcome) (is ∙ sym same)

module _ {D : Type 0} (device : D → Device) (planned : D → ℕ
    → Option (List ℕ)) (old new : Opened D) (next : Stored) (r : Result (Unit {0}) StoreError)
    (epoch sequence : ℕ) where
  -- a commit that is refused where another can be counted was stopped by the device
  pub halted : Goes old epoch sequence → sequence + 1 < 2 ^ 64 →
      IsErrOf r store_error.Spent ⊎ IsErrOf r store_error.Device →
      (IsErrOf r store_error.Spent → IsSpent old) →
      (IsErrOf r store_error.Device → new ≡ record old { disk = new.disk; ended = true }) →
      (IsErrOf r store_error.Device → old.ended ≡ false
      → (calls : List DeviceCall) × IsCommit (bytes_of (device old.disk).file) old.sequence old.«record» next calls
      × HasStopped calls (planned old.disk) (device old.disk) (device new.disk)) →
      (KeepsNew (device old.disk).file old.sequence old.«record»
      → KeepsEither (device new.disk).file old.sequence old.«record» next) →
      Halted device planned next old new
  halted stored counted (inl is) spent ends stopped either =
      let same : old.sequence ≡ sequence = ap (λ (s : Opened D). s.sequence) stored in
      let last = (spent is).1 in
      absurd (omega arith)
  halted stored counted (inr is) spent ends stopped either =
      record { store = ends is; calls = stopped is (ap (λ (s : Opened D). s.ended) stored); either = either }

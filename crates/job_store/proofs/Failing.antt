-- What failed where the device refuses.
use Rattle.std.proofs.Common.{◌≡◌, ℕ, suc, List, [], ◌∷◌, Option, Result, Ok, Err, IfOk, IfErr, ◌⊎◌, inl, inr, refl, ap, ◌∙◌}
use Rattle.disk.specs.Device.{Device, passed}
use Rattle.disk.specs.File.{bytes_of}
use Rattle.checkpoint.specs.Calls.{DeviceCall, Stopped, after, changed}
use Rattle.checkpoint.specs.Commit.{IsOpening, opening}
use Rattle.checkpoint.specs.Store.{Opened}
use Rattle.checkpoint.specs.declared.record.CheckpointRecord.{CheckpointRecord}
use Rattle.checkpoint.specs.declared.record.StoreError.{StoreError}
use Rattle.checkpoint.specs.declared.record.StoreError.TheVariants.{Device as DeviceError}
use Rattle.checkpoint.proofs.Reopened.{IsOpenedBy, IsStopping}
use Rattle.job_store.specs.Failed.{HasFailed}

-- calls that pass count no failure
pub after_failures : (calls : List DeviceCall) (d : Device) → (after d calls).failures ≡ d.failures
unfolding after
after_failures [] d = refl
after_failures (call ∷ calls) d = after_failures calls (passed d (changed d.file call))

-- one of several calls failed
pub stopped_failed : (calls : List DeviceCall) (plan : ℕ → Option (List ℕ)) (old new : Device)
    → Stopped calls plan old new → HasFailed old new
unfolding Stopped
stopped_failed [] plan old new never = absurd never
stopped_failed (call ∷ calls) plan old new stopped = elim stopped [
  | inl fails ↦ fails.failed.counted
  | inr later ↦ stopped_failed calls (λ i. plan (suc i)) (passed old (changed old.file call)) new later.1
]

-- the read of an opening, or another call of it
stopping_failed : (old new : Device) (plan : ℕ → Option (List ℕ))
    → Stopped opening plan old new ⊎ ((n m : ℕ) × (r : CheckpointRecord) × (calls : List DeviceCall)
    × IsOpening (bytes_of old.file) n r m calls × Stopped calls plan old new) → HasFailed old new
stopping_failed old new plan (inl stop) = stopped_failed opening plan old new stop
stopping_failed old new plan (inr stop) = stopped_failed stop.3 plan old new stop.5

-- it is the same seen from before a call that passed
pub failed_behind : (old mid new : Device) → mid.failures ≡ old.failures → HasFailed mid new → HasFailed old new
failed_behind old mid new same failed = rw same at failed

-- a store that was made isn't opened
pub failed_made : {D : Type 0} (device : D → Device) (old mid : Device) (plan : ℕ
    → Option (List ℕ)) (r : Result (Opened D) (StoreError × D)) → mid.failures ≡ old.failures →
    IfErr r (λ e. e.0 ≡ DeviceError) → IfErr r (IsStopping device mid plan) → IfErr r (λ e. HasFailed old (device e.1))
failed_made device old mid plan (Ok s) same refused stopped = tt
failed_made device old mid plan (Err e) same refused stopped =
    failed_behind old mid (device e.1) same (stopping_failed mid (device e.1) plan (stopped refused))

-- a store that was there isn't opened
pub failed_found : {D : Type 0} (device : D → Device) (old mid : Device) (plan : ℕ
    → Option (List ℕ)) (r : Result (Opened D) (StoreError × D)) → mid.failures ≡ old.failures →
    IfErr r (IsStopping device mid plan) → IfErr r (λ e. e.0 ≡ DeviceError → HasFailed old (device e.1))
failed_found device old mid plan (Ok s) same stopped = tt
failed_found device old mid plan (Err e) same stopped =
    λ is. failed_behind old mid (device e.1) same (stopping_failed mid (device e.1) plan (stopped is))

-- no call failed of a store that is opened
pub passed_opened : {D : Type 0} (device : D → Device) (planned : D → ℕ → Option (List ℕ)) (old mid : Device) (plan : ℕ
    → Option (List ℕ)) (r : Result (Opened D) (StoreError × D)) → mid.failures ≡ old.failures →
    IfOk r (IsOpenedBy device mid plan planned) → IfOk r (λ s. (device s.disk).failures ≡ old.failures)
passed_opened device planned old mid plan (Ok s) same by =
    ap (λ (x : Device). x.failures) by.3.made ∙ (after_failures by.1 mid ∙ same)
passed_opened device planned old mid plan (Err e) same by = tt

-- Values that are saved were to be saved.
use Rattle.std.proofs.Common.{◌≡◌, ◌+◌, ℕ, false, List, [], Option, refl, sym, ap, subst}
use Rattle.checkpoint.specs.Commit.{with_saved}
use Rattle.checkpoint.specs.Store.{Opened}
use Rattle.checkpoint.specs.declared.record.CheckpointRecord.{CheckpointRecord as Stored}
use Rattle.disk.specs.Device.{Device}
use Rattle.saved_values.specs.declared.value.SavedValue.{SavedValue}
use Rattle.serial_meaning.specs.Job.{JobOf}
use Rattle.clearinghouse.specs.House.{HouseOf, Open, kept_of}
use Rattle.clearinghouse.specs.Meeting.{Carries, Committed, HouseOn, IsOpen, IsSaved, record_of}
use Rattle.clearinghouse.specs.Moves.{saves}
use Rattle.clearinghouse.specs.Steps.{HouseAnswer, HouseStepOf, Ignored, Refused, Does}
use Rattle.clearinghouse.specs.declared.parts.HouseStep.{HouseStep}

pub saves_carried : {D : Type 0} (device : D → Device) (planned : D → ℕ
    → Option (List ℕ)) (job : JobOf) (store after : Opened D) (h new : HouseOf) (a : HouseAnswer)
    (saved : List SavedValue) (step : HouseStep)
    → IsSaved a saved h → IsOpen job store h → new ≡ record h { saved = saved; sequence = h.sequence + 1 }
    → Committed device planned (with_saved store.«record» saved) store after
    → step ≡ record { sent = []; ignored = false }
    → Carries device planned a step (record { job = job; state = Open h; store = store })
    (record { job = job; state = Open new; store = after })
saves_carried device planned job store after h new Ignored saved step never stands made committed told = absurd never
saves_carried device planned job store after h new (Refused e) saved step never stands made committed told =
    absurd never
saves_carried {D} device planned job store after h new (Does s) saved step is stands made committed told =
    let next : with_saved store.«record» saved ≡ record_of job (kept_of (saves saved h).after) =
    ap (λ (x : Opened D). with_saved x.«record» saved) stands.stored in
    rw is (
      told,
      ap (λ (x : HouseOf). let on : HouseOn D =
          record { job = job; state = Open x; store = after } in on) made,
      subst (λ (r : Stored). Committed device planned r store after) next committed,
    )

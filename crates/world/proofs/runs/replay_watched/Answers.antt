use Rattle.std.proofs.Common.{◌≡◌, ℕ, List, Result, Ok, Err}
use Rattle.std.specs.Result.{IfOk}
use Rattle.serial_meaning.specs.Job.{JobOf, IsJob}
use Rattle.event_script.specs.Scripts.{script}
use Rattle.event_script.specs.declared.event.Event.{Event}
use Rattle.world.specs.declared.runs.ReplayError.{ReplayError}
use Rattle.world.specs.declared.runs.RunEnd.{RunEnd}
use Rattle.world.specs.Runs.{IsReplay, IsRunTo, StopsReading}
use Rattle.world.proofs.Promised.{promised, reading_safe}
use Rattle.world.proofs.runs.replay_watched.Goals as goal

safe : (job : JobOf) (text : List ℕ) (r : Result RunEnd ReplayError) → IsJob job
    → IfOk r (λ x. (events : List Event) × (script text ≡ Ok events)
    × IsRunTo (StopsReading job) job events x.done x.stopped x.world)
    → IfOk r (λ x. (events : List Event) × (script text ≡ Ok events) × IsReplay job events x.done x.stopped x.world)
safe job text (Ok x) ok run = (
  run.0,
  run.1,
  promised job (StopsReading job) (reading_safe job) run.0 x.done x.stopped x.world ok run.2,
)
safe job text (Err e) ok run = tt

pub returns-clause-run : goal.returns-clause-run
returns-clause-run g c = safe c.args.job.now c.args.text.now c.script_carried_out.result c.checked-checked.ensures.job
    c.script_carried_out.ensures.run

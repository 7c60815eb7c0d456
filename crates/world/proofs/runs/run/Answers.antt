use Rattle.std.proofs.Common.{List, Result, Ok, Err}
use Rattle.std.specs.Result.{IfOk}
use Rattle.serial_meaning.specs.Job.{JobOf, IsJob}
use Rattle.event_script.specs.declared.event.Event.{Event}
use Rattle.world_steps.specs.declared.parts.NoMemory.{NoMemory}
use Rattle.world.specs.declared.runs.RunEnd.{RunEnd}
use Rattle.world.specs.Runs.{IsRun, IsRunTo, StopsIn}
use Rattle.world.proofs.Promised.{promised, stop_safe}
use Rattle.world.proofs.runs.run.Goals as goal

safe : (job : JobOf) (events : List Event) (r : Result RunEnd NoMemory) → IsJob job
    → IfOk r (λ x. IsRunTo (StopsIn job) job events x.done x.stopped x.world)
    → IfOk r (λ x. IsRun job events x.done x.stopped x.world)
safe job events (Ok x) ok run = promised job (StopsIn job) (stop_safe job) events x.done x.stopped x.world ok run
safe job events (Err e) ok run = tt

pub returns-clause-run : goal.returns-clause-run
returns-clause-run c = safe c.args.job.now c.args.events.now c.carried_out.result c.checked-checked.ensures.job
    c.carried_out.ensures.run

-- What a run without outcome says of a text.
use Rattle.std.proofs.Common.{ℕ, ℤ, List, Err}
use Rattle.jobs.specs.Jobs.{IsJobOf}
use Rattle.one_node.specs.declared.fault.RunFault.{RunFault}
use Rattle.one_node.specs.declared.fault.RunFault.TheVariants as run
use Rattle.one_node.specs.Outcomes.{IsRunOf}
use Rattle.serial_meaning.specs.Job.{JobOf}
use Rattle.cilknow.specs.Faults.{of_run}
use Rattle.cilknow.specs.Outcome.{IsRefusalOf}

pub run_refused : (text : List ℕ) (input : List ℤ) (number turns : ℕ) (job : JobOf) (e : RunFault)
    → IsJobOf text input number job → IsRunOf job turns (Err e) → IsRefusalOf text input number turns (of_run e)
run_refused text input number turns job run.TurnsSpent is refused = record { job = job; is = is; short = refused }
run_refused text input number turns job run.NumbersSpent is refused = record { job = job; is = is; counted = refused }
run_refused text input number turns job run.Memory is refused = tt

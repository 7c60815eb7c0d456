-- Why a run of a text gives no outcome, by what it came from, and the number of that.
use Rattle.std.specs.Prelude.{ℕ}
use Rattle.ids.specs.declared.error_numbers.TheConstants.{RUN_TURNS_SPENT, SPENT, MEMORY}
use Rattle.jobs.specs.Faults as jobs
use Rattle.jobs.specs.declared.fault.JobFault.{JobFault}
use Rattle.jobs.specs.declared.fault.JobFault.TheVariants as job
use Rattle.one_node.specs.declared.fault.RunFault.{RunFault}
use Rattle.one_node.specs.declared.fault.RunFault.TheVariants as run
use Rattle.cilknow.specs.declared.fault.SoloFault.{SoloFault}
use Rattle.cilknow.specs.declared.fault.SoloFault.TheVariants as solo

-- a text and an input that are no job
abbrev pub of_job : JobFault → SoloFault
of_job (job.Parse e) = solo.Job (job.Parse e)
of_job (job.Kind e) = solo.Job (job.Kind e)
of_job (job.Input e) = solo.Job (job.Input e)
of_job job.Memory = solo.Memory

-- a run without outcome
abbrev pub of_run : RunFault → SoloFault
of_run run.TurnsSpent = solo.TurnsSpent
of_run run.NumbersSpent = solo.NumbersSpent
of_run run.Memory = solo.Memory

-- the number of a fault
abbrev pub number_of_fault : SoloFault → ℕ
number_of_fault (solo.Job e) = jobs.number_of_fault e
number_of_fault solo.TurnsSpent = RUN_TURNS_SPENT
number_of_fault solo.NumbersSpent = SPENT
number_of_fault solo.Memory = MEMORY

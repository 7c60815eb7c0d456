-- Why files aren't replayed, by what it came from.
use Rattle.event_words.specs.declared.fault.NarratorFault.{NarratorFault}
use Rattle.event_words.specs.declared.fault.NarratorFault.TheVariants as narrator
use Rattle.jobs.specs.declared.fault.FileFault.{FileFault}
use Rattle.jobs.specs.declared.fault.FileFault.TheVariants as file
use Rattle.jobs.specs.declared.fault.JobFault.{JobFault}
use Rattle.jobs.specs.declared.fault.JobFault.TheVariants as job
use Rattle.world.specs.declared.runs.ReplayError.{ReplayError}
use Rattle.world.specs.declared.runs.ReplayError.TheVariants as replay
use Rattle.replaying.specs.declared.fault.ReplayFault.{ReplayFault}
use Rattle.replaying.specs.declared.fault.ReplayFault.TheVariants as faults

-- a file that isn't read
abbrev pub of_file : FileFault → ReplayFault
of_file file.Unreadable = faults.File
of_file file.Memory = faults.Memory

-- a text and an input that are no job
abbrev pub of_job : JobFault → ReplayFault
of_job (job.Parse e) = faults.Job (job.Parse e)
of_job (job.Kind e) = faults.Job (job.Kind e)
of_job (job.Input e) = faults.Job (job.Input e)
of_job job.Memory = faults.Memory

-- a script that isn't replayed
abbrev pub of_replay : ReplayError → ReplayFault
of_replay (replay.Line l) = faults.Line l
of_replay replay.Memory = faults.Memory

-- a run that isn't told to its end
abbrev pub of_narrator : NarratorFault → ReplayFault
of_narrator narrator.Unwritten = faults.File
of_narrator narrator.Memory = faults.Memory

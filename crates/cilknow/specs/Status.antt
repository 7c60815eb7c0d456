-- The statuses that the program ends with.
use Rattle.std.specs.Prelude.{ℕ}
use Rattle.jobs.specs.Faults as jobs
use Rattle.jobs.specs.declared.fault.FileFault.{FileFault}
use Rattle.jobs.specs.declared.fault.FileFault.TheVariants as file
use Rattle.jobs.specs.declared.fault.JobFault.{JobFault}
use Rattle.replaying.specs.Status as replays
use Rattle.replaying.specs.declared.words.WordsFault.{WordsFault}
use Rattle.replaying.specs.declared.words.WordsFault.TheVariants as words
use Rattle.cilknow.specs.declared.command.CommandFault.{CommandFault}
use Rattle.cilknow.specs.declared.command.CommandFault.TheVariants as command
use Rattle.cilknow.specs.Faults as run
use Rattle.cilknow.specs.Form.{status_of_form}
use Rattle.cilknow.specs.declared.fault.SoloFault.{SoloFault}
use Rattle.cilknow.specs.declared.fault.SoloFault.TheVariants as solo

-- a text and an input that are no job have their own status, and no outcome is 3
abbrev pub status_of_run : SoloFault → ℕ
status_of_run (solo.Job e) = jobs.status_of e
status_of_run solo.TurnsSpent = 3
status_of_run solo.NumbersSpent = 3
status_of_run solo.Memory = 3

-- words that ask for nothing that is there are 2, a file that can't be read or written is 4, what
-- isn't replayed has its own status, and traces that aren't merged are 1
abbrev pub status_of : CommandFault → ℕ
status_of command.Usage = 2
status_of command.File = 4
status_of (command.Run fault) = status_of_run fault
status_of command.TurnsSpent = 3
status_of (command.Nodes error) = 3
status_of (command.Form fault) = status_of_form fault
status_of (command.Replay fault) = replays.status_of fault
status_of (command.Merge fault) = 1

-- a file that isn't read
abbrev pub of_file : FileFault → CommandFault
of_file file.Unreadable = command.File
of_file file.Memory = command.Run solo.Memory

-- words that ask for no answer
abbrev pub of_words : WordsFault → CommandFault
of_words words.Usage = command.Usage
of_words words.Memory = command.Run solo.Memory

-- a text and an input that are no job
abbrev pub of_job : JobFault → CommandFault
of_job e = command.Run (run.of_job e)

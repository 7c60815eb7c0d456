-- The statuses that a program ends with where files aren't replayed.
use Rattle.std.specs.Prelude.{ℕ}
use Rattle.jobs.specs.Faults as jobs
use Rattle.replaying.specs.declared.fault.ReplayFault.{ReplayFault}
use Rattle.replaying.specs.declared.fault.ReplayFault.TheVariants as faults

-- a text and an input that are no job have their own status, a script that is refused is 1, being
-- out of memory is 3, and a file that can't be read or written is 4
abbrev pub status_of : ReplayFault → ℕ
status_of (faults.Job e) = jobs.status_of e
status_of (faults.Line l) = 1
status_of (faults.Packet number) = 1
status_of faults.Memory = 3
status_of faults.File = 4

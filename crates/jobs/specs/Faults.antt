-- Why a text and an input are no job, by what it came from, with its number and the status that a
-- program ends with.
use Rattle.std.specs.Prelude.{ℕ}
use Rattle.ids.specs.declared.error_numbers.TheConstants.{MEMORY}
use Rattle.task_syntax.specs.Errors as texts
use Rattle.task_syntax.specs.declared.error.ParseError.{ParseError}
use Rattle.task_syntax.specs.declared.error.ParseError.TheVariants as parse
use Rattle.kind_check.specs.declared.checked.KindError.{KindError}
use Rattle.kind_check.specs.declared.checked.KindError.TheVariants as check
use Rattle.kind_check.specs.Refused as kinds
use Rattle.serial_meaning.specs.Errors.{number_of_job_error}
use Rattle.jobs.specs.declared.fault.JobFault.{JobFault}
use Rattle.jobs.specs.declared.fault.JobFault.TheVariants as faults

-- a text that isn't read
abbrev pub of_text : ParseError → JobFault
of_text (parse.Unexpected at) = faults.Parse (parse.Unexpected at)
of_text (parse.TooLong at) = faults.Parse (parse.TooLong at)
of_text (parse.TooDeepNest at) = faults.Parse (parse.TooDeepNest at)
of_text (parse.NumberRange at) = faults.Parse (parse.NumberRange at)
of_text (parse.NotAscii at) = faults.Parse (parse.NotAscii at)
of_text parse.Memory = faults.Memory

-- a program that isn't accepted
abbrev pub of_kinds : KindError → JobFault
of_kinds (check.Fault kind at) = faults.Kind (check.Fault kind at)
of_kinds check.Memory = faults.Memory

-- the number of a fault
abbrev pub number_of_fault : JobFault → ℕ
number_of_fault (faults.Parse e) = texts.number_of_error e
number_of_fault (faults.Kind e) = kinds.number_of_error e
number_of_fault (faults.Input e) = number_of_job_error e
number_of_fault faults.Memory = MEMORY

-- a text or an input that is refused is 1, and running out of memory is 3
abbrev pub status_of : JobFault → ℕ
status_of (faults.Parse e) = 1
status_of (faults.Kind e) = 1
status_of (faults.Input e) = 1
status_of faults.Memory = 3

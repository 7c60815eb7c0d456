-- The job of a text and an input, and its refusals.
use Rattle.std.specs.Prelude.{◌≡◌, ◌≢◌, ℕ, ℤ, List, []}
use Rattle.task_tree.specs.declared.tree.Program.{Program}
use Rattle.task_syntax.specs.Grammar.{ReadsAsProgram}
use Rattle.task_syntax.specs.Meeting.{MeetsText}
use Rattle.task_syntax.specs.declared.error.ParseError.TheVariants as parse
use Rattle.kind_check.specs.declared.checked.KindError.TheVariants as check
use Rattle.kind_check.specs.Faults.{Fault, IsLeast, faults}
use Rattle.serial_meaning.specs.Job.{JobOf, TakesInput}
use Rattle.jobs.specs.declared.fault.JobFault.{JobFault}
use Rattle.jobs.specs.declared.fault.JobFault.TheVariants as fault

-- the text reads as this program, which has no kind fault
pub record IsProgramOf (text : List ℕ) (program : Program) : Type 0 where
  pub reads : ReadsAsProgram text program
  pub accepted : faults program ≡ []

-- a job of the text on the input, with this number: the text reads as an accepted program that
-- takes the input
pub record IsJobOf (text : List ℕ) (input : List ℤ) (number : ℕ) (job : JobOf) : Type 0 where
  pub program : IsProgramOf text job.program
  pub given : job.input ≡ input
  pub numbered : job.number ≡ number
  pub taken : TakesInput job.program job.input

-- the text reads as a program whose least fault is this one
pub record IsFaulty (text : List ℕ) (least : Fault) : Type 0 where
  pub program : Program
  pub reads : ReadsAsProgram text program
  pub is_least : IsLeast (faults program) least

-- the text reads as an accepted program that doesn't take the input
pub record IsUntaken (text : List ℕ) (input : List ℤ) : Type 0 where
  pub program : Program
  pub is : IsProgramOf text program
  pub untaken : TakesInput program input → ⊥

-- what a refusal of a program says of its text; running out of memory says nothing, and is no
-- refusal of the text or of its kinds
abbrev pub IsProgramRefusal : List ℕ → JobFault → Type 0
IsProgramRefusal text (fault.Parse e) = (e ≢ parse.Memory) × MeetsText text e
IsProgramRefusal text (fault.Kind (check.Fault kind at)) = IsFaulty text (at, kind)
IsProgramRefusal text (fault.Kind check.Memory) = ⊥
IsProgramRefusal text (fault.Input e) = ⊥
IsProgramRefusal text fault.Memory = Unit {0}

-- what a refusal of a job says of its text and its input
abbrev pub IsRefusal : List ℕ → List ℤ → JobFault → Type 0
IsRefusal text input (fault.Parse e) = IsProgramRefusal text (fault.Parse e)
IsRefusal text input (fault.Kind e) = IsProgramRefusal text (fault.Kind e)
IsRefusal text input (fault.Input e) = IsUntaken text input
IsRefusal text input fault.Memory = Unit {0}

-- The outcome of a text on an input, and its refusals.
use Rattle.std.specs.Prelude.{◌≡◌, ℕ, ℤ, List}
use Rattle.task_tree.specs.declared.tree.Program.{Program}
use Rattle.ids.specs.declared.outcome.Outcome.{Outcome}
use Rattle.serial_meaning.specs.Job.{JobOf, TakesInput}
use Rattle.serial_meaning.specs.Places.{meaning}
use Rattle.jobs.specs.Jobs.{IsJobOf, IsProgramOf, IsRefusal}
use Rattle.one_node.specs.Outcomes.{IsShort, IsCounted}
use Rattle.cilknow.specs.declared.fault.SoloFault.{SoloFault}
use Rattle.cilknow.specs.declared.fault.SoloFault.TheVariants as solo

-- the text reads as an accepted program that takes the input, and the outcome is its meaning on it
pub record IsOutcomeOf (text : List ℕ) (input : List ℤ) (o : Outcome) : Type 0 where
  pub program : Program
  pub is : IsProgramOf text program
  pub taken : TakesInput program input
  pub outcome : o ≡ meaning program input

-- the run of the text on the input needs more turns than these
pub record IsRunShort (text : List ℕ) (input : List ℤ) (number turns : ℕ) : Type 0 where
  pub job : JobOf
  pub is : IsJobOf text input number job
  pub short : IsShort job turns

-- a turn of it within these needs a frame number above 2^32 - 1
pub record IsRunCounted (text : List ℕ) (input : List ℤ) (number turns : ℕ) : Type 0 where
  pub job : JobOf
  pub is : IsJobOf text input number job
  pub counted : IsCounted job turns

-- what a refusal of a text on an input says, of the job's number and of the turns that were given;
-- being out of memory says nothing
abbrev pub IsRefusalOf : List ℕ → List ℤ → ℕ → ℕ → SoloFault → Type 0
IsRefusalOf text input number turns (solo.Job e) = IsRefusal text input e
IsRefusalOf text input number turns solo.TurnsSpent = IsRunShort text input number turns
IsRefusalOf text input number turns solo.NumbersSpent = IsRunCounted text input number turns
IsRefusalOf text input number turns solo.Memory = Unit {0}

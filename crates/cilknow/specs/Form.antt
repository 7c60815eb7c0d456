-- The one form of a text, and its refusals.
use Rattle.std.specs.Prelude.{◌≡◌, ◌≢◌, ◌<◌, ℕ, List, length}
use Rattle.task_tree.specs.declared.tree.Program.{Program}
use Rattle.task_tree.specs.Shapes.{SameProgram}
use Rattle.task_syntax.specs.Grammar.{ReadsAsProgram}
use Rattle.task_syntax.specs.Meeting.{MeetsText}
use Rattle.task_syntax.specs.Printed.{printed}
use Rattle.task_syntax.specs.declared.error.ParseError.TheVariants as parse
use Rattle.task_syntax.specs.declared.error.PrintError.TheVariants as print
use Rattle.cilknow.specs.declared.form.FormFault.{FormFault}
use Rattle.cilknow.specs.declared.form.FormFault.TheVariants as fault

-- the form is what is printed of the program that the text reads as, and is read as the same
-- program, but for offsets
pub record IsFormOf (text form : List ℕ) : Type 0 where
  pub program : Program
  pub reads : ReadsAsProgram text program
  pub is : form ≡ printed program
  pub again : Program
  pub back : ReadsAsProgram form again
  pub same : SameProgram program again

-- the text reads as a program whose form has more bytes than a text may have
pub record IsLong (text : List ℕ) : Type 0 where
  pub program : Program
  pub reads : ReadsAsProgram text program
  pub long : 65536 < length (printed program)

-- what a refusal says of the text; being out of memory says nothing
abbrev pub IsFormRefusal : List ℕ → FormFault → Type 0
IsFormRefusal text (fault.Text e) = e ≢ parse.Memory → MeetsText text e
IsFormRefusal text (fault.Long print.TooLong) = IsLong text
IsFormRefusal text (fault.Long print.Memory) = Unit {0}

-- a text that is refused is 1, and being out of memory 3
abbrev pub status_of_form : FormFault → ℕ
status_of_form (fault.Text parse.Memory) = 3
status_of_form (fault.Text _) = 1
status_of_form (fault.Long print.Memory) = 3
status_of_form (fault.Long print.TooLong) = 1

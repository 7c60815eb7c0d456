-- The first task of a program is the one that the meaning has at the root.
use Rattle.std.proofs.Common.{◌≡◌, ℤ, List, [], Some, refl}
use Rattle.task_tree.specs.declared.tree.Program.{Program}
use Rattle.serial_meaning.specs.Places.{Call, root}
use Rattle.table_laws.specs.Content.{given}
use Rattle.table_laws.specs.Meaning.{FitsMeaning}
use Rattle.table_laws.specs.Program.{program_meaning}
use Rattle.table_laws.proofs.ProgramMeaning.{numbers_fit}

-- its numbers fit their own slots
pub first_fits : (p : Program) (input : List ℤ) (call : Call) → root p input ≡ Some call
    → FitsMeaning (program_meaning p input) [] call.thread (λ j. given call.numbers j)
first_fits p input call is = record { thread = rw is refl; slots = λ j. rw is (numbers_fit call.numbers j) }

-- What comes back from body workers.
use Rattle.std.specs.Prelude.{◌≡◌, Option, IfSome}
use Rattle.std.specs.declared.snapshot.Snapshot.{Snapshot}
use Rattle.task_tree.specs.declared.tree.Program.{Program}
use Rattle.serial_meaning.specs.Whole.{AreWholesOf}
use Rattle.runner_parts.specs.declared.turn.Evaluated.{Evaluated}
use Rattle.runner_parts.specs.declared.turn.Found.{Found}
use Rattle.runner_parts.specs.declared.turn.Found.TheVariants.{Turn, Whole}

-- what was found is of a program, and so is what was evaluated, and all values that were kept
abbrev pub IsFoundOf : Program → Found → Type 0
IsFoundOf p (Turn d) = d.program ≡ p
IsFoundOf p (Whole w) = w.program ≡ p

abbrev pub IsEvaluatedOf : Program → Evaluated → Type 0
IsEvaluatedOf p e = IsFoundOf p e.found × AreWholesOf p e.left.kept.items

-- a program, and what was evaluated of it, if something was
pub record FinishedOf : Type 0 where
  pub program : Program
  pub evaluated : Option Evaluated

abbrev pub IsFinished : FinishedOf → Type 0
IsFinished f = IfSome f.evaluated (IsEvaluatedOf f.program)

-- what is of one program has one stamp
abbrev pub stamp : Program → Snapshot Program
stamp program = record { marker = record {}; value = program }

abbrev pub stamp_of : FinishedOf → Snapshot Program
stamp_of f = stamp f.program

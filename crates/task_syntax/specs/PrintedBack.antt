-- What is printed of a program that some text is.
use Rattle.std.specs.Prelude.{ℕ, List}
use Rattle.task_tree.specs.declared.tree.Program.{Program}
use Rattle.task_syntax.specs.Grammar.{ReadsAsProgram}
use Rattle.task_tree.specs.Shapes.{SameProgram}

-- where some text is the program, this text is the same program but for offsets
abbrev pub ReadsBack : Program → List ℕ → Type 0
ReadsBack p printed = (text : List ℕ) → ReadsAsProgram text p → (q : Program) × ReadsAsProgram printed q × SameProgram p q

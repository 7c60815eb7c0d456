-- A turn that was evaluated.
use Rattle.std.specs.Prelude.{◌≡◌, ℕ, ℤ, List, Some}
use Rattle.task_tree.specs.declared.tree.Program.{Program}
use Rattle.kind_check.specs.declared.turn.Turn.{Turn}
use Rattle.kind_check.specs.Turns.{turn_of}
use Rattle.kind_check.specs.Total.{IsAccepted, TurnFits}

-- a program, a thread of it, the numbers that it ran on, and the end that it reached
pub record DoneOf : Type 0 where
  pub program : Program
  pub thread : ℕ
  pub numbers : List ℤ
  pub turn : Turn

-- the program is accepted, the end is that of the thread on these numbers, and its threads are
-- there and get as many numbers as they take
pub record IsEvaluated (d : DoneOf) : Type 0 where
  pub accepted : IsAccepted d.program
  pub reached : turn_of d.program d.thread d.numbers ≡ Some d.turn
  pub fits : TurnFits d.program d.turn

-- Where the body of a thread ends.
use Rattle.std.specs.Prelude.{◌≡◌, ℕ, ℤ, List, Some}
use Rattle.task_tree.specs.declared.tree.Program.{Program}
use Rattle.kind_check.specs.declared.turn.Turn.{Turn}
use Rattle.kind_check.specs.declared.code.Leaf.{Leaf}
use Rattle.kind_check.specs.Turns.{turn_of}
use Rattle.kind_check.specs.Total.{TurnFits}
use Rattle.kind_check.specs.Code.{leaf_turn}

-- thread t reaches an end on these numbers, and the leaf comes to that end in this environment
pub record Reached (p : Program) (t : ℕ) (numbers env : List ℤ) (leaf : Leaf) : Type 0 where
  pub turn : Turn
  pub reached : turn_of p t numbers ≡ Some turn
  pub fits : TurnFits p turn
  pub same : leaf_turn env leaf ≡ Some turn

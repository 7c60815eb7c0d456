-- How evaluated turns come back to a node.
use Rattle.std.specs.Prelude.{◌≡◌, Some}
use Rattle.std.specs.Arc.{arc_value}
use Rattle.std.specs.declared.snapshot.Snapshot.{Snapshot}
use Rattle.task_tree.specs.declared.tree.Program.{Program}
use Rattle.local_pool.specs.Turns.{PassOf, QueueOf}
use Rattle.runner_parts.specs.Turns.{FinishedOf, stamp}
use Rattle.runner_parts.specs.declared.desk.Home.{Home}
use Rattle.runner_parts.specs.declared.line.Line.{Line}

-- the pass is of this queue, all turns of which are of the program
abbrev pub IsPassFor : Program → QueueOf → PassOf FinishedOf (Snapshot Program) → Type 0
IsPassFor program queue pass = (pass.queue ≡ queue.queue) × (pass.stamp ≡ Some (stamp program))

abbrev pub IsLineOf : Program → Line → Type 0
IsLineOf program line = IsPassFor program (arc_value line.queue) line.pass

-- what a node has of turns and values is of the program
abbrev pub IsHomeOf : Program → Home → Type 0
IsHomeOf program home = IsLineOf program home.line × (home.kept ≡ program)

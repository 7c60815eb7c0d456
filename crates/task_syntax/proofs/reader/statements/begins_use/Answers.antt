-- One of two words stands first, or neither.
use Rattle.task_syntax.specs.Meeting.{send_stands}
use Rattle.task_syntax.proofs.Meeting.{use_stands_or}
use Rattle.task_syntax.proofs.reader.statements.begins_use.Goals as goal

pub returns-then-begins : goal.returns-then-begins
returns-then-begins c = rw c.if-begins.true (send_stands c.if-begins.ensures)

pub returns-else-begins : goal.returns-else-begins
returns-else-begins c = use_stands_or _ _ c.if-begins.ensures c.begins-else-begins.ensures

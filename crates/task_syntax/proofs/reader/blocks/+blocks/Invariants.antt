use Rattle.std.proofs.Common.{◌+◌, ◌*◌}
use Rattle.task_syntax.proofs.reader.blocks.+blocks.Given as goal

abbrev pub decreases-block : goal.decreases-block
decreases-block l = 3 * l.deep

abbrev pub decreases-branches : goal.decreases-branches
decreases-branches l = 3 * l.inside + 1

abbrev pub decreases-ending : goal.decreases-ending
decreases-ending l = 3 * l.inside + 2

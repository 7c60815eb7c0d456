-- The rules by which a value that has a program in it is told from others.
use Rattle.std.specs.Coded.{Coded, codes}
use Rattle.task_tree.specs.contracts.tree.Expr as expr
use Rattle.task_tree.specs.contracts.tree.Block as block
use Rattle.task_tree.specs.contracts.tree.End as end
use Rattle.task_tree.specs.declared.tree.Expr.{Expr}
use Rattle.task_tree.specs.declared.tree.Block.{Block}
use Rattle.task_tree.specs.declared.tree.End.{End}

abbrev pub expr_code : Coded Expr
expr_code = expr.the_row.coded

abbrev pub block_code : Coded Block
block_code = block.the_row.coded

abbrev pub end_code : Coded End
end_code = end.the_row.coded

pub ruleset program_codes = (codes, expr_code, block_code, end_code)

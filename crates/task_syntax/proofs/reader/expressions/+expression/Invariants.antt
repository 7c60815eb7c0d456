use Rattle.std.proofs.Common.{◌≤◌, length, ◌+◌, ◌*◌}
use Rattle.task_syntax.specs.Grammar.{ReadsExpr}
use Rattle.task_syntax.specs.Refusals.{Stops}
use Rattle.task_syntax.proofs.reader.expressions.+expression.Given as goal

abbrev pub decreases-expression : goal.decreases-expression
decreases-expression l = 2 * length l.tokens.now + 1

abbrev pub decreases-operand : goal.decreases-operand
decreases-operand l = 2 * length l.tokens.now

-- what was read so far is an operand of the operators up to `tightest`, and no tighter one goes on
abbrev pub invariant-expression-loop-op : goal.invariant-expression-loop-op
invariant-expression-loop-op l = record {
  read : ReadsExpr l.parens l.tightest l.tokens l.rest l.left.tree;
  stops : Stops (l.tightest + 1) l.rest;
  loose : l.loosest ≤ l.tightest;
  shorter : length l.rest + 1 ≤ length l.tokens;
}

abbrev pub decreases-expression-loop-op : goal.decreases-expression-loop-op
decreases-expression-loop-op l = length l.rest

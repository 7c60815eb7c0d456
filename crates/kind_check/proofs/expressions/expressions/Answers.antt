use Rattle.std.proofs.Common.{◌∙◌, arith}
use Rattle.kind_check.proofs.Steps.{exprs_step}
use Rattle.kind_check.proofs.expressions.expressions.Goals as goal

pub loop-expr-preserved : goal.loop-expr-preserved
loop-expr-preserved c = exprs_step _ c.as_slice-expr-items.result.now _ c.expr-item.result _ _
    (omega arith) c.expr-item.is c.expression.ensures ∙ c.loop-expr.invariant

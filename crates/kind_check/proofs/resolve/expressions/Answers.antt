use Rattle.std.proofs.Common.{arith}
use Rattle.kind_check.specs.Resolves.{ResolvesExprs}
use Rattle.kind_check.proofs.Lists.{done}
use Rattle.kind_check.proofs.resolve.expressions.Goals as goal

pub returns : goal.returns
returns c = done (ResolvesExprs c.args.names.now)
    (ResolvesExprs c.args.names.now c.args.exprs.now) c.as_slice-expr-items.result.now c.loop-expr.expr-index
    c.loop-expr.codes (omega arith) tt c.loop-expr.invariant

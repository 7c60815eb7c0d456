use Rattle.std.proofs.Common.{◌≡◌, drop}
use Rattle.kind_check.specs.Faults.{exprs_faults}
use Rattle.kind_check.specs.Least.{least_with}
use Rattle.kind_check.proofs.expressions.expressions.Given as goal

-- what is left gives what all give
abbrev pub invariant-loop-expr : goal.invariant-loop-expr
invariant-loop-expr l = least_with l.least (exprs_faults l.scope (drop l.expr-index l.expr-items))
    ≡ least_with l.initial.least (exprs_faults l.scope l.exprs)

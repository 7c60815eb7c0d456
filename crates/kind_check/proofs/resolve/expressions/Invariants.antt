use Rattle.std.proofs.Common.{◌++◌, List, drop}
use Rattle.kind_check.specs.declared.code.Code.{Code}
use Rattle.kind_check.specs.Resolves.{ResolvesExprs}
use Rattle.kind_check.proofs.resolve.expressions.Given as goal

-- what resolves the rest makes these codes resolve all
abbrev pub invariant-loop-expr : goal.invariant-loop-expr
invariant-loop-expr l = (rest : List Code) → ResolvesExprs l.names (drop l.expr-index l.expr-items) rest
    → ResolvesExprs l.names l.exprs (l.codes ++ rest)

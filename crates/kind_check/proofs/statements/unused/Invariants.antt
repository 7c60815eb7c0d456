use Rattle.std.proofs.Common.{◌≡◌, drop}
use Rattle.kind_check.specs.Faults.{unused_faults}
use Rattle.kind_check.specs.Least.{least_with}
use Rattle.kind_check.proofs.statements.unused.Given as goal

-- what is left gives what all give
abbrev pub invariant-loop-argument : goal.invariant-loop-argument
invariant-loop-argument l = least_with l.least
    (unused_faults l.close l.uses.all.now (drop l.argument-index l.argument-items))
    ≡ least_with l.initial.least (unused_faults l.close l.uses.all.now l.arguments)

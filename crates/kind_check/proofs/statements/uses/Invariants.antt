use Rattle.std.proofs.Common.{◌≡◌, take, drop, []}
use Rattle.kind_check.specs.Faults.{uses_faults}
use Rattle.kind_check.specs.Least.{least_with}
use Rattle.kind_check.proofs.statements.uses.Given as goal

-- what is left gives what all give
abbrev pub invariant-loop-i : goal.invariant-loop-i
invariant-loop-i l = least_with l.least
    (uses_faults l.threads.all.now l.scope (take l.i l.uses.all.now) (drop l.i l.uses.all.now))
    ≡ least_with l.initial.least (uses_faults l.threads.all.now l.scope [] l.uses.all.now)

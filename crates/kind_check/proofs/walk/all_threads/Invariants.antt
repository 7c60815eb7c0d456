use Rattle.std.proofs.Common.{◌≡◌, take, drop, []}
use Rattle.kind_check.specs.Faults.{threads_faults}
use Rattle.kind_check.specs.Least.{least_with}
use Rattle.kind_check.proofs.walk.all_threads.Given as goal

-- what is left gives what all give
abbrev pub invariant-loop-i : goal.invariant-loop-i
invariant-loop-i l = least_with l.least
    (threads_faults l.threads.all.now (take l.i l.threads.all.now) (drop l.i l.threads.all.now))
    ≡ least_with l.initial.least (threads_faults l.threads.all.now [] l.threads.all.now)

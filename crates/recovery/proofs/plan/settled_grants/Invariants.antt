use Rattle.std.proofs.Common.{◌≡◌, ◌++◌, map}
use Rattle.recovery.specs.Plans.{grant_of}
use Rattle.recovery.proofs.plan.settled_grants.Given as goal

abbrev pub invariant-loop-next : goal.invariant-loop-next
invariant-loop-next l = l.grants ++ map grant_of l.next-iterator ≡ map grant_of l.settled

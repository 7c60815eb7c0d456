use Rattle.std.proofs.Common.{◌≡◌, Some}
use Rattle.local_pool.proofs.tests.put_all.Given as goal

abbrev pub invariant-loop : goal.invariant-loop
invariant-loop g l = (l.pass.queue ≡ l.queue.queue) × (l.pass.stamp ≡ Some 5)

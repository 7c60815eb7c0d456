use Rattle.std.proofs.Common.{◌≡◌}
use Rattle.local_pool.proofs.tests.steal_one.Given as goal

abbrev pub invariant-loop : goal.invariant-loop
invariant-loop l = l.worker.pool ≡ l.fn.worker.pool

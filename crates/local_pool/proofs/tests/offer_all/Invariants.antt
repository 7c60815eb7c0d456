use Rattle.std.proofs.Common.{◌≡◌}
use Rattle.local_pool.proofs.tests.offer_all.Given as goal

abbrev pub invariant-loop-ticket : goal.invariant-loop-ticket
invariant-loop-ticket l = (l.owner.pool ≡ l.fn.owner.pool) × (l.owner.workers ≡ l.fn.owner.workers)

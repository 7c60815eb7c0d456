use Rattle.std.proofs.Common.{◌≡◌, vec_len}
use Rattle.local_pool.proofs.tests.as_many_workers_as_there_may_be.Given as goal

abbrev pub invariant-loop-ticket : goal.invariant-loop-ticket
invariant-loop-ticket g l = (l.owner.pool ≡ l.pool) × (l.owner.workers ≡ vec_len l.workers)

use Rattle.std.proofs.Common.{◌≡◌, ◌-◌, length, sum_by, take}
use Rattle.local_pool.proofs.pool.tickets_left.Given as goal

abbrev pub invariant-loop-worker : goal.invariant-loop-worker
invariant-loop-worker g l = l.left ≡ length l.owner.offered - length l.owner.taken - sum_by (λ w. length w.taken)
    (take l.worker-index l.workers)

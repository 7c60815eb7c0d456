use Rattle.std.proofs.Common.{◌≡◌, ◌+◌, ℕ, All, flat_map, sum_by, vec_len}
use Rattle.crossbeam_deque.specs.Handles.{worker_deque, worker_view, SameWorker}
use Rattle.local_pool.proofs.pool.gather_all.Given as goal

abbrev pub invariant-loop-worker : goal.invariant-loop-worker
invariant-loop-worker g l = record {
  same : SameWorker l.fn.deque l.deque;
  parts : (worker_view l.deque).parts + vec_len l.workers ≡ (worker_view l.fn.deque).parts + vec_len l.fn.workers;
  owners : (worker_view l.deque).owners ≡ (worker_view l.fn.deque).owners;
  offered : (worker_view l.deque).offered ≡ (worker_view l.fn.deque).offered;
  own : All (λ w. w.pool ≡ worker_deque l.fn.deque) l.workers.items;
  taken : (weight : g.row.T.Denot → ℕ)
      → sum_by weight (worker_view l.deque).taken + sum_by weight (flat_map (λ w. w.taken) l.workers.items)
      ≡ sum_by weight (worker_view l.fn.deque).taken + sum_by weight (flat_map (λ w. w.taken) l.fn.workers.items);
}

abbrev pub decreases-loop-worker : goal.decreases-loop-worker
decreases-loop-worker g l = vec_len l.workers

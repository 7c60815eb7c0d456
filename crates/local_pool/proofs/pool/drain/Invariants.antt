use Rattle.std.proofs.Common.{◌≡◌, ◌+◌, ◌-◌, ◌≤◌, ◌++◌, length, vec_len, vec_capacity}
use Rattle.crossbeam_deque.specs.Handles.{worker_flavor, worker_view}
use Rattle.local_pool.proofs.pool.drain.Given as goal

abbrev pub invariant-loop-ticket : goal.invariant-loop-ticket
invariant-loop-ticket g l = record {
  first_in : worker_flavor l.deque ≡ 0;
  owners : (worker_view l.deque).owners ≡ 1;
  parts : (worker_view l.deque).parts ≡ 1025;
  offered : (worker_view l.deque).offered ≡ (worker_view l.fn.deque).offered;
  taken : (worker_view l.deque).taken ≡ (worker_view l.fn.deque).taken ++ l.left.items;
  room : length (worker_view l.deque).offered - length (worker_view l.deque).taken + vec_len l.left
      ≤ vec_capacity l.left;
}

abbrev pub decreases-loop-ticket : goal.decreases-loop-ticket
decreases-loop-ticket g l = length (worker_view l.deque).offered - length (worker_view l.deque).taken

use Rattle.std.proofs.Common.{◌≡◌, ◌+◌, ◌≤◌, [], All, vec_len}
use Rattle.crossbeam_deque.specs.Handles.{stealer_deque, worker_deque, worker_flavor, worker_view, worker_index, worker_capacity}
use Rattle.local_pool.specs.Pools.{IsBlankWorkerOf}
use Rattle.local_pool.proofs.pool.LocalPool.new.Given as goal

abbrev pub invariant-loop : goal.invariant-loop
invariant-loop g l = record {
  pool : worker_deque l.deque ≡ stealer_deque l.thief;
  first_in : worker_flavor l.deque ≡ 0;
  room : l.room ≤ worker_capacity l.deque;
  index : worker_index l.deque ≡ 0;
  owners : (worker_view l.deque).owners ≡ 1;
  parts : (worker_view l.deque).parts + l.counter ≡ 1025;
  offered : (worker_view l.deque).offered ≡ [];
  taken : (worker_view l.deque).taken ≡ [];
  dealt : vec_len l.dealt ≡ l.counter;
  blank : All (IsBlankWorkerOf (stealer_deque l.thief)) l.dealt.items;
}

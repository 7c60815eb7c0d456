use Rattle.std.proofs.Common.{◌-◌, ◌≡◌, ◌+◌, ◌≤◌, ◌⊎◌}
use Rattle.crossbeam_deque.specs.Handles.{view, taken, IsPassOf, stealer_deque}
use Rattle.local_pool.specs.Hands.{FoundEmpty}
use Rattle.local_pool.proofs.worker.steal_from.Given as goal

abbrev pub invariant-loop-lost : goal.invariant-loop-lost
invariant-loop-lost g l = record {
  pool : IsPassOf (stealer_deque l.thief) l.token;
  same : view l.token ≡ view l.fn.token;
  empty : FoundEmpty (view l.fn.token) ⊎ (taken l.fn.token + l.lost ≤ taken l.token);
}

abbrev pub decreases-loop-lost : goal.decreases-loop-lost
decreases-loop-lost g l = 18446744073709551615 - l.lost

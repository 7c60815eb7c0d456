use Rattle.std.proofs.Common.{◌≡◌, ◌+◌, [], ◌∷◌, All, Some, vec_len}
use Rattle.crossbeam_queue.specs.Passes.{view, IsPassOf}
use Rattle.local_pool.proofs.turns.TurnQueue.new.Given as goal

abbrev pub invariant-loop : goal.invariant-loop
invariant-loop g l = record {
  own : IsPassOf l.line l.seat;
  parts : (view l.seat).parts + l.counter ≡ 1025;
  put : (view l.seat).put ≡ (0, l.fn.first) ∷ [];
  taken : (view l.seat).taken ≡ [];
  stamp : (view l.seat).stamp ≡ Some (g.D.Stamped.stamp l.fn.first);
  dealt : vec_len l.dealt ≡ l.counter;
  blank : All (λ p. (p.queue ≡ l.line.table.shared.table_id) × (p.put ≡ []) × (p.taken ≡ [])
      × (p.stamp ≡ Some (g.D.Stamped.stamp l.fn.first))) l.dealt.items;
}

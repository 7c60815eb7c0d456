use Rattle.std.proofs.Common.{◌≡◌, ℕ, ◌+◌, [], All, map, vec_len, None, Some}
use Rattle.std.specs.List.{range_with_len}
use Rattle.turn_lock.specs.Claims.{empty_claims}
use Rattle.turn_lock.proofs.lock.TurnLock.new.Given as goal

abbrev pub invariant-loop : goal.invariant-loop
invariant-loop g l = record {
  table : l.all.table_id ≡ l.table.shared.table_id;
  next : (left : ℕ) × (left + l.counter ≡ l.actors) × (l.all.me.0.claims ≡ empty_claims l.counter left);
  free : (l.all.me.0.taken ≡ None) × (l.all.me.1 ≡ []);
  told : (l.all.me.0.actors ≡ l.actors) × (l.all.me.0.fixed ≡ Some l.terms.fixed);
  dealt : vec_len l.dealt ≡ l.counter;
  order : map (λ s. s.actor) l.dealt.items ≡ range_with_len 0 l.counter;
  seats : All (λ s. (s.table ≡ l.table.shared.table_id) × (s.actors ≡ l.actors) × (s.fixed ≡ Some l.terms.fixed)
      × (s.taken ≡ None) × (s.entries ≡ [])) l.dealt.items;
}

use Rattle.std.proofs.Common.{◌≡◌, ◌+◌, [], All, vec_len}
use Rattle.start_words.proofs.table.WordTable.new.Given as goal

abbrev pub invariant-loop : goal.invariant-loop
invariant-loop l = record {
  here : l.all.table_id ≡ l.table.shared.table_id;
  parts : l.all.me.0.parts + l.counter ≡ l.end;
  blank : l.all.me.0.drawn ≡ [];
  dealt : vec_len l.dealt ≡ l.counter;
  pens : All (λ p. (p.table ≡ l.table.shared.table_id) × (p.drawn ≡ [])) l.dealt.items;
}

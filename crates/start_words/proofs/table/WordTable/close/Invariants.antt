use Rattle.std.proofs.Common.{◌≡◌, ℕ, ◌+◌, All, vec_len}
use Rattle.start_words.specs.Numbers.{times_drawn}
use Rattle.start_words.specs.Words.{drawn_by}
use Rattle.start_words.proofs.table.WordTable.close.Given as goal

abbrev pub invariant-loop-pen : goal.invariant-loop-pen
invariant-loop-pen l = record {
  here : l.all.table_id ≡ l.table.shared.table_id;
  parts : l.all.me.0.parts + vec_len l.pens ≡ l.table.shared.key;
  own : All (λ p. p.table ≡ l.table.shared.table_id) l.pens.items;
  drawn : (x : ℕ) → times_drawn x l.all.me.0.drawn + times_drawn x (drawn_by l.pens.items)
      ≡ times_drawn x (drawn_by l.fn.pens.items);
}

abbrev pub decreases-loop-pen : goal.decreases-loop-pen
decreases-loop-pen l = vec_len l.pens

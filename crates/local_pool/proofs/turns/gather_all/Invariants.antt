use Rattle.std.proofs.Common.{◌≡◌, ◌+◌, ◌<◌, ℕ, All, sum_by, vec_len}
use Rattle.crossbeam_queue.specs.Passes.{view, IsPassOf}
use Rattle.local_pool.specs.Turns.{put_by, taken_by}
use Rattle.local_pool.proofs.turns.gather_all.Given as goal

abbrev pub invariant-loop-pass : goal.invariant-loop-pass
invariant-loop-pass g l = record {
  here : IsPassOf l.line l.keeper;
  parts : (view l.keeper).parts + vec_len l.passes ≡ (view l.fn.keeper).parts + vec_len l.fn.passes;
  some_part : 0 < (view l.keeper).parts;
  own : All (λ p. p.queue ≡ l.line.table.shared.table_id) l.passes.items;
  put : (weight : ℕ × g.row.D.Denot → ℕ)
      → sum_by weight (view l.keeper).put + sum_by weight (put_by l.passes.items)
      ≡ sum_by weight (view l.fn.keeper).put + sum_by weight (put_by l.fn.passes.items);
  taken : (weight : ℕ × g.row.D.Denot → ℕ)
      → sum_by weight (view l.keeper).taken + sum_by weight (taken_by l.passes.items)
      ≡ sum_by weight (view l.fn.keeper).taken + sum_by weight (taken_by l.fn.passes.items);
}

abbrev pub decreases-loop-pass : goal.decreases-loop-pass
decreases-loop-pass g l = vec_len l.passes

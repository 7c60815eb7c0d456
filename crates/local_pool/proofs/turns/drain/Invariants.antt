use Rattle.std.proofs.Common.{◌≡◌, ◌+◌, ◌-◌, ◌≤◌, ◌++◌, List, length, vec_len, vec_capacity}
use Rattle.crossbeam_queue.specs.Passes.{view, IsPassOf}
use Rattle.local_pool.specs.Items.{SameItems, numbered}
use Rattle.local_pool.proofs.turns.drain.Given as goal

abbrev pub invariant-loop-turn : goal.invariant-loop-turn
invariant-loop-turn g l = record {
  own : IsPassOf l.line l.keeper;
  parts : (view l.keeper).parts ≡ 1025;
  put : (view l.keeper).put ≡ (view l.fn.keeper).put;
  order : (gone : List g.row.D.Denot) × SameItems (view l.fn.keeper).taken (numbered gone)
      × SameItems (view l.keeper).taken (numbered (gone ++ l.left.items));
  room : vec_len l.left + (length (view l.keeper).put - length (view l.keeper).taken) ≤ vec_capacity l.left;
}

abbrev pub decreases-loop-turn : goal.decreases-loop-turn
decreases-loop-turn g l = length (view l.keeper).put - length (view l.keeper).taken

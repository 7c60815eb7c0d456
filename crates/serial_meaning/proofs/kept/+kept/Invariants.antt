use Rattle.std.proofs.Common.{◌≡◌, ◌≤◌, ◌+◌, ◌*◌, ◌-◌, length, drop, take, vec_len}
use Rattle.kind_check.specs.Total.{IsTotal}
use Rattle.serial_meaning.specs.Going.{Going}
use Rattle.serial_meaning.proofs.kept.+kept.Given as goal

abbrev pub decreases-kept_value : goal.decreases-kept_value
decreases-kept_value l = 2 * l.depth

abbrev pub decreases-kid_value : goal.decreases-kid_value
decreases-kid_value l = 2 * l.depth + 1

abbrev pub decreases-kept_value-loop-stop : goal.decreases-kept_value-loop-stop
decreases-kept_value-loop-stop l = l.depth * (length l.code + 1) + (length l.code - l.pc)

-- the task is under way on the stack; what stands below stays
abbrev pub invariant-kept_value-loop-stop : goal.invariant-kept_value-loop-stop
invariant-kept_value-loop-stop l = record {
  above : l.fn.base ≤ l.floor;
  inside : l.floor ≤ vec_len l.stack;
  kept : take l.fn.base l.stack.items ≡ take l.fn.base l.fn.stack.items;
  deeper : l.depth ≤ l.fn.depth;
  total : IsTotal l.checked;
  keeper : l.keeper ≡ l.checked;
  going : Going l.checked l.fn.depth l.fn.thread
      (drop l.fn.base l.fn.stack.items) l.fn.turns l.turns l.depth l.code l.pc (drop l.floor l.stack.items);
}

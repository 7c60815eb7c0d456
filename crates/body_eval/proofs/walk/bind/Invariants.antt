use Rattle.std.proofs.Common.{◌≡◌, ◌≤◌, drop, take, vec_len}
use Rattle.kind_check.specs.Code.{code_lets}
use Rattle.body_eval.proofs.walk.bind.Given as goal

-- the rest of the lets leads to where all of them do; what stands below stays
abbrev pub invariant-loop-each : goal.invariant-loop-each
invariant-loop-each l = record {
  inside : l.base ≤ vec_len l.stack;
  kept : take l.base l.stack.items ≡ take l.base l.fn.stack.items;
  lets : code_lets (drop l.base l.stack.items) (drop l.each-index l.each-items)
      ≡ code_lets (drop l.base l.fn.stack.items) l.lets;
}

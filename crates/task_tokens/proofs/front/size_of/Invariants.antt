use Rattle.std.proofs.Common.{◌≡◌, ◌+◌, drop}
use Rattle.std.specs.List.{prefix_len}
use Rattle.task_tokens.specs.Tokens.{is_of}
use Rattle.task_tokens.proofs.front.size_of.Given as goal

abbrev pub invariant-loop-i : goal.invariant-loop-i
invariant-loop-i l = l.i + prefix_len (is_of l.run) (drop l.i l.text) ≡ prefix_len (is_of l.run) l.text

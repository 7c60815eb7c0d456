use Rattle.std.proofs.Common.{◌≡◌, ◌<◌, ◌^◌, drop}
use Rattle.task_tokens.specs.Tokens.{decimal}
use Rattle.task_tokens.proofs.front.numbered.Given as goal

-- the digits so far wrote a number in range
abbrev pub invariant-loop-d : goal.invariant-loop-d
invariant-loop-d l = (decimal l.value (drop l.d-index l.digits) ≡ decimal 0 l.digits) × (l.value < 2 ^ 63)

-- A number that is too large after some digits stays so.
use Rattle.std.proofs.Common.{arith, ◌∙◌}
use Rattle.task_tokens.proofs.Digits.{numbered_large}
use Rattle.task_tokens.proofs.front.numbered.Goals as goal

pub returns-then-value : goal.returns-then-value
returns-then-value c = numbered_large _ _ _ _ c.loop-d.invariant.0 c.loop-d-test.true (c.from.ensures
    ∙ c.saturating_sub.ensures) (omega arith)

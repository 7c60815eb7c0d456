use Rattle.std.proofs.Common.{ap, ◌∙◌, arith}
use Rattle.local_pool.proofs.Puts.{puts, finds}
use Rattle.local_pool.proofs.turns.TurnQueue.put.Goals as goal

pub push_as-requires-clause-rule : goal.push_as-requires-clause-rule
push_as-requires-clause-rule g c = (
  puts _ _ _ _ (omega (arith, c.pass.invariant.part))
      (ap (λ p. p.stamp) c.pass.view_is ∙ c.requires.stamp),
  finds _ _,
)

use Rattle.std.proofs.Common.{arith}
use Rattle.local_pool.proofs.Puts.{takes, finds}
use Rattle.local_pool.proofs.turns.TurnQueue.take.Goals as goal

pub pop_as-requires-clause-rule : goal.pop_as-requires-clause-rule
pop_as-requires-clause-rule g c = (takes _ _ (omega (arith, c.pass.invariant.part)), finds _ _)

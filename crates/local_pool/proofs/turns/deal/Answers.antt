use Rattle.local_pool.proofs.Puts.{deals}
use Rattle.local_pool.proofs.turns.deal.Goals as goal

pub another-seat-requires-clause-rule : goal.another-seat-requires-clause-rule
another-seat-requires-clause-rule g c = deals _ _ c.requires.part

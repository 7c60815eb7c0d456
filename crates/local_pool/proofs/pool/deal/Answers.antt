use Rattle.local_pool.proofs.Moves.{deals}
use Rattle.local_pool.proofs.pool.deal.Goals as goal

pub another-token-requires : goal.another-token-requires
another-token-requires g c = deals _ _ c.requires.part

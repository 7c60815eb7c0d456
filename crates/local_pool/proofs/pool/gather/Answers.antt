use Rattle.local_pool.proofs.Moves.{gathers}
use Rattle.local_pool.proofs.pool.gather.Goals as goal

pub absorb-requires-clause-rule : goal.absorb-requires-clause-rule
absorb-requires-clause-rule g c = gathers _ _ _ _

use Rattle.local_pool.proofs.Puts.{gathers}
use Rattle.local_pool.proofs.turns.gather.Goals as goal

pub absorb-requires-clause-rule : goal.absorb-requires-clause-rule
absorb-requires-clause-rule g c = gathers _ _ _ _ c.requires.part

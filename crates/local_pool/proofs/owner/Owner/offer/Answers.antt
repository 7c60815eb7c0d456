use Rattle.std.proofs.Common.{arith}
use Rattle.local_pool.proofs.Moves.{offers}
use Rattle.local_pool.proofs.owner.Owner.offer.Goals as goal

pub push_as-requires-clause-pushes : goal.push_as-requires-clause-pushes
push_as-requires-clause-pushes g c = offers _ _ _ c.self.invariant.owner (omega arith) (omega arith)

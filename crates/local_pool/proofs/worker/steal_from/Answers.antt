use Rattle.std.proofs.Common.{arith, ap}
use Rattle.local_pool.proofs.Moves.{takes}
use Rattle.local_pool.proofs.worker.steal_from.Goals as goal

pub steal_as-requires-clause-takes : goal.steal_as-requires-clause-takes
steal_as-requires-clause-takes g c =
    takes _ _ (let e = ap (λ v. v.parts) c.loop-lost.invariant.same in let p = c.requires.part in omega arith)

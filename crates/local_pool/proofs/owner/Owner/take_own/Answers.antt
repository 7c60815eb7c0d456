use Rattle.std.proofs.Common.{arith}
use Rattle.local_pool.proofs.Moves.{takes, handed}
use Rattle.local_pool.proofs.owner.Owner.take_own.Goals as goal

pub pop_as-requires-clause-fifo : goal.pop_as-requires-clause-fifo
pop_as-requires-clause-fifo g c = λ _. takes _ _ (omega arith)

pub returns-in_err-ticket-clause-empty : goal.returns-in_err-ticket-clause-empty
returns-in_err-ticket-clause-empty g c =
    rw (c.from_residual.ensures, ← c.self.view_is)
    (handed _ _ c.self.invariant.owner c.self.invariant.parts c.in_err-ticket.ensures.rule.1)

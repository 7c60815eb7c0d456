use Rattle.std.proofs.Common.{arith, ap, sym, refl, ◌∙◌, sum_by}
use Rattle.local_pool.proofs.Moves.{takes, handed}
use Rattle.local_pool.proofs.pool.drain.Goals as goal

pub pop_as-requires-clause-fifo : goal.pop_as-requires-clause-fifo
pop_as-requires-clause-fifo g c = λ _. takes _ _ (omega (arith, c.loop-ticket.invariant.parts))

pub returns : goal.returns
returns g c = λ weight.
    let kept = c.loop-ticket.invariant in
    let all = (handed _ 0 kept.owners (omega (arith, kept.parts)) c.in_default.ensures.rule.1).2 refl weight in
    ap (sum_by weight) (sym kept.offered) ∙ all ∙ ap (sum_by weight) kept.taken

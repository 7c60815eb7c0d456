use Rattle.std.proofs.Common.{arith, ap, ◌++◌, sum_by}
use Rattle.local_pool.specs.Turns.{put_by, taken_by}
use Rattle.local_pool.proofs.turns.TurnQueue.close.Goals as goal

pub returns-clause-ok : goal.returns-clause-ok
returns-clause-ok g c = (
  c.drain.ensures.0,
  λ weight.
      let a = c.drain.ensures.1 weight in
      let b = c.gather_all.ensures.put weight in
      let same = ap (λ k. sum_by weight (k.put ++ put_by c.args.passes.items)) c.keeper.view_is in
      omega arith,
  λ weight.
      let a = c.drain.ensures.2 weight in
      let b = c.gather_all.ensures.taken weight in
      let none = ap (λ l. sum_by weight (l ++ taken_by c.args.passes.items)) c.keeper.invariant.taken in
      omega arith,
)

use Rattle.std.proofs.Common.{arith, rules, ◌∙◌}
use Rattle.crossbeam_deque.specs.Handles.{stealer_deque}
use Rattle.local_pool.specs.Pools.{IsBlankWorkerOf}
use Rattle.std.proofs.lemmas.List.Elements.{All-push}
use Rattle.local_pool.proofs.pool.LocalPool.new.Goals as goal

pub loop-preserved : goal.loop-preserved
loop-preserved g c = record {
  pool = search rules;
  first_in = search rules;
  room = omega (arith, c.deal.ensures.same, c.loop.invariant.room);
  index = search rules;
  owners = search rules;
  parts = omega (arith, c.deal.ensures.part, c.loop.invariant.parts);
  offered = search rules;
  taken = search rules;
  dealt = search rules;
  blank = rw c.in_ok-push.ensures.items
      (All-push (IsBlankWorkerOf (stealer_deque c.in_ok-thief.thief)) c.loop.dealt.items c.deal.result
      c.loop.invariant.blank (c.deal.ensures.worker.0 ∙ c.loop.invariant.pool, c.deal.ensures.worker.1));
}

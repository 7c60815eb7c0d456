use Rattle.std.proofs.Common.{arith, All, Some, subst, sym}
use Rattle.std.specs.Prelude.{IfSome}
use Rattle.std.proofs.lemmas.List.Elements.{All-pop, All-push}
use Rattle.serial_meaning.specs.Job.{JobOf}
use Rattle.chronicle.specs.Seats.{IsSeatIn}
use Rattle.node_runner.specs.Runs.{IsContextIn, IsNodeIn}
use Rattle.node_runner.proofs.crew.contexts.Goals as goal

pub loop-seat-preserved : goal.loop-seat-preserved
loop-seat-preserved g c =
    let at = c.loop-seat.invariant in record {
      seats = λ k own. (All-pop (IsSeatIn k) _ _ (Some c.in-Some.seat) c.in-Some.ensures.items (at.seats k own)).0;
      pens = λ w own. c.in_ok-node.ensures.pens w (at.pens w own);
      contexts = λ k w same own pens.
          let node = subst (λ (j : JobOf). IfSome c.in_ok-node.node (IsNodeIn j w)) (sym same)
          (c.in_ok-node.ensures.node w (at.pens w pens)) in
          subst (All (IsContextIn k w)) (sym c.in_ok-push.ensures.items)
          (All-push (IsContextIn k w) _ _ (at.contexts k w same own pens)
          ((All-pop (IsSeatIn k) _ _ (Some c.in-Some.seat) c.in-Some.ensures.items (at.seats k own)).1, node));
      workers = c.in_ok-node.ensures.workers at.workers;
      count = omega (arith, at.count, c.in_ok-push.ensures.len, c.in-Some.ensures.len);
    }

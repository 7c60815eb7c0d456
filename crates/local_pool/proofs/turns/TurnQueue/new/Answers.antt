use Rattle.std.proofs.Common.{arith, rules, ◌≡◌, ◌∙◌, [], Some}
use Rattle.std.proofs.lemmas.List.Elements.{All-push}
use Rattle.local_pool.specs.Turns.{PassOf}
use Rattle.local_pool.proofs.Puts.{begins}
use Rattle.local_pool.proofs.turns.TurnQueue.new.Goals as goal

pub ruled-requires-clause-rule : goal.ruled-requires-clause-rule
ruled-requires-clause-rule g c = begins

pub loop-preserved : goal.loop-preserved
loop-preserved g c = record {
  own = search rules;
  parts = omega (arith, c.deal.ensures.part, c.loop.invariant.parts);
  put = search rules;
  taken = search rules;
  stamp = search rules;
  dealt = search rules;
  blank = rw c.in_ok-push.ensures.items
      (All-push (λ (p : PassOf g.row.D.Denot g.row.D-Stamp.Denot). (p.queue ≡ c.in_ok-line.line.table.shared.table_id)
      × (p.put ≡ []) × (p.taken ≡ []) × (p.stamp ≡ Some (g.D.Stamped.stamp c.args.first)))
      c.loop.dealt.items c.deal.result c.loop.invariant.blank (
        c.deal.ensures.pass.0,
        c.deal.ensures.pass.1,
        c.deal.ensures.pass.2,
        c.deal.ensures.pass.3
            ∙ c.loop.invariant.stamp,
      ));
}

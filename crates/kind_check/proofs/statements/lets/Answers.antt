use Rattle.std.proofs.Common.{◌∙◌, arith}
use Rattle.kind_check.proofs.Steps.{names_step, lets_step}
use Rattle.kind_check.proofs.statements.lets.Goals as goal

pub loop-each-preserved : goal.loop-each-preserved
loop-each-preserved c = record {
  scope = names_step _ _ c.as_slice-each-items.result.now _ c.each-item.result
      (omega arith) c.each-item.is c.in_ok-add.ensures ∙ c.loop-each.invariant.scope;
  least = lets_step _ _ c.as_slice-each-items.result.now _ c.each-item.result _ _ _
      (omega arith) c.each-item.is c.in_ok-add.ensures c.new_name.ensures c.expression.ensures
      ∙ c.loop-each.invariant.least;
}

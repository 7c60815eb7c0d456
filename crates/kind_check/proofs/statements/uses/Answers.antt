use Rattle.std.proofs.Common.{◌∙◌, arith}
use Rattle.kind_check.proofs.Steps.{uses_step}
use Rattle.kind_check.proofs.statements.uses.Goals as goal

pub loop-i-preserved : goal.loop-i-preserved
loop-i-preserved c = uses_step _ _ c.args.uses.now.all.now _ c.each-item.result _ _ _
    (omega arith) c.each-item.is c.used_hole.ensures c.given.ensures ∙ c.loop-i.invariant

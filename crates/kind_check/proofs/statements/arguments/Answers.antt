use Rattle.std.proofs.Common.{◌∙◌, arith}
use Rattle.kind_check.proofs.Steps.{value_step, after_value_step, hole_step, after_hole_step}
use Rattle.kind_check.proofs.statements.arguments.Goals as goal
use Rattle.kind_check.proofs.statements.arguments.Goals.{in-Value, in-Hole+in_ok-add-in-Hole}

pub loop-argument-preserved : goal.loop-argument-preserved
loop-argument-preserved c =
    let args = c.as_slice-argument-items.result.now in
    elim c.match-argument.branch [
      | in-Value w ↦
          let at = rw w.in-Value.is at c.argument-item.is in
          record {
            scope = after_value_step _ _ args _ w.in-Value.value (omega arith) at w.scope-is
                ∙ c.loop-argument.invariant.scope;
            least = value_step _ _ args _ w.in-Value.value _ _ (omega arith) at w.scope-is (w.least-is
                ∙ w.expression.ensures) ∙ c.loop-argument.invariant.least;
          }
      | in-Hole+in_ok-add-in-Hole w ↦
          let at = rw w.in-Hole.is at c.argument-item.is in
          let added = w.scope-is ∙ w.in_ok-add-in-Hole.ensures in
          record {
            scope = after_hole_step _ _ args _ w.in-Hole.name (omega arith) at added ∙ c.loop-argument.invariant.scope;
            least = hole_step _ _ args _ w.in-Hole.name _ _ (omega arith) at added (w.least-is ∙ w.new_name.ensures)
                ∙ c.loop-argument.invariant.least;
          }
    ]

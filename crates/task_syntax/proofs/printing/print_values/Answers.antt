use Rattle.task_syntax.specs.Printed.{further_kinds}
use Rattle.task_syntax.proofs.PrintLaws.{prints_none, prints_turn, prints_more}
use Rattle.task_syntax.proofs.printing.print_values.Goals as goal

pub loop-value-init : goal.loop-value-init
loop-value-init c = prints_none

pub loop-value-preserved : goal.loop-value-preserved
loop-value-preserved c = prints_turn further_kinds c.args.values.now c.loop-value.value-index c.value-item.result
    c.loop-value-test.true c.value-item.is c.loop-value.invariant (prints_more c.mark.ensures c.print_expr.ensures)

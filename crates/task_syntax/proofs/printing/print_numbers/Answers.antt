use Rattle.task_syntax.specs.Printed.{parameter_kinds}
use Rattle.task_syntax.proofs.PrintLaws.{prints_none, prints_turn, prints_more}
use Rattle.task_syntax.proofs.printing.print_numbers.Goals as goal

pub loop-number-init : goal.loop-number-init
loop-number-init c = prints_none

pub loop-number-preserved : goal.loop-number-preserved
loop-number-preserved c = prints_turn parameter_kinds c.args.numbers.now c.loop-number.number-index c.number-item.result
    c.loop-number-test.true c.number-item.is c.loop-number.invariant (prints_more c.mark.ensures c.name.ensures)

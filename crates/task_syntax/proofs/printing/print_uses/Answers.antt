use Rattle.task_syntax.specs.Printed.{use_kinds}
use Rattle.task_syntax.proofs.PrintLaws.{prints_none, prints_turn}
use Rattle.task_syntax.proofs.printing.print_uses.Goals as goal

pub loop-used-init : goal.loop-used-init
loop-used-init c = prints_none

pub loop-used-preserved : goal.loop-used-preserved
loop-used-preserved c = prints_turn use_kinds c.args.uses.now c.loop-used.used-index c.used-item.result
    c.loop-used-test.true c.used-item.is c.loop-used.invariant c.print_use.ensures

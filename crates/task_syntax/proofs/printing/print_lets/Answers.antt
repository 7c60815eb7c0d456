use Rattle.task_syntax.specs.Printed.{let_kinds}
use Rattle.task_syntax.proofs.PrintLaws.{prints_none, prints_turn}
use Rattle.task_syntax.proofs.printing.print_lets.Goals as goal

pub loop-bound-init : goal.loop-bound-init
loop-bound-init c = prints_none

pub loop-bound-preserved : goal.loop-bound-preserved
loop-bound-preserved c = prints_turn let_kinds c.args.lets.now c.loop-bound.bound-index c.bound-item.result
    c.loop-bound-test.true c.bound-item.is c.loop-bound.invariant c.print_let.ensures

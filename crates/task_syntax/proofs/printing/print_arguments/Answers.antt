use Rattle.task_syntax.specs.Printed.{argument_kinds}
use Rattle.task_syntax.proofs.PrintLaws.{prints_none, prints_turn}
use Rattle.task_syntax.proofs.printing.print_arguments.Goals as goal

pub loop-argument-init : goal.loop-argument-init
loop-argument-init c = prints_none

pub loop-argument-preserved : goal.loop-argument-preserved
loop-argument-preserved c = prints_turn argument_kinds c.args.arguments.now c.loop-argument.argument-index
    c.argument-item.result c.loop-argument-test.true c.argument-item.is c.loop-argument.invariant
    c.print_argument.ensures

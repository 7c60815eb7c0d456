use Rattle.task_syntax.specs.Printed.{thread_line}
use Rattle.task_syntax.proofs.PrintLaws.{adds_none, adds_turn}
use Rattle.task_syntax.proofs.printing.print_threads.Goals as goal

pub loop-thread-init : goal.loop-thread-init
loop-thread-init c = adds_none c.args.out.now

pub loop-thread-preserved : goal.loop-thread-preserved
loop-thread-preserved c = adds_turn thread_line c.args.threads.now c.loop-thread.thread-index c.thread-item.result
    c.args.out.now c.loop-thread.out c.print_thread.new.out c.loop-thread-test.true c.thread-item.is
    c.loop-thread.invariant c.print_thread.ensures

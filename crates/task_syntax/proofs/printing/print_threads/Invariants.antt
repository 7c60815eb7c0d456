use Rattle.std.proofs.Common.{take}
use Rattle.std.specs.List.{flat_map}
use Rattle.task_syntax.specs.Printed.{thread_line}
use Rattle.task_syntax.specs.PrintSteps.{Adds}
use Rattle.task_syntax.proofs.printing.print_threads.Given as goal

abbrev pub invariant-loop-thread : goal.invariant-loop-thread
invariant-loop-thread l = Adds l.initial.out l.out (flat_map thread_line (take l.thread-index l.threads))

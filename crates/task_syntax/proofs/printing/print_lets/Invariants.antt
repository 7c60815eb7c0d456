use Rattle.std.proofs.Common.{take}
use Rattle.std.specs.List.{flat_map}
use Rattle.task_syntax.specs.Printed.{let_kinds}
use Rattle.task_syntax.specs.PrintSteps.{Prints}
use Rattle.task_syntax.proofs.printing.print_lets.Given as goal

abbrev pub invariant-loop-bound : goal.invariant-loop-bound
invariant-loop-bound l = Prints l.initial.out l.out (flat_map let_kinds (take l.bound-index l.lets))

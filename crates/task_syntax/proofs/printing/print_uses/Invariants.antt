use Rattle.std.proofs.Common.{take}
use Rattle.std.specs.List.{flat_map}
use Rattle.task_syntax.specs.Printed.{use_kinds}
use Rattle.task_syntax.specs.PrintSteps.{Prints}
use Rattle.task_syntax.proofs.printing.print_uses.Given as goal

abbrev pub invariant-loop-used : goal.invariant-loop-used
invariant-loop-used l = Prints l.initial.out l.out (flat_map use_kinds (take l.used-index l.uses))

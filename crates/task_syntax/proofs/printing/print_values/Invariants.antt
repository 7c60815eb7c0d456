use Rattle.std.proofs.Common.{take}
use Rattle.std.specs.List.{flat_map}
use Rattle.task_syntax.specs.Printed.{further_kinds}
use Rattle.task_syntax.specs.PrintSteps.{Prints}
use Rattle.task_syntax.proofs.printing.print_values.Given as goal

abbrev pub invariant-loop-value : goal.invariant-loop-value
invariant-loop-value l = Prints l.initial.out l.out (flat_map further_kinds (take l.value-index l.values))

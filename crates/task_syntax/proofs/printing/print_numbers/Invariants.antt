use Rattle.std.proofs.Common.{take}
use Rattle.std.specs.List.{flat_map}
use Rattle.task_syntax.specs.Printed.{parameter_kinds}
use Rattle.task_syntax.specs.PrintSteps.{Prints}
use Rattle.task_syntax.proofs.printing.print_numbers.Given as goal

abbrev pub invariant-loop-number : goal.invariant-loop-number
invariant-loop-number l = Prints l.initial.out l.out (flat_map parameter_kinds (take l.number-index l.numbers))

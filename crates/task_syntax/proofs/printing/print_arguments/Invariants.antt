use Rattle.std.proofs.Common.{take}
use Rattle.std.specs.List.{flat_map}
use Rattle.task_syntax.specs.Printed.{argument_kinds}
use Rattle.task_syntax.specs.PrintSteps.{Prints}
use Rattle.task_syntax.proofs.printing.print_arguments.Given as goal

abbrev pub invariant-loop-argument : goal.invariant-loop-argument
invariant-loop-argument l = Prints l.initial.out l.out (flat_map argument_kinds (take l.argument-index l.arguments))

use Rattle.std.proofs.Common.{◌≡◌, drop}
use Rattle.kind_check.specs.Faults.{arguments_faults, after_arguments}
use Rattle.kind_check.specs.Least.{least_with}
use Rattle.kind_check.proofs.statements.arguments.Given as goal

-- what is left gives what all give
abbrev pub invariant-loop-argument : goal.invariant-loop-argument
invariant-loop-argument l = record {
  scope : after_arguments l.scope (drop l.argument-index l.argument-items)
      ≡ after_arguments l.initial.scope l.arguments;
  least : least_with l.least (arguments_faults l.scope (drop l.argument-index l.argument-items))
      ≡ least_with l.initial.least (arguments_faults l.initial.scope l.arguments);
}

use Rattle.std.proofs.Common.{◌≡◌, drop}
use Rattle.kind_check.specs.Faults.{parameters_faults, after_parameters}
use Rattle.kind_check.specs.Least.{least_with}
use Rattle.kind_check.proofs.statements.parameters.Given as goal

-- what is left gives what all give
abbrev pub invariant-loop-i : goal.invariant-loop-i
invariant-loop-i l = record {
  scope : after_parameters l.scope (drop l.i l.numbers) ≡ after_parameters l.initial.scope l.numbers;
  least : least_with l.least (parameters_faults l.scope l.i (drop l.i l.numbers))
      ≡ least_with l.initial.least (parameters_faults l.initial.scope 0 l.numbers);
}

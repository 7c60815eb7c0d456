use Rattle.std.proofs.Common.{◌≡◌, drop}
use Rattle.kind_check.specs.Faults.{lets_faults, after_names}
use Rattle.kind_check.specs.Least.{least_with}
use Rattle.kind_check.proofs.statements.lets.Given as goal

-- what is left gives what all give
abbrev pub invariant-loop-each : goal.invariant-loop-each
invariant-loop-each l = record {
  scope : after_names l.scope (drop l.each-index l.each-items) ≡ after_names l.initial.scope l.lets;
  least : least_with l.least (lets_faults l.scope (drop l.each-index l.each-items))
      ≡ least_with l.initial.least (lets_faults l.initial.scope l.lets);
}

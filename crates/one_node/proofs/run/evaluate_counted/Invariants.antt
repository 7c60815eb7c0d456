use Rattle.std.proofs.Common.{◌≡◌, Some}
use Rattle.one_node.specs.Runs.{after, run_of}
use Rattle.one_node.specs.Holding.{Holds}
use Rattle.one_node.proofs.run.evaluate_counted.Given as goal

-- so many turns were taken, and the run goes on
abbrev pub invariant-loop-taken : goal.invariant-loop-taken
invariant-loop-taken g l = record {
  reached : after l.job l.taken ≡ Some (run_of l.run);
  holds : Holds l.job (run_of l.run);
}

use Rattle.std.proofs.Common.{◌≡◌}
use Rattle.node_runner.proofs.worker.run_worker.Given as goal

abbrev pub invariant-loop : goal.invariant-loop
invariant-loop g l =
    (goal.iterator-loop g).can_next l.iterator' × (goal.iterator-loop g).is_finite l.iterator'
    × (l.run ≡ l.shared.chronicle.now)

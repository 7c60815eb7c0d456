use Rattle.std.proofs.Common.{◌≡◌}
use Rattle.node_runner.proofs.worker.WorkerRun.give_back.Given as goal

abbrev pub invariant-loop : goal.invariant-loop
invariant-loop g l =
    (goal.iterator-loop g).can_next l.iterator' × (goal.iterator-loop g).is_finite l.iterator'
    × (l.self ≡ l.fn.self) × (l.finished.program ≡ l.fn.self.job.program)

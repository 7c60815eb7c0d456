use Rattle.std.proofs.Common.{All, vec_len}
use Rattle.std.specs.Arc.{arc_value}
use Rattle.runner_parts.specs.Lines.{IsPassFor}
use Rattle.node_runner.specs.Runs.{IsWorkerOf}
use Rattle.node_runner.proofs.crew.hire.Given as goal

abbrev pub invariant-loop-pass : goal.invariant-loop-pass
invariant-loop-pass l = record {
  passes : All (IsPassFor l.job.program (arc_value l.queue)) l.passes.items;
  workers : All (IsWorkerOf l.job) l.fn.workers.items → All (IsWorkerOf l.job) l.workers.items;
}

abbrev pub decreases-loop-pass : goal.decreases-loop-pass
decreases-loop-pass l = vec_len l.passes

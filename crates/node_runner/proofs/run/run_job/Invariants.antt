use Rattle.std.proofs.Common.{◌≡◌}
use Rattle.node_runner.proofs.run.run_job.Given as goal

abbrev pub invariant-loop : goal.invariant-loop
invariant-loop g l = record {
  job : l.first.job ≡ l.fn.first.job;
  disk : g.D.Disk.device l.first.disk ≡ g.D.Disk.device l.fn.first.disk;
}

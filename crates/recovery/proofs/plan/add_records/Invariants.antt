use Rattle.recovery.proofs.Hosting.{IsAdding}
use Rattle.recovery.proofs.plan.add_records.Given as goal

abbrev pub invariant-loop-record : goal.invariant-loop-record
invariant-loop-record l = IsAdding l.sub l.fn.hosts l.record-iterator l.hosts

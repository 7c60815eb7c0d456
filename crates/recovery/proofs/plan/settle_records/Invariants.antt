use Rattle.recovery.proofs.Recording.{IsRecording}
use Rattle.recovery.proofs.plan.settle_records.Given as goal

abbrev pub invariant-loop-hosted : goal.invariant-loop-hosted
invariant-loop-hosted l = IsRecording l.roster.members.now l.subs l.fn.draft l.hosts l.hosted-iterator l.draft

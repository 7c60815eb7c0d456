use Rattle.recovery.proofs.Hosting.{IsListing}
use Rattle.recovery.proofs.plan.hosts.Given as goal

abbrev pub invariant-loop-sub : goal.invariant-loop-sub
invariant-loop-sub l = IsListing l.roster.members.now l.subs l.sub-iterator l.hosts

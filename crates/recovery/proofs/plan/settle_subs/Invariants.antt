use Rattle.recovery.proofs.Settling.{IsSettling}
use Rattle.recovery.proofs.plan.settle_subs.Given as goal

abbrev pub invariant-loop-sub : goal.invariant-loop-sub
invariant-loop-sub l = IsSettling l.roster.members.now l.subs l.sub-iterator l.draft

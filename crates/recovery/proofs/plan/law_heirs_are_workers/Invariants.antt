use Rattle.std.proofs.Common.{drop}
use Rattle.std.specs.List.{AllByRecursion}
use Rattle.ids.specs.declared.member.Member.{Member}
use Rattle.recovery.proofs.Workers.{HasWorker}
use Rattle.recovery.proofs.plan.law_heirs_are_workers.Given as goal

abbrev pub invariant-loop-member : goal.invariant-loop-member
invariant-loop-member l = AllByRecursion (λ (m : Member). HasWorker m.status) (drop l.member-index l.members)
    → AllByRecursion (λ (m : Member). HasWorker m.status) l.members

use Rattle.std.proofs.Common.{◌≡◌, List, subst, sym}
use Rattle.std.proofs.lemmas.List.{drop_all}
use Rattle.ids.specs.declared.member.Member.{Member}
use Rattle.recovery.proofs.Workers.{AreWorkers, heirs_work}
use Rattle.recovery.proofs.plan.law_heirs_are_workers.Goals as goal

pub returns : goal.returns
returns c = heirs_work c.args.members.now
    (c.loop-member.invariant (subst (λ (ms : List Member). AreWorkers ms)
    (sym (drop_all c.loop-member.member-index c.args.members.now c.loop-member-test.false)) tt))

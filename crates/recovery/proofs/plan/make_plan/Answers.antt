use Rattle.std.proofs.Common.{subst}
use Rattle.recovery.specs.Plans.{IsPlan}
use Rattle.recovery.proofs.Planning.{planned}
use Rattle.recovery.proofs.Workers.{if_ok}
use Rattle.recovery.proofs.plan.make_plan.Goals as goal

pub returns : goal.returns
returns c =
    if_ok c.finished.result
    (λ p is.
    subst (λ ms. IsPlan ms c.args.subs.now p) c.in_ok-roster.ensures
    (planned c.in_ok-roster.roster.members.now c.args.subs.now c.in_ok-draft.draft c.settle_records.new.draft
    c.in_ok-hosts.hosts p c.in_ok-draft.ensures c.in_ok-hosts.ensures.grants c.in_ok-settle_records.ensures is))
    c.finished.ensures

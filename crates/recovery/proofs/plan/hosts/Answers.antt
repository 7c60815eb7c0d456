use Rattle.std.proofs.Common.{subst}
use Rattle.ids.specs.Naming.{name_of_grant}
use Rattle.recovery.proofs.Hosting.{IsListing, hosts_are_all, hosts_host}
use Rattle.recovery.proofs.Orders.{in_order_none}
use Rattle.recovery.proofs.plan.hosts.Goals as goal

pub returns-clause-grants : goal.returns-clause-grants
returns-clause-grants c =
    hosts_are_all c.args.roster.now.members.now c.args.subs.now c.loop-sub.hosts c.law_stand_in_order.ensures
    c.law_stand_in_order-2.ensures (in_order_none name_of_grant)
    (subst (λ xs. IsListing c.args.roster.now.members.now c.args.subs.now xs c.loop-sub.hosts) c.in-None.ensures.steps.0
    c.loop-sub.invariant)

pub returns-clause-hosts : goal.returns-clause-hosts
returns-clause-hosts c =
    hosts_host c.args.roster.now.members.now c.args.subs.now c.loop-sub.hosts c.law_stand_in_order.ensures
    c.law_stand_in_order-2.ensures
    (subst (λ xs. IsListing c.args.roster.now.members.now c.args.subs.now xs c.loop-sub.hosts) c.in-None.ensures.steps.0
    c.loop-sub.invariant)

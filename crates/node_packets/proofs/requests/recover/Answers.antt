use Rattle.std.proofs.Common.{◌≡◌, List, [], false, ap, map, subst, ◌∙◌, rules}
use Rattle.ids.specs.declared.member.Member.{Member}
use Rattle.recovery.specs.Plans.{IsPlan, stop_of}
use Rattle.subcomputation.specs.Recovering.{recovered}
use Rattle.subcomputation.specs.Subs.{SubOf, grants_of_subs}
use Rattle.node_state.specs.Parts.{PartsOf}
use Rattle.node_steps.specs.Meeting.{NodeOn}
use Rattle.node_steps.specs.Moves.{stops}
use Rattle.node_packets.proofs.Stopping.{recovered_view, stops_sent}
use Rattle.node_packets.proofs.requests.recover.Goals as goal

pub invariant_of-node-2 : goal.invariant_of-node-2
invariant_of-node-2 c = record {
  leaving = rw (ap (λ (v : PartsOf). v.node.state) c.in_ok-recover.ensures.ok) tt;
  short = rw (ap (λ (v : PartsOf). v.node.replies) c.in_ok-recover.ensures.ok) c.node.invariant.short;
  fits = c.in_ok-recover.ensures.fits c.node.inside.job.now.program c.node.invariant.fits;
  rising = rw (ap (λ (v : PartsOf). v.node.state) c.in_ok-recover.ensures.ok) c.requires.rising;
}

pub returns : goal.returns
returns c =
    let plan : IsPlan c.args.roster.members c.args.node.now.node.subs c.in_ok-plan.plan =
    subst (λ (subs : List SubOf). IsPlan c.args.roster.members subs c.in_ok-plan.plan) (c.held.ensures
    ∙ ap (λ (v : NodeOn). v.node.subs) c.node.view_is)
    (subst (λ (members : List Member). IsPlan members c.held.result.now c.in_ok-plan.plan) c.as_slice.ensures
    c.in_ok-plan.ensures) in
    let told : c.stopped.result.now ≡ map stop_of
    (recovered c.args.roster.members (grants_of_subs c.args.node.now.node.subs) c.args.node.now.node.subs).stopped =
    c.stopped.ensures ∙ plan.stopped in
    let sent : c.send_stops.new.sent ≡ map (stops c.args.node.now.job) c.stopped.result.now = search rules in (
      c.sends.ensures ∙ ap (λ bytes. record { sent = bytes; fills = []; ignored = false }) (sent
          ∙ stops_sent c.args.node.now.job (recovered c.args.roster.members
          (grants_of_subs c.args.node.now.node.subs) c.args.node.now.node.subs).stopped c.stopped.result.now told),
      recovered_view _ c.args.node.now c.recover.new.self c.args.roster c.victim_status-victim.result c.node.view_is
          c.in_ok-recover.ensures.ok c.victim_status-victim.ensures,
    )

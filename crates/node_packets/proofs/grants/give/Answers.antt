use Rattle.std.proofs.Common.{◌≡◌, IsTrue, Some, refl, rules}
use Rattle.codec.specs.Table.{is_short}
use Rattle.sub_rules.specs.Updates.{opened_in}
use Rattle.subcomputation.specs.Fitting.{Fits}
use Rattle.subcomputation.specs.Subs.{sub_in}
use Rattle.subcomputation.specs.Told.{opened_sub}
use Rattle.node_state.specs.Parts.{IsMember}
use Rattle.node_steps.proofs.Keeping.{given}
use Rattle.node_packets.proofs.grants.give.Goals as goal

pub invariant_of-node-2 : goal.invariant_of-node-2
invariant_of-node-2 c =
    let sub = c.requires.may.sub in
    let there : sub_in c.args.host c.node.inside.parts.node.subs ≡ Some sub = search rules in
    let short : IsTrue (is_short c.grant-packet.result.body) = search rules in
    let said : Fits c.args.node.now.job.program (opened_in c.args.opening.opened sub.content) =
    c.requires.fits sub c.requires.may.there in
    let fits : Fits c.node.inside.job.now.program (opened_in c.args.opening.opened sub.content) = search rules in
    let member : IsMember c.node.inside.parts.node.state = search rules in
    rw (c.in_ok-give.ensures.ok sub there)
    (given c.node.inside.job.now c.node.inside.parts.node _ (opened_sub c.args.opening.opened sub)
    (record {
      thief = c.args.steal.from;
      seq = c.args.steal.seq;
      packet = c.grant-packet.result;
    }) c.node.inside.parts.posts _ c.node.invariant member refl refl refl fits short)

use Rattle.std.proofs.Common.{refl, rules}
use Rattle.subcomputation.specs.Fitting.{Fits}
use Rattle.node_state.specs.Parts.{IsMember}
use Rattle.node_steps.proofs.Keeping.{held, taken_view}
use Rattle.node_packets.proofs.grants.take.Goals as goal

pub invariant_of-node-2 : goal.invariant_of-node-2
invariant_of-node-2 c =
    let fits : Fits c.node.inside.job.now.program c.in_ok-sub.sub.content = search rules in
    let member : IsMember c.node.inside.parts.node.state = search rules in
    rw c.in_ok-take.ensures.ok (held c.node.inside.job.now c.node.inside.parts.node _ c.in_ok-sub.sub
    c.node.inside.parts.posts _ c.node.invariant member refl refl refl fits)

pub returns : goal.returns
returns c = (
  c.quiet.ensures,
  taken_view _ c.args.node.now c.take.new.self c.in_ok-sub.sub _ c.node.view_is
      (rw c.of-2.ensures at c.in_ok-sub.ensures.granted) c.in_ok-take.ensures.ok,
)

use Rattle.std.proofs.Common.{refl}
use Rattle.steal_protocol.specs.Requests.{without_request}
use Rattle.node_state.specs.Node.{NodeOf}
use Rattle.node_steps.proofs.Keeping.{kept, same_leaving}
use Rattle.node_packets.proofs.requests.member_refuse.Goals as goal

pub invariant_of-node : goal.invariant_of-node
invariant_of-node c =
    let old : NodeOf = c.node.inside.parts.node in
    let new : NodeOf = record old { asker = without_request old.asker } in
    rw c.clear_request.ensures
    (kept c.node.inside.job.now old new c.node.inside.parts.posts _ c.node.invariant
    (same_leaving c.node.inside.job.now old new refl refl refl c.node.invariant.leaving) refl refl refl)

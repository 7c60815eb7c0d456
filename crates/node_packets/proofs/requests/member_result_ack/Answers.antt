use Rattle.std.proofs.Common.{refl}
use Rattle.node_steps.proofs.Keeping.{gone}
use Rattle.node_packets.proofs.requests.member_result_ack.Goals as goal

pub invariant_of-node : goal.invariant_of-node
invariant_of-node c = rw c.remove.ensures
    (gone c.node.inside.job.now c.node.inside.parts.node _ c.args.ack.grant c.node.inside.parts.posts _ c.node.invariant
    refl refl refl refl)

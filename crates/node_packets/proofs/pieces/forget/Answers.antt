use Rattle.std.proofs.Common.{refl}
use Rattle.node_state.specs.Assemblies.{without_assembly}
use Rattle.node_state.specs.Node.{NodeOf}
use Rattle.node_steps.proofs.Keeping.{kept, same_leaving}
use Rattle.node_packets.proofs.pieces.forget.Goals as goal

pub invariant_of-node : goal.invariant_of-node
invariant_of-node c =
    let old : NodeOf = c.node.inside.parts.node in
    let new : NodeOf = record old { assemblies = without_assembly c.args.grant old.assemblies } in
    rw c.forget_assembly.ensures (kept c.node.inside.job.now old new c.node.inside.parts.posts _ c.node.invariant
    (same_leaving c.node.inside.job.now old new refl refl refl c.node.invariant.leaving) refl refl refl)

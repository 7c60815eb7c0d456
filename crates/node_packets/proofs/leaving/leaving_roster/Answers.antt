use Rattle.std.proofs.Common.{◌≡◌, rules}
use Rattle.node_state.specs.Node.{NodeOf}
use Rattle.node_state.specs.declared.parts.State.TheVariants.{Leaving}
use Rattle.node_packets.proofs.Offering.{offering}
use Rattle.node_packets.proofs.leaving.leaving_roster.Goals as goal

pub invariant_of-node-then-is_live : goal.invariant_of-node-then-is_live
invariant_of-node-then-is_live c =
    let old : NodeOf = c.node.inside.parts.node in
    let at : old.state ≡ Leaving c.in-Leaving.kept c.in-Leaving.heir = search rules in
    rw c.keep_leaving.ensures (record {
      leaving = offering c.node.inside.job.now old c.in-Leaving.kept c.in-Leaving.heir at c.node.invariant.leaving;
      short = c.node.invariant.short;
      fits = c.node.invariant.fits;
      rising = c.requires.rising;
    })

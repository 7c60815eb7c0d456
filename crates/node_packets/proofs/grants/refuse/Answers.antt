use Rattle.std.proofs.Common.{IsTrue, refl, rules}
use Rattle.codec.specs.Table.{is_short}
use Rattle.node_steps.proofs.Keeping.{answered}
use Rattle.node_packets.proofs.grants.refuse.Goals as goal

pub invariant_of-node-2 : goal.invariant_of-node-2
invariant_of-node-2 c =
    let short : IsTrue (is_short c.refuse-packet.result.body) = search rules in
    rw c.in_ok-answer.ensures.ok (answered c.node.inside.job.now c.node.inside.parts.node _
    (record {
      thief = c.args.steal.from;
      seq = c.args.steal.seq;
      packet = c.refuse-packet.result;
    }) c.node.inside.parts.posts _ c.node.invariant refl refl refl refl short)

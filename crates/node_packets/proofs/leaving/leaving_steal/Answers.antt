use Rattle.std.proofs.Common.{◌≡◌, rules}
use Rattle.steal_protocol.specs.Replies.{Again, heard, reply_in}
use Rattle.node_steps.specs.Meeting.{IsNode}
use Rattle.node_steps.proofs.Keeping.{short_reply}
use Rattle.node_packets.proofs.Serving.{again}
use Rattle.node_packets.proofs.leaving.leaving_steal.Goals as goal

pub alone-requires : goal.alone-requires
alone-requires c =
    let is : Again c.in-Again.reply.now
    ≡ heard (reply_in c.args.steal.from c.args.node.now.node.replies) c.args.steal.seq = search rules in
    let kept = again (reply_in c.args.steal.from c.args.node.now.node.replies) c.args.steal.seq c.in-Again.reply.now is
    in
    let node : IsNode c.args.node.now = rw (← c.node.view_is) c.node.invariant in
    rw kept.packet at (short_reply kept.reply c.args.node.now.node c.args.steal.from node.short kept.there)

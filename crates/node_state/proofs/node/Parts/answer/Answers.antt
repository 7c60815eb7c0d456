use Rattle.std.proofs.Common.{◌∙◌, ap}
use Rattle.steal_protocol.specs.Replies.{put_reply}
use Rattle.node_state.specs.Parts.{PartsOf}
use Rattle.node_state.proofs.Keeping.{quiet_parts, replies_view}
use Rattle.node_state.proofs.node.Parts.answer.Goals as goal

pub invariant_of-self : goal.invariant_of-self
invariant_of-self c = (quiet_parts _ c.self.inside.asker c.keep.new.self c.self.inside.confirmed c.self.inside.posts
    c.self.invariant c.self.invariant.asks).parts

pub returns-clause-ok : goal.returns-clause-ok
returns-clause-ok c = replies_view _ c.args.self.now c.keep.new.self
    (put_reply c.args.reply c.args.self.now.node.replies) c.self.view_is (c.in_ok-keep.ensures.ok
    ∙ ap (λ (v : PartsOf). put_reply c.args.reply v.node.replies) c.self.view_is)
    (rw (← c.self.view_is) c.self.invariant)

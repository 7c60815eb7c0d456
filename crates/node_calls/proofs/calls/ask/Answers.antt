use Rattle.std.proofs.Common.{ap, rules}
use Rattle.node_state.specs.Parts.{IsMember, PartsOf}
use Rattle.node_steps.proofs.Keeping.{kept, member_leaving}
use Rattle.node_calls.proofs.calls.ask.Goals as goal

pub invariant_of-node-2 : goal.invariant_of-node-2
invariant_of-node-2 c =
    let member : IsMember c.node.inside.parts.node.state = search rules in
    let rest = c.ask.ensures.rest in
    kept c.node.inside.job.now c.node.inside.parts.node c.ask.new.self.node c.node.inside.parts.posts _ c.node.invariant
    (member_leaving c.node.inside.job.now c.node.inside.parts.node c.ask.new.self.node
    (ap (λ (v : PartsOf). v.node.state) rest) member)
    (ap (λ (v : PartsOf). v.node.state) rest)
    (ap (λ (v : PartsOf). v.node.subs) rest)
    (ap (λ (v : PartsOf). v.node.replies) rest)

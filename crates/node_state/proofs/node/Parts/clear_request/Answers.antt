use Rattle.std.proofs.Common.{◌∙◌, ap}
use Rattle.steal_protocol.specs.Requests.{without_request}
use Rattle.node_state.specs.Parts.{PartsOf}
use Rattle.node_state.proofs.Leaves.{asks_without}
use Rattle.node_state.proofs.Keeping.{asker_view, quiet_parts}
use Rattle.node_state.proofs.node.Parts.clear_request.Goals as goal

pub invariant_of-self : goal.invariant_of-self
invariant_of-self c =
    (quiet_parts _ c.clear.new.self c.self.inside.replies c.self.inside.confirmed c.self.inside.posts c.self.invariant
    (rw c.clear.ensures (asks_without c.self.inside.state c.self.inside.asker))).parts

pub returns : goal.returns
returns c = asker_view _ c.args.self.now c.clear.new.self (without_request c.args.self.now.node.asker) c.self.view_is
    (c.clear.ensures ∙ ap (λ (v : PartsOf). without_request v.node.asker) c.self.view_is)
    (rw (← c.self.view_is) c.self.invariant) (asks_without c.args.self.now.node.state c.args.self.now.node.asker)

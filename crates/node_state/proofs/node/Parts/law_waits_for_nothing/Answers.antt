use Rattle.node_state.specs.Parts.{AreParts}
use Rattle.node_state.proofs.Leaves.{asks_nothing}
use Rattle.node_state.proofs.node.Parts.law_waits_for_nothing.Goals as goal

pub returns : goal.returns
returns c =
    let are : AreParts c.args.self.now = rw (← c.self.view_is) c.self.invariant in
    asks_nothing c.args.self.now.node.state c.args.self.now.node.asker c.requires are.asks

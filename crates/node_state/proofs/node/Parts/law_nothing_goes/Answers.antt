use Rattle.node_state.specs.Parts.{AreParts}
use Rattle.node_state.proofs.Kept.{none_goes}
use Rattle.node_state.proofs.node.Parts.law_nothing_goes.Goals as goal

pub returns : goal.returns
returns c =
    let are : AreParts c.args.self.now = rw (← c.self.view_is) c.self.invariant in
    none_goes c.args.self.now.node c.args.self.now.posts are.posts

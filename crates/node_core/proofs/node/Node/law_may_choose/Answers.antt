use Rattle.std.proofs.Common.{rules}
use Rattle.node_state.specs.Parts.{ArePosts}
use Rattle.node_core.proofs.Chosen.{own_may_be_chosen}
use Rattle.node_core.proofs.node.Node.law_may_choose.Goals as goal

pub returns : goal.returns
returns c =
    let are : ArePosts c.args.self.now.node c.args.self.now.posts = search rules in
    own_may_be_chosen c.args.self.now.node c.args.self.now.posts are

use Rattle.std.proofs.Common.{◌≡◌, drop}
use Rattle.node_state.specs.Posts.{posted_all}
use Rattle.node_state.proofs.node.posted_again.Given as goal

abbrev pub invariant-loop-ready : goal.invariant-loop-ready
invariant-loop-ready l = posted_all (drop l.ready-index l.again) l.all ≡ posted_all l.again l.posts

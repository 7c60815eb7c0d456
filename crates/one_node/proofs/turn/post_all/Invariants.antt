use Rattle.std.proofs.Common.{◌≡◌, drop}
use Rattle.one_node.specs.Runs.{posted_readied}
use Rattle.one_node.proofs.turn.post_all.Given as goal

-- what was posted, and then the others, are all
abbrev pub invariant-loop-readied : goal.invariant-loop-readied
invariant-loop-readied l = posted_readied (drop l.readied-index l.ready) l.posts ≡ posted_readied l.ready l.fn.posts

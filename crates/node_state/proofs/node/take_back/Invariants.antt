use Rattle.std.proofs.Common.{◌≡◌, ◌≤◌, List, length, take}
use Rattle.level_deques.specs.declared.posts.Post.{Post}
use Rattle.level_deques.specs.Levels.{IsByLevel}
use Rattle.node_state.specs.Parts.{ready_of}
use Rattle.node_state.specs.Posts.{posted_all}
use Rattle.node_state.proofs.node.take_back.Given as goal

abbrev pub invariant-loop-count : goal.invariant-loop-count
invariant-loop-count l = (l.count ≤ length l.ready)
    × ((before : List Post) → IsByLevel before → l.fn.posts ≡ posted_all (ready_of l.grant l.ready) before
    → l.posts ≡ posted_all (ready_of l.grant (take l.count l.ready)) before)

abbrev pub decreases-loop-count : goal.decreases-loop-count
decreases-loop-count l = l.count

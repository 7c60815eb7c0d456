use Rattle.std.proofs.Common.{◌≡◌, ◌≤◌, length, take}
use Rattle.node_state.specs.Parts.{ready_of}
use Rattle.node_state.specs.Posts.{posted_all}
use Rattle.node_state.proofs.node.post_ready.Given as goal

abbrev pub invariant-loop-count : goal.invariant-loop-count
invariant-loop-count l = (l.count ≤ l.count-end) × (l.count-end ≡ length l.ready)
    × (l.posts ≡ posted_all (ready_of l.grant (take l.count l.ready)) l.fn.posts)

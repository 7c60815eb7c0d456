use Rattle.std.proofs.Common.{◌≡◌, ◌≤◌, length, reverse, slice_get, take}
use Rattle.level_deques.specs.Levels.{all_posts}
use Rattle.level_deques.proofs.posts.at.Given as goal

abbrev pub invariant-loop-count : goal.invariant-loop-count
invariant-loop-count l = (l.count ≤ length l.levels)
    × (slice_get (reverse (all_posts (take l.count l.levels))) l.index
    ≡ slice_get (reverse (all_posts l.levels)) l.index-2)

abbrev pub decreases-loop-count : goal.decreases-loop-count
decreases-loop-count l = l.count

use Rattle.std.proofs.Common.{◌≡◌, ◌≤◌, length, take}
use Rattle.level_deques.specs.Levels.{all_posts}
use Rattle.level_deques.proofs.Reading.{Tested}
use Rattle.level_deques.proofs.posts.retain.Given as goal

abbrev pub invariant-loop-at : goal.invariant-loop-at
invariant-loop-at g l = Tested (g.S.PostTest.stays l.test) l.fn.levels.items l.levels.items l.at
    × (l.count ≡ length (all_posts (take l.at l.levels.items))) × (l.at-end ≡ length l.fn.levels.items)
    × (l.at ≤ l.at-end)

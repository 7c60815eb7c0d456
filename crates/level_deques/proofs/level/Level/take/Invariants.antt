use Rattle.std.proofs.Common.{◌≡◌, ◌≤◌, false, length, drop}
use Rattle.level_deques.specs.Posts.{is_posted}
use Rattle.level_deques.proofs.level.Level.take.Given as goal

abbrev pub invariant-loop-left : goal.invariant-loop-left
invariant-loop-left l = (l.left ≤ length l.self-inside.posts.items)
    × (is_posted l.post (drop l.left l.self-inside.posts.items) ≡ false) × (l.self-inside.level ≡ l.fn.self.level)
    × (l.self-inside.posts.items ≡ l.fn.self.posts)

abbrev pub decreases-loop-left : goal.decreases-loop-left
decreases-loop-left l = l.left

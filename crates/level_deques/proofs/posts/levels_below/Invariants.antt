use Rattle.std.proofs.Common.{◌≤◌, length, drop}
use Rattle.std.specs.List.{AllByRecursion}
use Rattle.level_deques.proofs.posts.levels_below.Given as goal

abbrev pub invariant-loop-count : goal.invariant-loop-count
invariant-loop-count l = (l.count ≤ length l.levels) × AllByRecursion (λ m. l.level ≤ m.level) (drop l.count l.levels)

abbrev pub decreases-loop-count : goal.decreases-loop-count
decreases-loop-count l = l.count

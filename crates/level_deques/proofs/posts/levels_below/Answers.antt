use Rattle.std.proofs.Common.{ℕ, ◌≤◌, ◌<◌, ◌-◌, length, arith}
use Rattle.level_deques.proofs.Reading.{below_here, rest_here}
use Rattle.level_deques.proofs.posts.levels_below.Goals as goal

within : (n count : ℕ) → count ≤ n → 0 < count → count - 1 < n
within n count bound some = omega arith

pub loop-count-preserved : goal.loop-count-preserved
loop-count-preserved c =
    let some = c.loop-count-test.true in
    let less = within (length c.args.levels.now) c.loop-count.count c.loop-count.invariant.0 some in (
      omega (arith, less),
      rest_here c.args.level c.args.levels.now c.loop-count.count
          (c.loop-count.count - 1) c.index-levels-count.result (omega (arith, some)) less c.index-levels-count.is
          (rw c.level.ensures at c.if-level.true) c.loop-count.invariant.1,
    )

pub returns-else-level : goal.returns-else-level
returns-else-level c =
    let some = c.loop-count-test.true in
    let less = within (length c.args.levels.now) c.loop-count.count c.loop-count.invariant.0 some in
    record {
      within = c.loop-count.invariant.0;
      below = below_here c.args.level c.args.levels.now c.loop-count.count
          (c.loop-count.count - 1) c.index-levels-count.result (omega (arith, some)) less c.index-levels-count.is
          (rw c.level.ensures at c.if-level.false) c.requires;
      rest = c.loop-count.invariant.1;
    }

use Rattle.std.proofs.Common.{ℕ, ◌≤◌, ◌<◌, ◌-◌, length, slice_get, ap, ◌∙◌, arith}
use Rattle.level_deques.proofs.Reading.{read_here, read_next}
use Rattle.level_deques.proofs.posts.at.Goals as goal

within : (n count : ℕ) → count ≤ n → 0 < count → count - 1 < n
within n count bound some = omega arith

pub returns-then-index-len : goal.returns-then-index-len
returns-then-index-len c =
    let some = c.loop-count-test.true in
    let less = within (length c.args.levels.now) c.loop-count.count c.loop-count.invariant.0 some in
    c.at.ensures
    ∙ ap (λ n. slice_get c.index-levels-count.result.posts (n - 1 - c.loop-count.index)) c.len-len.ensures
    ∙ read_here c.args.levels.now c.loop-count.count
    (c.loop-count.count - 1) c.index-levels-count.result c.loop-count.index
    (omega (arith, some)) less c.index-levels-count.is (rw c.len-len.ensures at c.if-index-len.true)
    ∙ c.loop-count.invariant.1

pub loop-count-preserved : goal.loop-count-preserved
loop-count-preserved c =
    let some = c.loop-count-test.true in
    let less = within (length c.args.levels.now) c.loop-count.count c.loop-count.invariant.0 some in (
      omega (arith, less),
      rw c.len-len.ensures (read_next c.args.levels.now c.loop-count.count
          (c.loop-count.count - 1) c.index-levels-count.result c.loop-count.index
          (omega (arith, some)) less c.index-levels-count.is (rw c.len-len.ensures at c.if-index-len.false)
          ∙ c.loop-count.invariant.1),
    )

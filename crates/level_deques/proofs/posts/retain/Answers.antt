use Rattle.std.proofs.Common.{◌≡◌, ◌<◌, ◌+◌, length, take, set, ap, ◌∙◌, arith}
use Rattle.std.proofs.lemmas.List.{get_or-set_same}
use Rattle.level_deques.specs.Levels.{LevelOf, all_posts}
use Rattle.level_deques.proofs.Reading.{Tested, few_left, one_more_level, tested_more}
use Rattle.level_deques.proofs.posts.retain.Goals as goal

within : (g : _) (c : goal.After-len-count g) → c.loop-at.at < length c.loop-at.levels.items
within g c = omega (arith, c.loop-at-test.true, c.loop-at.invariant.0.long, c.loop-at.invariant.2)

tested : (g : _) (c : goal.After-len-count g)
    → Tested (g.S.PostTest.stays c.args.test.now) c.args.levels.now.items
    (set c.loop-at.levels.items c.loop-at.at c.retain.new.self) (c.loop-at.at + 1)
tested g c = rw c.retain.ensures (tested_more
    (g.S.PostTest.stays c.args.test.now) c.args.levels.now.items c.loop-at.levels.items c.loop-at.at
    c.index_mut.result.now (within g c) c.index_mut.ensures.value c.loop-at.invariant.0)

counted : (g : _) (c : goal.After-len-count g)
    → c.loop-at.count + c.len-count.result
    ≡ length (all_posts (take (c.loop-at.at + 1) (set c.loop-at.levels.items c.loop-at.at c.retain.new.self)))
counted g c =
    let read : c.index.result.now ≡ c.retain.new.self =
    c.index.ensures ∙ get_or-set_same c.loop-at.levels.items c.loop-at.at c.retain.new.self c.index.result.now
    (within g c) in
    let len : c.len-count.result ≡ length c.retain.new.self.posts =
    c.len-count.ensures ∙ ap (λ (l : LevelOf). length l.posts) read in
    omega (
      arith,
      len,
      c.loop-at.invariant.1,
      one_more_level c.loop-at.levels.items c.loop-at.at c.retain.new.self (within g c),
    )

pub overflow_add-count : goal.overflow_add-count
overflow_add-count g c = omega (
  arith,
  counted g c,
  few_left (g.S.PostTest.stays c.args.test.now) c.args.levels.now.items
      (set c.loop-at.levels.items c.loop-at.at c.retain.new.self) (c.loop-at.at + 1) (tested g c),
  c.requires.counted,
)

pub loop-at-preserved : goal.loop-at-preserved
loop-at-preserved g c = (tested g c, counted g c, c.loop-at.invariant.2, omega (arith, c.loop-at-test.true))

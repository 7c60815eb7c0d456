use Rattle.std.proofs.Common.{◌≡◌, ◌<◌, length, drop, set, sym, ap, ◌∙◌, arith}
use Rattle.std.specs.List.{AllByRecursion}
use Rattle.level_deques.specs.Levels.{LevelOf, all_posts}
use Rattle.level_deques.specs.Posts.{posted}
use Rattle.level_deques.proofs.Keeping.{none_above, others_above}
use Rattle.level_deques.proofs.Reading.{Changed, posted_at_new, posted_here, same_read}
use Rattle.level_deques.proofs.posts.put.Goals.{else-below-len-via-then-below-len+else-level-post, else-below-len-via-else-below-len}
use Rattle.level_deques.proofs.posts.put.Goals as goal

there : (c : goal.In_ok-post) → Changed (posted c.args.post (all_posts c.args.levels.now.items))
    (set c.args.levels.now.items c.levels_below-below.result c.post.new.self)
there c =
    let within : c.levels_below-below.result < length c.args.levels.now.items =
    omega (arith, c.args.levels.now.ok, c.len.ensures, c.if-below-len.true) in
    let read : c.index_mut.result.now ≡ c.index.result.now =
    same_read c.args.levels.now.items c.levels_below-below.result c.index_mut.result.now c.index.result.now
    within c.index_mut.ensures.value c.index.ensures in
    let level : c.index_mut.result.now.level ≡ c.args.post.level =
    ap (λ (l : LevelOf). l.level) read ∙ sym c.level.ensures ∙ c.if-level-post.true in
    posted_here c.args.post c.args.levels.now.items c.levels_below-below.result c.index_mut.result.now c.post.new.self
    c.requires.levels within c.index_mut.ensures.value level c.in_ok-post.ensures.ok

pub returns-in_ok-post-clause-ok : goal.returns-in_ok-post-clause-ok
returns-in_ok-post-clause-ok c = (there c).posts

pub returns-in_ok-post-clause-levels : goal.returns-in_ok-post-clause-levels
returns-in_ok-post-clause-levels c = (there c).levels

new : (c : goal.In_ok-insert) → Changed (posted c.args.post (all_posts c.args.levels.now.items)) c.insert.new.self.items
new c =
    let parted = rw c.deref.ensures.value at c.levels_below-below.ensures in
    let above : AllByRecursion (λ m. c.args.post.level < m.level)
    (drop c.levels_below-below.result c.args.levels.now.items) =
    elim c.else-below-len.branch [
      | else-below-len-via-then-below-len+else-level-post w ↦ others_above c.args.post.level c.args.levels.now.items
          c.levels_below-below.result w.index.result.now
          (omega (arith, c.args.levels.now.ok, c.len.ensures, w.if-below-len.true)) w.index.ensures
          (λ same. w.if-level-post.false (w.level.ensures ∙ same)) parted.rest c.requires.levels.stand.rising
      | else-below-len-via-else-below-len w ↦ none_above c.args.post.level c.args.levels.now.items
          c.levels_below-below.result (omega (arith, c.args.levels.now.ok, c.len.ensures, w.if-below-len.false))
    ] in
    posted_at_new c.args.post c.args.levels.now.items c.levels_below-below.result c.in_ok-of.field-0
    c.insert.new.self.items c.requires.levels parted.below above c.in_ok-of.ensures c.in_ok-insert.ensures.items

pub returns-in_ok-insert-clause-ok : goal.returns-in_ok-insert-clause-ok
returns-in_ok-insert-clause-ok c = (new c).posts

pub returns-in_ok-insert-clause-levels : goal.returns-in_ok-insert-clause-levels
returns-in_ok-insert-clause-levels c = (new c).levels

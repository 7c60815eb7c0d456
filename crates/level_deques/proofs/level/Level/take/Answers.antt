use Rattle.std.proofs.Common.{ℕ, ◌≡◌, ◌≤◌, ◌<◌, ◌+◌, ◌-◌, List, false, length, drop, ap, sym, ◌∙◌, arith}
use Rattle.level_deques.specs.declared.posts.Post.{Post}
use Rattle.level_deques.specs.Posts.{is_posted}
use Rattle.level_deques.proofs.Reading.{same_level, without_here}
use Rattle.level_deques.proofs.Taking.{no_post}
use Rattle.level_deques.proofs.level.Level.take.Goals as goal

rest : (p : Post) (xs : List Post) (i : ℕ) → 0 < i → is_posted p (drop i xs) ≡ false
    → is_posted p (drop (i - 1 + 1) xs) ≡ false
rest p xs i some none = let same : i - 1 + 1 ≡ i = omega arith in ap (λ n. is_posted p (drop n xs)) same ∙ none

whole : (p : Post) (xs : List Post) (i : ℕ) → i ≤ 0 → is_posted p (drop i xs) ≡ false → is_posted p xs ≡ false
whole p xs i past none = let first : i ≡ 0 = omega arith in rw first at none

pub returns-then-is_post : goal.returns-then-is_post
returns-then-is_post c =
    let some = c.loop-left-test.true in
    let items = c.loop-left.self-inside.posts.items in
    let within : c.loop-left.left - 1 < length items = omega (arith, c.loop-left.invariant.0, some) in
    let none = rest c.args.post.now items c.loop-left.left some c.loop-left.invariant.1 in
    let left = without_here c.args.post.now items c.take_at.new.posts.items
    (c.loop-left.left - 1) c.index.result.now within c.index.ensures (sym c.is_post.ensures
    ∙ c.if-is_post.true) none c.take_at.ensures in
    same_level c.loop-left.self-inside.level c.args.self.now.level c.take_at.new.posts.items items c.args.self.now.posts
    c.args.post.now c.loop-left.invariant.2 left c.loop-left.invariant.3

pub returns : goal.returns
returns c =
    let items = c.loop-left.self-inside.posts.items in
    let none = whole c.args.post.now items c.loop-left.left c.loop-left-test.false c.loop-left.invariant.1 in
    same_level c.loop-left.self-inside.level c.args.self.now.level items items c.args.self.now.posts c.args.post.now
    c.loop-left.invariant.2 (sym (no_post c.args.post.now items none)) c.loop-left.invariant.3

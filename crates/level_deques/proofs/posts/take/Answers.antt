use Rattle.std.proofs.Common.{ℕ, ◌≡◌, ◌<◌, ◌≤◌, length, drop, Vec, Global, sym, ap, ◌∙◌, inl, inr, arith}
use Rattle.std.specs.List.{AllByRecursion}
use Rattle.std.proofs.lemmas.Bool.{cases_order}
use Rattle.std.proofs.lemmas.List.{get_or-set_same, nil_from_length}
use Rattle.level_deques.specs.Levels.{LevelOf, all_posts}
use Rattle.level_deques.specs.Posts.{without_post}
use Rattle.level_deques.proofs.Keeping.{none_above, others_above}
use Rattle.level_deques.proofs.Reading.{Changed, counted_here, one_less, same_read, taken_here, taken_last, taken_none}
use Rattle.level_deques.proofs.posts.take.Goals.{then-below-len-via-then-below-len, then-below-len-via-else-below-len+then-level-post, then-left-eq0, else-left-eq0}
use Rattle.level_deques.proofs.posts.take.Goals as goal

less : (a b : ℕ) → a ≤ b → (a ≡ b → ⊥) → a < b
less a b le apart = elim (cases_order a b) [
  | inl same ↦ absurd (apart same)
  | inr order ↦ elim order [ inl below ↦ below | inr above ↦ absurd (search arith) ]
]

-- no such level
pub returns-then-below-len-clause-taken : goal.returns-then-below-len-clause-taken
returns-then-below-len-clause-taken c =
    let parted = rw c.deref.ensures.value at c.levels_below-below.ensures in
    let above : AllByRecursion (λ m. c.args.post.now.level < m.level)
    (drop c.levels_below-below.result c.args.levels.now.items) =
    elim c.then-below-len.branch [
      | then-below-len-via-then-below-len w ↦ none_above c.args.post.now.level c.args.levels.now.items
          c.levels_below-below.result (omega (arith, c.args.levels.now.ok, c.len.ensures, w.if-below-len.true))
      | then-below-len-via-else-below-len+then-level-post w ↦ others_above c.args.post.now.level c.args.levels.now.items
          c.levels_below-below.result w.index.result.now
          (less c.levels_below-below.result
          (length c.args.levels.now.items) parted.within (λ same.
          w.if-below-len.false (omega (arith, c.args.levels.now.ok, c.len.ensures, same)))) w.index.ensures
          (λ same. w.if-level-post.true (w.level.ensures ∙ same)) parted.rest c.requires.levels.stand.rising
    ] in
    taken_none c.args.post.now c.args.levels.now.items c.levels_below-below.result c.requires.levels parted.below above

-- the level
within : (c : goal.Joined-left-eq0) → c.levels_below-below.result < length c.args.levels.now.items
within c =
    let parted = rw c.deref.ensures.value at c.levels_below-below.ensures in
    less c.levels_below-below.result (length c.args.levels.now.items) parted.within (λ same.
    c.if-below-len.false (omega (arith, c.args.levels.now.ok, c.len.ensures, same)))

level : (c : goal.Joined-left-eq0) → c.index_mut.result.now.level ≡ c.args.post.now.level
level c =
    let read : c.index_mut.result.now ≡ c.index.result.now =
    same_read c.args.levels.now.items c.levels_below-below.result c.index_mut.result.now c.index.result.now
    (within c) c.index_mut.ensures.value c.index.ensures in
    ap (λ (l : LevelOf). l.level) read ∙ sym c.level.ensures ∙ c.if-level-post.false

-- what is left at it
left : (c : goal.Joined-left-eq0) → c.len-left.result ≡ length c.take.new.self.posts
left c = c.len-left.ensures ∙ ap (λ (l : LevelOf). length l.posts) (c.index-3.ensures
    ∙ get_or-set_same c.args.levels.now.items c.levels_below-below.result c.take.new.self c.index-3.result.now
    (within c))

changed : (c : goal.Joined-left-eq0)
    → Changed (without_post c.args.post.now (all_posts c.args.levels.now.items)) c.if-left-eq0.levels.items
changed c =
    elim c.if-left-eq0.branch [
      | then-left-eq0 w ↦ taken_last c.args.post.now c.args.levels.now.items c.levels_below-below.result
          c.index_mut.result.now c.take.new.self c.if-left-eq0.levels.items c.requires.levels
          (within c) c.index_mut.ensures.value (level c) c.take.ensures
          (nil_from_length c.take.new.self.posts (sym (left c) ∙ w.if-left-eq0.true))
          (ap (λ (v : Vec LevelOf Global). v.items) w.levels-is ∙ w.remove.ensures.items)
      | else-left-eq0 w ↦ rw w.levels-is (taken_here c.args.post.now c.args.levels.now.items c.levels_below-below.result
          c.index_mut.result.now c.take.new.self c.requires.levels (within c) c.index_mut.ensures.value
          (level c) c.take.ensures (λ none. w.if-left-eq0.false (left c ∙ ap length none)))
    ]

pub returns-clause-taken : goal.returns-clause-taken
returns-clause-taken c = (changed c).posts

pub returns-clause-levels : goal.returns-clause-levels
returns-clause-levels c = (changed c).levels

pub returns-clause-count : goal.returns-clause-count
returns-clause-count c =
    let items = c.args.levels.now.items in
    let before : c.len-before.result ≡ length c.index_mut.result.now.posts =
    c.len-before.ensures ∙ ap (λ (l : LevelOf). length l.posts)
    (same_read items c.levels_below-below.result c.index-2.result.now c.index_mut.result.now
    (within c) c.index-2.ensures c.index_mut.ensures.value) in
    one_less c.args.post.now (all_posts c.if-left-eq0.levels.items) c.index_mut.result.now.posts c.len-before.result
    c.len-left.result (all_posts items)
    (changed c).posts
    (left c ∙ ap (λ (l : LevelOf). length l.posts) c.take.ensures)
    before
    (counted_here c.args.post.now items c.levels_below-below.result c.index_mut.result.now c.requires.levels
    (within c) c.index_mut.ensures.value (level c))

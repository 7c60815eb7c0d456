-- What becomes of levels and of their posts when a post comes or goes at one of them.
use Rattle.std.proofs.Common.{◌≡◌, ◌<◌, ◌≤◌, ℕ, ◌+◌, Bool, true, false, cond, nat_lt, List, [], ◌∷◌, ◌++◌, length, take, drop, get_or, refl, sym, ap, ◌∙◌, ◌⊎◌, inl, inr, arith}
use Rattle.std.specs.List.{AllByRecursion}
use Rattle.std.proofs.lemmas.Bool.{le-ltb, lt-ltb}
use Rattle.std.proofs.lemmas.List.{append_assoc, drop_all, drop_more, length-append, take-append-drop}
use Rattle.level_deques.specs.declared.posts.Post.{Post}
use Rattle.level_deques.specs.Levels.{AreLevels, AreOfLevel, AreRising, HasPost, LevelOf, all_posts}
use Rattle.level_deques.specs.Posts.{posted, without_post}
use Rattle.level_deques.proofs.Lists.{all_both, all_first, all_second, all_since}
use Rattle.level_deques.proofs.Order.{posted_between}
use Rattle.level_deques.proofs.Rising.{above_it, below_it, each_post, in_its_place, posts_both, rising_second, with_it, without_it}
use Rattle.level_deques.proofs.Taking.{no_post, none_of_level, one_at_most, without_first, without_second}

-- the levels behind a place are greater
pub others_above : (n : ℕ) (ls : List LevelOf) (i : ℕ) (l : LevelOf) → i < length ls → l ≡ get_or ls i l
    → (l.level ≡ n → ⊥) → AllByRecursion (λ m. n ≤ m.level) (drop i ls) → AreRising ls
    → AllByRecursion (λ m. n < m.level) (drop i ls)
others_above n ls i l within at apart least rising =
    let here : drop i ls ≡ l ∷ drop (i + 1) ls = drop_more ls i l within ∙ ap (λ x. x ∷ drop (i + 1) ls) (sym at) in
    let risen : AreRising (drop i ls) = rising_second (take i ls) (drop i ls) (rw (take-append-drop i ls) rising) in
    let from : AllByRecursion (λ m. n ≤ m.level) (l ∷ drop (i + 1) ls) = rw here at least in
    let up : AreRising (l ∷ drop (i + 1) ls) = rw here at risen in
    let first : n < l.level = let le = from.0 in elim (cases l.level n) [
      | inl same ↦ absurd (apart same)
      | inr differs ↦ omega (arith, differs, le)
    ] in
    rw here (
      first,
      all_since (λ m. l.level < m.level) (λ m. n < m.level) (λ m less. omega arith)
          (drop (i + 1) ls) up.0,
    )
  where
    cases : (a b : ℕ) → (a ≡ b) ⊎ ((a < b) ⊎ (b < a))
    cases a b = search arith

pub none_above : (n : ℕ) (ls : List LevelOf) (i : ℕ) → length ls ≤ i → AllByRecursion (λ m. n < m.level) (drop i ls)
none_above n ls i past = rw (drop_all i ls past) tt

-- a level with other posts in its place
own_first : (ls ms : List LevelOf) → AllByRecursion AreOfLevel (ls ++ ms) → AllByRecursion AreOfLevel ls
own_first ls ms own = all_first AreOfLevel ls ms own

pub levels_at : (ls : List LevelOf) (l k : LevelOf) (ms : List LevelOf) → AreLevels (ls ++ l ∷ ms) → k.level ≡ l.level
    → AreOfLevel k → HasPost k → AreLevels (ls ++ k ∷ ms)
levels_at ls l k ms are same own some = record {
  stand = record {
    own = all_both AreOfLevel ls (k ∷ ms) (own_first ls (l ∷ ms) are.stand.own)
        (own, (all_second AreOfLevel ls (l ∷ ms) are.stand.own).1);
    rising = in_its_place ls l k ms are.stand.rising same;
  };
  some = all_both HasPost ls (k ∷ ms) (all_first HasPost ls (l ∷ ms) are.some)
      (some, (all_second HasPost ls (l ∷ ms) are.some).1);
}

-- a new level
pub levels_with : (ls : List LevelOf) (k : LevelOf) (ms : List LevelOf) → AreLevels (ls ++ ms)
    → AllByRecursion (λ l. l.level < k.level) ls → AllByRecursion (λ m. k.level < m.level) ms → AreOfLevel k → HasPost k
    → AreLevels (ls ++ k ∷ ms)
levels_with ls k ms are below above own some = record {
  stand = record {
    own = all_both AreOfLevel ls (k ∷ ms) (own_first ls ms are.stand.own)
        (own, all_second AreOfLevel ls ms are.stand.own);
    rising = with_it ls k ms are.stand.rising below above;
  };
  some = all_both HasPost ls (k ∷ ms) (all_first HasPost ls ms are.some) (some, all_second HasPost ls ms are.some);
}

-- a level that goes
pub levels_without : (ls : List LevelOf) (k : LevelOf) (ms : List LevelOf) → AreLevels (ls ++ k ∷ ms)
    → AreLevels (ls ++ ms)
levels_without ls k ms are = record {
  stand = record {
    own = all_both AreOfLevel ls ms (own_first ls (k ∷ ms) are.stand.own)
        (all_second AreOfLevel ls (k ∷ ms) are.stand.own).1;
    rising = without_it ls k ms are.stand.rising;
  };
  some = all_both HasPost ls ms (all_first HasPost ls (k ∷ ms) are.some) (all_second HasPost ls (k ∷ ms) are.some).1;
}

-- one more post at a level
pushed : (ps : List Post) (p : Post) → ps ++ p ∷ [] ≡ [] → ⊥
pushed [] p none = cc
pushed (q ∷ qs) p none = cc

posts_below : (n : ℕ) (ls : List LevelOf) → AllByRecursion AreOfLevel ls → AllByRecursion (λ l. l.level < n) ls
    → AllByRecursion (λ q. q.level ≤ n) (all_posts ls)
posts_below n ls own below = each_post (λ k. k ≤ n) ls own
    (all_since (λ l. l.level < n) (λ l. l.level ≤ n) (λ l less. omega arith) ls below)

pub posted_there : (p : Post) (ls : List LevelOf) (l : LevelOf) (ms : List LevelOf) → AreLevels (ls ++ l ∷ ms)
    → l.level ≡ p.level → (all_posts (ls ++ record l { posts = l.posts ++ p ∷ [] } ∷ ms)
    ≡ posted p (all_posts (ls ++ l ∷ ms))) × AreLevels (ls ++ record l { posts = l.posts ++ p ∷ [] } ∷ ms)
posted_there p ls l ms are same =
    let k : LevelOf = record l { posts = l.posts ++ p ∷ [] } in
    let own = all_second AreOfLevel ls (l ∷ ms) are.stand.own in
    let below = below_it ls l ms are.stand.rising in
    let up : AllByRecursion (λ q. q.level ≤ p.level) (all_posts ls ++ l.posts) =
    all_both (λ q. q.level ≤ p.level) (all_posts ls) l.posts
    (posts_below p.level ls (own_first ls (l ∷ ms) are.stand.own) (rw same at below))
    (all_since (λ q. q.level ≡ l.level) (λ q. q.level ≤ p.level) (λ q is. omega arith) l.posts own.0) in
    let above : AllByRecursion (λ q. p.level < q.level) (all_posts ms) =
    each_post (λ n. p.level < n) ms own.1 (rw same at (above_it ls l ms are.stand.rising)) in
    let between = posted_between p (all_posts ls ++ l.posts) (all_posts ms) up above in (
      posts_both ls (k ∷ ms)
          ∙ sym (append_assoc (all_posts ls) (l.posts ++ p ∷ []) (all_posts ms))
          ∙ ap (λ xs. xs ++ all_posts ms) (sym (append_assoc (all_posts ls) l.posts (p ∷ [])))
          ∙ append_assoc (all_posts ls ++ l.posts) (p ∷ []) (all_posts ms)
          ∙ sym between
          ∙ ap (posted p) (append_assoc (all_posts ls) l.posts (all_posts ms) ∙ sym (posts_both ls (l ∷ ms))),
      levels_at ls l k ms are refl (all_both (λ q. q.level ≡ l.level) l.posts (p ∷ []) own.0 (sym same, tt))
          (pushed l.posts p),
    )

pub posted_new : (p : Post) (ls ms : List LevelOf) → AreLevels (ls ++ ms) → AllByRecursion (λ l. l.level < p.level) ls
    → AllByRecursion (λ m. p.level < m.level) ms
    → (all_posts (ls ++ record { level = p.level; posts = p ∷ [] } ∷ ms) ≡ posted p (all_posts (ls ++ ms)))
    × AreLevels (ls ++ record { level = p.level; posts = p ∷ [] } ∷ ms)
posted_new p ls ms are below above =
    let k : LevelOf = record { level = p.level; posts = p ∷ [] } in (
      posts_both ls (k ∷ ms)
          ∙ sym (posted_between p (all_posts ls) (all_posts ms)
          (posts_below p.level ls (own_first ls ms are.stand.own) below)
          (each_post (λ n. p.level < n) ms (all_second AreOfLevel ls ms are.stand.own) above))
          ∙ ap (posted p) (sym (posts_both ls ms)),
      levels_with ls k ms are below above (refl, tt) (λ none. cc),
    )

-- a post less at a level
apart_below : (n : ℕ) (ls : List LevelOf) → AllByRecursion AreOfLevel ls → AllByRecursion (λ l. l.level < n) ls
    → AllByRecursion (λ q. q.level ≡ n → ⊥) (all_posts ls)
apart_below n ls own below = each_post (λ k. k ≡ n
    → ⊥) ls own (all_since (λ l. l.level < n) (λ l. l.level ≡ n → ⊥) (λ l less same. omega arith) ls below)

apart_above : (n : ℕ) (ls : List LevelOf) → AllByRecursion AreOfLevel ls → AllByRecursion (λ l. n < l.level) ls
    → AllByRecursion (λ q. q.level ≡ n → ⊥) (all_posts ls)
apart_above n ls own above = each_post (λ k. k ≡ n
    → ⊥) ls own (all_since (λ l. n < l.level) (λ l. l.level ≡ n → ⊥) (λ l less same. omega arith) ls above)

pub taken_there : (p : Post) (ls : List LevelOf) (l : LevelOf) (ms : List LevelOf) → AreLevels (ls ++ l ∷ ms)
    → l.level ≡ p.level → all_posts (ls ++ record l { posts = without_post p l.posts } ∷ ms)
    ≡ without_post p (all_posts (ls ++ l ∷ ms))
taken_there p ls l ms are same =
    let k : LevelOf = record l { posts = without_post p l.posts } in
    let own = all_second AreOfLevel ls (l ∷ ms) are.stand.own in
    let before = none_of_level p (all_posts ls)
    (apart_below p.level ls (own_first ls (l ∷ ms) are.stand.own) (rw same at (below_it ls l ms are.stand.rising)))
    in
    let behind = none_of_level p (all_posts ms)
    (apart_above p.level ms own.1 (rw same at (above_it ls l ms are.stand.rising))) in
    posts_both ls (k ∷ ms)
    ∙ ap (λ xs. all_posts ls ++ xs) (sym (without_first p l.posts (all_posts ms) behind))
    ∙ sym (without_second p (all_posts ls) (l.posts ++ all_posts ms) before)
    ∙ ap (without_post p) (sym (posts_both ls (l ∷ ms)))

-- a level that has no post may go
pub empty_goes : (ls : List LevelOf) (k : LevelOf) (ms : List LevelOf) → k.posts ≡ []
    → all_posts (ls ++ ms) ≡ all_posts (ls ++ k ∷ ms)
empty_goes ls k ms none = posts_both ls ms ∙ ap (λ xs. all_posts ls ++ (xs ++ all_posts ms)) (sym none)
    ∙ sym (posts_both ls (k ∷ ms))

-- what is left at a level is of it
pub left_of_level : (p : Post) (n : ℕ) (ps : List Post) → AllByRecursion (λ q. q.level ≡ n) ps
    → AllByRecursion (λ q. q.level ≡ n) (without_post p ps)
left_of_level p n ps own = without_all (λ q. q.level ≡ n) ps own
  where
    open_test : (P : Post → Type 0) (q : Post) (qs rest : List Post) → P q → AllByRecursion P qs → AllByRecursion P rest
        → (a b : Bool) → AllByRecursion P (cond a (q ∷ rest) (cond b qs (q ∷ qs)))
    open_test P q qs rest here all left true b = (here, left)
    open_test P q qs rest here all left false true = all
    open_test P q qs rest here all left false false = (here, all)

    without_all : (P : Post → Type 0) (qs : List Post) → AllByRecursion P qs → AllByRecursion P (without_post p qs)
    without_all P [] all = tt
    without_all P (q ∷ qs) all = open_test P q qs (without_post p qs) all.0 all.1 (without_all P qs all.1) _ _

-- no post of a level where there is no such level
pub taken_nowhere : (p : Post) (ls ms : List LevelOf) → AreLevels (ls ++ ms)
    → AllByRecursion (λ l. l.level < p.level) ls → AllByRecursion (λ m. p.level < m.level) ms
    → all_posts (ls ++ ms) ≡ without_post p (all_posts (ls ++ ms))
taken_nowhere p ls ms are below above =
    let own = all_second AreOfLevel ls ms are.stand.own in
    let apart = all_both (λ q. q.level ≡ p.level
    → ⊥) (all_posts ls) (all_posts ms) (apart_below p.level ls (own_first ls ms are.stand.own) below)
    (apart_above p.level ms own above) in
    let none = no_post p (all_posts ls ++ all_posts ms) (none_of_level p (all_posts ls ++ all_posts ms) apart) in
    rw (posts_both ls ms) (sym none)

-- how many there are
pub counted_there : (p : Post) (ls : List LevelOf) (l : LevelOf) (ms : List LevelOf)
    → length (all_posts (ls ++ l ∷ ms))
    ≡ length (all_posts (ls ++ record l { posts = without_post p l.posts } ∷ ms)) + cond
    (nat_lt (length (without_post p l.posts)) (length l.posts)) 1 0
counted_there p ls l ms =
    let k : LevelOf = record l { posts = without_post p l.posts } in
    let old : length (all_posts (ls ++ l ∷ ms)) ≡ length (all_posts ls) + (length l.posts + length (all_posts ms)) =
    ap length (posts_both ls (l ∷ ms)) ∙ length-append (all_posts ls) (l.posts ++ all_posts ms)
    ∙ ap (λ n. length (all_posts ls) + n) (length-append l.posts (all_posts ms)) in
    let new : length (all_posts (ls ++ k ∷ ms))
    ≡ length (all_posts ls) + (length (without_post p l.posts) + length (all_posts ms)) =
    ap length (posts_both ls (k ∷ ms)) ∙ length-append (all_posts ls) (without_post p l.posts ++ all_posts ms)
    ∙ ap (λ n. length (all_posts ls) + n) (length-append (without_post p l.posts) (all_posts ms)) in
    elim (one_at_most p l.posts) [
      | inl same ↦ let not : nat_lt (length (without_post p l.posts)) (length l.posts) ≡ false =
          le-ltb (length (without_post p l.posts)) (length l.posts) (omega arith) in rw not
          (omega (arith, old, new, same))
      | inr less ↦ let is : nat_lt (length (without_post p l.posts)) (length l.posts) ≡ true =
          lt-ltb (length (without_post p l.posts)) (length l.posts) (omega arith) in rw is
          (omega (arith, old, new, less))
    ]

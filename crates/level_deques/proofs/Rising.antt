-- Levels one after another, and their posts.
use Rattle.std.proofs.Common.{◌≡◌, ◌<◌, ℕ, ◌+◌, List, [], ◌∷◌, ◌++◌, length, take, drop, get_or, sym, ap, ◌∙◌, arith}
use Rattle.std.specs.List.{AllByRecursion}
use Rattle.std.proofs.lemmas.List.{drop_more, take-append-drop}
use Rattle.std.proofs.lemmas.List.Concat.{flat_map-append}
use Rattle.level_deques.specs.Levels.{AreOfLevel, AreRising, IsByLevel, LevelOf, all_posts}
use Rattle.level_deques.proofs.Lists.{all_both, all_first, all_second, all_since}
use Rattle.level_deques.proofs.Order.{by_level_both}

pub posts_both : (ls ms : List LevelOf) → all_posts (ls ++ ms) ≡ all_posts ls ++ all_posts ms
posts_both ls ms = flat_map-append (λ (l : LevelOf). l.posts) ls ms

-- what holds of the levels holds of those of the posts
pub each_post : (P : ℕ → Type 0) (ls : List LevelOf) → AllByRecursion AreOfLevel ls → AllByRecursion (λ l. P l.level) ls
    → AllByRecursion (λ q. P q.level) (all_posts ls)
each_post P [] own all = tt
each_post P (l ∷ ls) own all =
    all_both (λ q. P q.level) l.posts (all_posts ls)
    (all_since (λ q. q.level ≡ l.level) (λ q. P q.level) (λ q is. rw is all.0) l.posts own.0)
    (each_post P ls own.1 all.1)

-- the posts of rising levels stand by level
pub by_level_all : (ls : List LevelOf) → AllByRecursion AreOfLevel ls → AreRising ls → IsByLevel (all_posts ls)
by_level_all [] own rising = tt
by_level_all (l ∷ ls) own rising =
    by_level_both l.level l.posts (all_posts ls) own.0 (each_post (λ n. l.level < n) ls own.1 rising.0)
    (by_level_all ls own.1 rising.1)

-- one of rising levels
pub rising_second : (ls ms : List LevelOf) → AreRising (ls ++ ms) → AreRising ms
rising_second [] ms rising = rising
rising_second (l ∷ ls) ms rising = rising_second ls ms rising.1

pub below_it : (ls : List LevelOf) (k : LevelOf) (ms : List LevelOf) → AreRising (ls ++ k ∷ ms)
    → AllByRecursion (λ l. l.level < k.level) ls
below_it [] k ms rising = tt
below_it (l ∷ ls) k ms rising = (
  (all_second (λ m. l.level < m.level) ls (k ∷ ms) rising.0).0,
  below_it ls k ms rising.1,
)

pub above_it : (ls : List LevelOf) (k : LevelOf) (ms : List LevelOf) → AreRising (ls ++ k ∷ ms)
    → AllByRecursion (λ m. k.level < m.level) ms
above_it ls k ms rising = (rising_second ls (k ∷ ms) rising).0

pub without_it : (ls : List LevelOf) (k : LevelOf) (ms : List LevelOf) → AreRising (ls ++ k ∷ ms) → AreRising (ls ++ ms)
without_it [] k ms rising = rising.1
without_it (l ∷ ls) k ms rising = (
  all_both (λ m. l.level < m.level) ls ms (all_first (λ m. l.level < m.level) ls (k ∷ ms) rising.0)
      (all_second (λ m. l.level < m.level) ls (k ∷ ms) rising.0).1,
  without_it ls k ms rising.1,
)

pub with_it : (ls : List LevelOf) (k : LevelOf) (ms : List LevelOf) → AreRising (ls ++ ms)
    → AllByRecursion (λ l. l.level < k.level) ls → AllByRecursion (λ m. k.level < m.level) ms → AreRising (ls ++ k ∷ ms)
with_it [] k ms rising below above = (above, rising)
with_it (l ∷ ls) k ms rising below above = (
  all_both (λ m. l.level < m.level) ls (k ∷ ms) (all_first (λ m. l.level < m.level) ls ms rising.0)
      (below.0, all_second (λ m. l.level < m.level) ls ms rising.0),
  with_it ls k ms rising.1 below.1 above,
)

pub in_its_place : (ls : List LevelOf) (k m : LevelOf) (ms : List LevelOf) → AreRising (ls ++ k ∷ ms)
    → m.level ≡ k.level → AreRising (ls ++ m ∷ ms)
in_its_place ls k m ms rising same =
    with_it ls m ms (without_it ls k ms rising)
    (all_since (λ l. l.level < k.level) (λ l. l.level < m.level) (λ l less. omega arith) ls (below_it ls k ms rising))
    (all_since (λ l. k.level < l.level) (λ l. m.level < l.level) (λ l less. omega arith) ms (above_it ls k ms rising))

-- a list at one of its places
pub split_at : {X : Type 0} (xs : List X) (i : ℕ) (d : X) → i < length xs
    → xs ≡ take i xs ++ get_or xs i d ∷ drop (i + 1) xs
split_at xs i d within = sym (take-append-drop i xs) ∙ ap (λ ys. take i xs ++ ys) (drop_more xs i d within)

-- The order in which posts are kept: level by level.
use Rattle.std.specs.Prelude.{◌≡◌, ◌<◌, ◌≤◌, ℕ, List, [], ◌∷◌, length, take, drop, Option, None, Some}
use Rattle.std.specs.List.{AllByRecursion, flat_map}
use Rattle.level_deques.specs.declared.posts.Post.{Post}

-- by rising level
abbrev pub IsByLevel : List Post → Type 0
IsByLevel [] = Unit {0}
IsByLevel (p ∷ ps) = AllByRecursion (λ q. p.level ≤ q.level) ps × IsByLevel ps

-- the newest of some posts
abbrev pub newest : List Post → Option Post
newest [] = None
newest (p ∷ []) = Some p
newest (p ∷ q ∷ qs) = newest (q ∷ qs)

-- a level, and its posts, the newest last
pub record LevelOf : Type 0 where
  pub level : ℕ
  pub posts : List Post

-- the posts of some levels, one after another
abbrev pub all_posts : List LevelOf → List Post
all_posts levels = flat_map (λ l. l.posts) levels

-- each post of a level is of that level
abbrev pub AreOfLevel : LevelOf → Type 0
AreOfLevel l = AllByRecursion (λ p. p.level ≡ l.level) l.posts

-- a level has a post
abbrev pub HasPost : LevelOf → Type 0
HasPost l = l.posts ≡ [] → ⊥

-- by rising level, no two of them the same
abbrev pub AreRising : List LevelOf → Type 0
AreRising [] = Unit {0}
AreRising (l ∷ ls) = AllByRecursion (λ m. l.level < m.level) ls × AreRising ls

-- levels that rise, each with posts of its own
pub record StandByLevel (levels : List LevelOf) : Type 0 where
  pub own : AllByRecursion AreOfLevel levels
  pub rising : AreRising levels

-- the same, and each of them has a post
pub record AreLevels (levels : List LevelOf) : Type 0 where
  pub stand : StandByLevel levels
  pub some : AllByRecursion HasPost levels

-- levels in two parts: so many are less than a level, and the others aren't
pub record IsParted (level : ℕ) (levels : List LevelOf) (count : ℕ) : Type 0 where
  pub within : count ≤ length levels
  pub below : AllByRecursion (λ l. l.level < level) (take count levels)
  pub rest : AllByRecursion (λ l. level ≤ l.level) (drop count levels)

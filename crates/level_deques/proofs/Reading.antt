-- What is read of levels, and what is left of them by a test.
use Rattle.std.proofs.Common.{◌≡◌, ◌<◌, ◌≤◌, ℕ, suc, ◌+◌, ◌-◌, Bool, true, false, cond, nat_lt, List, [], ◌∷◌, ◌++◌, length, take, drop, set, get_or, insert, remove, reverse, slice_get, Option, None, Some, Bor, zero, refl, sym, ap, ◌∙◌, arith}
use Rattle.std.specs.List.{AllByRecursion, filter}
use Rattle.std.specs.Option.{option_copied}
use Rattle.std.specs.Slice.{IsGetResult}
use Rattle.std.proofs.lemmas.Bool.{lt-ltb, ltb-true}
use Rattle.std.proofs.lemmas.List.{append-nil, drop-set-lt, drop_all, drop_more, get_or-drop, get_or_default, length-append, length-reverse, length-set, reverse-append, set_split, take-append-drop, take-set, take_more, take_more_set}
use Rattle.std.proofs.lemmas.List.Elements.{filter-append}
use Rattle.level_deques.specs.declared.posts.Post.{Post}
use Rattle.level_deques.specs.Levels.{AreLevels, AreOfLevel, AreRising, HasPost, LevelOf, StandByLevel, all_posts, newest}
use Rattle.level_deques.specs.Posts.{deepest, is_post, is_posted, posted, shallowest, without_post}
use Rattle.level_deques.proofs.Keeping.{counted_there, empty_goes, left_of_level, levels_at, levels_without, posted_new, posted_there, taken_nowhere, taken_there}
use Rattle.level_deques.proofs.Lists.{all_both, all_first, all_second, all_since, filter_shorter, get_first, get_reversed, get_second}
use Rattle.level_deques.proofs.Order.{deepest_is, newest_second, shallowest_is}
use Rattle.level_deques.proofs.Rising.{below_it, by_level_all, each_post, in_its_place, posts_both}
use Rattle.level_deques.proofs.Taking.{without_at}

-- a list from one of its places on
from_here : {X : Type 0} (xs : List X) (i : ℕ) (x : X) → i < length xs → x ≡ get_or xs i x
    → drop i xs ≡ x ∷ drop (i + 1) xs
from_here xs i x within at = drop_more xs i x within ∙ ap (λ y. y ∷ drop (i + 1) xs) (sym at)

up_to_here : {X : Type 0} (xs : List X) (i : ℕ) (x : X) → i < length xs → x ≡ get_or xs i x
    → take (i + 1) xs ≡ take i xs ++ x ∷ []
up_to_here xs i x within at = take_more xs i x within ∙ ap (λ y. take i xs ++ y ∷ []) (sym at)

pub around : {X : Type 0} (xs : List X) (i : ℕ) (x : X) → i < length xs → x ≡ get_or xs i x
    → xs ≡ take i xs ++ x ∷ drop (i + 1) xs
around xs i x within at = sym (take-append-drop i xs) ∙ ap (λ ys. take i xs ++ ys) (from_here xs i x within at)

-- a list with another item at one of its places, or without it
next : (i : ℕ) → suc i ≡ i + 1
next i = omega arith

pub set_here : {X : Type 0} (xs : List X) (i : ℕ) (x : X) → i < length xs
    → set xs i x ≡ take i xs ++ x ∷ drop (i + 1) xs
set_here xs i x within = set_split xs i x within ∙ ap (λ n. take i xs ++ x ∷ drop n xs) (next i)

pub remove_here : {X : Type 0} (xs : List X) (i : ℕ) → remove xs i ≡ take i xs ++ drop (i + 1) xs
remove_here xs i = ap (λ n. take i xs ++ drop n xs) (next i)

-- the search for a level
pub rest_here : (n : ℕ) (ls : List LevelOf) (k i : ℕ) (l : LevelOf) → k ≡ i + 1 → i < length ls → l ≡ get_or ls i l
    → n ≤ l.level → AllByRecursion (λ m. n ≤ m.level) (drop k ls) → AllByRecursion (λ m. n ≤ m.level) (drop i ls)
rest_here n ls k i l more within at least rest = rw (from_here ls i l within at) (least, rw more at rest)

pub below_here : (n : ℕ) (ls : List LevelOf) (k i : ℕ) (l : LevelOf) → k ≡ i + 1 → i < length ls → l ≡ get_or ls i l
    → l.level < n → AreRising ls → AllByRecursion (λ m. m.level < n) (take k ls)
below_here n ls k i l more within at less rising =
    let split = around ls i l within at in
    let under = below_it (take i ls) l (drop (i + 1) ls) (by_list (take i ls ++ l ∷ drop (i + 1) ls) split) in
    rw more (rw (up_to_here ls i l within at)
    (all_both (λ m. m.level < n) (take i ls) (l ∷ [])
    (all_since (λ m. m.level < l.level) (λ m. m.level < n) (λ m is. omega arith) (take i ls) under) (less, tt)))
  where
    by_list : (ms : List LevelOf) → ls ≡ ms → AreRising ms
    by_list ms is = rw is at rising

-- the newest of equal posts is found
pub without_here : (p : Post) (xs ys : List Post) (i : ℕ) (q : Post) → i < length xs → q ≡ get_or xs i q
    → is_post p q ≡ true → is_posted p (drop (i + 1) xs) ≡ false → ys ≡ remove xs i → ys ≡ without_post p xs
without_here p xs ys i q within at is none same =
    same ∙ remove_here xs i ∙ sym (without_at p (take i xs) q (drop (i + 1) xs) is none)
    ∙ ap (without_post p) (sym (around xs i q within at))

-- the ends
some_newest : (ls ps : List Post) → (ps ≡ [] → ⊥) → newest (ls ++ (ps ++ [])) ≡ newest ps
some_newest ls [] some = absurd (some refl)
some_newest ls (p ∷ ps) some = ap (λ xs. newest (ls ++ xs)) (append-nil (p ∷ ps)) ∙ newest_second ls p ps

pub deepest_last : (ls : List LevelOf) (l : LevelOf) (i : ℕ) → AreLevels ls → i + 1 ≡ length ls → l ≡ get_or ls i l
    → newest l.posts ≡ deepest (all_posts ls)
deepest_last ls l i are last at =
    let split : ls ≡ take i ls ++ l ∷ [] =
    around ls i l (omega arith) at ∙ ap (λ ms. take i ls ++ l ∷ ms) (drop_all (i + 1) ls (omega arith)) in
    let whole : AreLevels (take i ls ++ l ∷ []) = by_list (take i ls ++ l ∷ []) split in
    let some = (all_second HasPost (take i ls) (l ∷ []) whole.some).0 in
    sym (some_newest (all_posts (take i ls)) l.posts some)
    ∙ ap newest (sym (posts_both (take i ls) (l ∷ [])))
    ∙ ap (λ ms. newest (all_posts ms)) (sym split)
    ∙ sym (deepest_is (all_posts ls) (by_level_all ls are.stand.own are.stand.rising))
  where
    by_list : (ms : List LevelOf) → ls ≡ ms → AreLevels ms
    by_list ms is = rw is at are

first_posts : (l : LevelOf) (ms : List LevelOf) (ps : List Post) → l.posts ≡ ps → AreLevels (l ∷ ms)
    → newest ps ≡ shallowest (ps ++ all_posts ms)
first_posts l ms [] is are = absurd (are.some.0 is)
first_posts l ms (p ∷ ps) is are =
    sym (shallowest_is l.level p ps (all_posts ms) (rw is at are.stand.own.0)
    (each_post (λ n. l.level < n) ms are.stand.own.1 are.stand.rising.0))

pub shallowest_first : (ls : List LevelOf) (l : LevelOf) → AreLevels ls → 0 < length ls → l ≡ get_or ls 0 l
    → newest l.posts ≡ shallowest (all_posts ls)
shallowest_first [] l are some at = absurd (search arith)
shallowest_first (m ∷ ms) l are some at = ap (λ k. newest k.posts) at ∙ first_posts m ms m.posts refl are

-- reading from the end on
posts_up_to : (ls : List LevelOf) (i : ℕ) (l : LevelOf) → i < length ls → l ≡ get_or ls i l
    → reverse (all_posts (take (i + 1) ls)) ≡ reverse l.posts ++ reverse (all_posts (take i ls))
posts_up_to ls i l within at =
    ap (λ ms. reverse (all_posts ms)) (up_to_here ls i l within at)
    ∙ ap reverse (posts_both (take i ls) (l ∷ []) ∙ ap (λ xs. all_posts (take i ls) ++ xs) (append-nil l.posts))
    ∙ reverse-append (all_posts (take i ls)) l.posts

pub read_here : (ls : List LevelOf) (k i : ℕ) (l : LevelOf) (index : ℕ) → k ≡ i + 1 → i < length ls → l ≡ get_or ls i l
    → index < length l.posts → slice_get l.posts (length l.posts - 1 - index)
    ≡ slice_get (reverse (all_posts (take k ls))) index
read_here ls k i l index more within at less =
    sym (get_reversed l.posts index less)
    ∙ sym (get_first (reverse l.posts) (reverse (all_posts (take i ls))) index (let same =
    length-reverse l.posts in omega arith))
    ∙ ap (λ xs. slice_get xs index) (sym (posts_up_to ls i l within at))
    ∙ ap (λ n. slice_get (reverse (all_posts (take n ls))) index) (sym more)

pub read_next : (ls : List LevelOf) (k i : ℕ) (l : LevelOf) (index : ℕ) → k ≡ i + 1 → i < length ls → l ≡ get_or ls i l
    → length l.posts ≤ index → slice_get (reverse (all_posts (take i ls))) (index - length l.posts)
    ≡ slice_get (reverse (all_posts (take k ls))) index
read_next ls k i l index more within at past =
    sym (get_second (reverse l.posts) (reverse (all_posts (take i ls))) index (index - length l.posts) (let same =
    length-reverse l.posts in omega arith))
    ∙ ap (λ xs. slice_get xs index) (sym (posts_up_to ls i l within at))
    ∙ ap (λ n. slice_get (reverse (all_posts (take n ls))) index) (sym more)

-- one level after another is tested
pub record Tested (test : Post → Bool) (old now : List LevelOf) (i : ℕ) : Type 0 where
  pub long : length now ≡ length old
  pub stand : StandByLevel now
  pub done : all_posts (take i now) ≡ filter test (all_posts (take i old))
  pub left : drop i now ≡ drop i old

pub tested_none : (test : Post → Bool) (ls : List LevelOf) → StandByLevel ls → Tested test ls ls 0
tested_none test ls stand = record { long = refl; stand = stand; done = refl; left = refl }

kept_all : {X : Type 0} (P : X → Type 0) (test : X → Bool) (xs : List X) → AllByRecursion P xs
    → AllByRecursion P (filter test xs)
kept_all P test [] all = tt
kept_all P test (x ∷ xs) all = by_test (kept_all P test xs all.1) (test x)
  where
    by_test : AllByRecursion P (filter test xs) → (b : Bool)
        → AllByRecursion P (cond b (x ∷ filter test xs) (filter test xs))
    by_test rest true = (all.0, rest)
    by_test rest false = rest

stand_at : (ls : List LevelOf) (l k : LevelOf) (ms : List LevelOf) → StandByLevel (ls ++ l ∷ ms) → k.level ≡ l.level
    → AreOfLevel k → StandByLevel (ls ++ k ∷ ms)
stand_at ls l k ms stand same own = record {
  own = all_both AreOfLevel ls (k ∷ ms) (all_first AreOfLevel ls (l ∷ ms) stand.own)
      (own, (all_second AreOfLevel ls (l ∷ ms) stand.own).1);
  rising = in_its_place ls l k ms stand.rising same;
}

abbrev pub tested_level : (Post → Bool) → LevelOf → LevelOf
tested_level test l = record l { posts = filter test l.posts }

pub tested_more : (test : Post → Bool) (old now : List LevelOf) (i : ℕ) (l : LevelOf) → i < length now
    → l ≡ get_or now i l → Tested test old now i → Tested test old (set now i (tested_level test l)) (i + 1)
tested_more test old now i l within at tested = record {
  long = length-set now i (tested_level test l) ∙ tested.long;
  stand = stands (take i now ++ l ∷ drop (i + 1) now) (around now i l within at);
  done =
      ap all_posts (take_more_set now i (tested_level test l) within)
      ∙ posts_both (take i now) (tested_level test l ∷ [])
      ∙ ap (λ xs. all_posts (take i now) ++ xs) (append-nil (filter test l.posts))
      ∙ ap (λ xs. xs ++ filter test l.posts) tested.done
      ∙ sym (filter-append test (all_posts (take i old)) l.posts)
      ∙ ap (filter test) (sym (posts_both (take i old) (l ∷ [])
      ∙ ap (λ xs. all_posts (take i old) ++ xs) (append-nil l.posts)))
      ∙ ap (λ ms. filter test (all_posts ms)) (sym (up_to_here old i l (omega (arith, tested.long, within)) old_at));
  left = drop-set-lt (i + 1) now i (tested_level test l) (omega arith) ∙ more;
}
  where
    first_of : (ls : List LevelOf) → get_or (drop i ls) 0 l ≡ get_or ls i l
    first_of ls = get_or-drop i ls 0 l ∙ ap (λ k. get_or ls k l) (omega arith)

    old_at : l ≡ get_or old i l
    old_at = at ∙ sym (first_of now) ∙ ap (λ xs. get_or xs 0 l) tested.left ∙ first_of old

    tail_of : {X : Type 0} → List X → List X
    tail_of [] = []
    tail_of (x ∷ xs) = xs

    more : drop (i + 1) now ≡ drop (i + 1) old
    more = ap tail_of (sym (from_here now i l within at) ∙ tested.left
        ∙ from_here old i l (omega (arith, tested.long, within)) old_at)

    stands : (ms : List LevelOf) → now ≡ ms → StandByLevel (set now i (tested_level test l))
    stands ms is =
        let stand : StandByLevel (take i now ++ l ∷ drop (i + 1) now) =
        by_list (take i now ++ l ∷ drop (i + 1) now) (around now i l within at) in
        let own = (all_second AreOfLevel (take i now) (l ∷ drop (i + 1) now) stand.own).0 in
        rw (set_here now i (tested_level test l) within)
        (stand_at (take i now) l (tested_level test l) (drop (i + 1) now) stand refl
        (kept_all (λ q. q.level ≡ l.level) test l.posts own))
      where
        by_list : (xs : List LevelOf) → now ≡ xs → StandByLevel xs
        by_list xs same = rw same at tested.stand

pub tested_all : (test : Post → Bool) (old now : List LevelOf) (i : ℕ) → length now ≤ i → Tested test old now i
    → all_posts now ≡ filter test (all_posts old)
tested_all test old now i past tested =
    ap all_posts (sym (whole now past)) ∙ tested.done
    ∙ ap (λ ms. filter test (all_posts ms)) (whole old (let same = tested.long in omega arith))
  where
    whole : (ls : List LevelOf) → length ls ≤ i → take i ls ≡ ls
    whole ls all = sym (append-nil (take i ls)) ∙ ap (λ xs. take i ls ++ xs) (sym (drop_all i ls all))
        ∙ take-append-drop i ls

-- how many are left so far
pub few_left : (test : Post → Bool) (old now : List LevelOf) (i : ℕ) → Tested test old now i
    → length (all_posts (take i now)) ≤ length (all_posts old)
few_left test old now i tested =
    let less = filter_shorter test (all_posts (take i old)) in
    let all : length (all_posts old) ≡ length (all_posts (take i old)) + length (all_posts (drop i old)) =
    ap (λ ms. length (all_posts ms)) (sym (take-append-drop i old)) ∙ ap length (posts_both (take i old) (drop i old))
    ∙ length-append (all_posts (take i old)) (all_posts (drop i old)) in
    let same : length (all_posts (take i now)) ≡ length (filter test (all_posts (take i old))) =
    ap length tested.done in
    omega arith

pub one_more_level : (ls : List LevelOf) (i : ℕ) (k : LevelOf) → i < length ls
    → length (all_posts (take (i + 1) (set ls i k))) ≡ length (all_posts (take i ls)) + length k.posts
one_more_level ls i k within =
    ap (λ ms. length (all_posts ms)) (take_more_set ls i k within)
    ∙ ap length (posts_both (take i ls) (k ∷ []) ∙ ap (λ xs. all_posts (take i ls) ++ xs) (append-nil k.posts))
    ∙ length-append (all_posts (take i ls)) k.posts

-- levels with no post go
abbrev pub has_posts : LevelOf → Bool
has_posts l = nat_lt 0 (length l.posts)

no_posts : (ps : List Post) → nat_lt 0 (length ps) ≡ false → ps ≡ []
no_posts [] none = refl
no_posts (p ∷ ps) none = let some : nat_lt 0 (length (p ∷ ps)) ≡ true = lt-ltb 0 (length (p ∷ ps)) (search arith) in cc

pub same_posts : (ls : List LevelOf) → all_posts (filter has_posts ls) ≡ all_posts ls
same_posts [] = refl
same_posts (l ∷ ls) = by_test (same_posts ls) (has_posts l) refl
  where
    by_test : all_posts (filter has_posts ls) ≡ all_posts ls → (b : Bool) → has_posts l ≡ b
        → all_posts (cond b (l ∷ filter has_posts ls) (filter has_posts ls)) ≡ all_posts (l ∷ ls)
    by_test rest true is = ap (λ xs. l.posts ++ xs) rest
    by_test rest false is = rest ∙ ap (λ xs. xs ++ all_posts ls) (sym (no_posts l.posts is))

rising_kept : (test : LevelOf → Bool) (ls : List LevelOf) → AreRising ls → AreRising (filter test ls)
rising_kept test [] rising = tt
rising_kept test (l ∷ ls) rising = by_test (rising_kept test ls rising.1) (test l)
  where
    by_test : AreRising (filter test ls) → (b : Bool) → AreRising (cond b (l ∷ filter test ls) (filter test ls))
    by_test rest true = (kept_all (λ m. l.level < m.level) test ls rising.0, rest)
    by_test rest false = rest

some_kept : (ls : List LevelOf) → AllByRecursion HasPost (filter has_posts ls)
some_kept [] = tt
some_kept (l ∷ ls) = by_test (some_kept ls) (has_posts l) refl
  where
    by_test : AllByRecursion HasPost (filter has_posts ls) → (b : Bool) → has_posts l ≡ b
        → AllByRecursion HasPost (cond b (l ∷ filter has_posts ls) (filter has_posts ls))
    by_test rest true is = (
      λ none. let no : nat_lt 0 (length l.posts) ≡ false =
          ap (λ ps. nat_lt 0 (length ps)) none in cc,
      rest,
    )
    by_test rest false is = rest

pub levels_kept : (ls : List LevelOf) → StandByLevel ls → AreLevels (filter has_posts ls)
levels_kept ls stand = record {
  stand = record { own = kept_all AreOfLevel has_posts ls stand.own; rising = rising_kept has_posts ls stand.rising };
  some = some_kept ls;
}

-- a post comes or goes at a place
pub record Changed (ps : List Post) (ls : List LevelOf) : Type 0 where
  pub posts : all_posts ls ≡ ps
  pub levels : AreLevels ls

by_levels : (P : List LevelOf → Type 0) (ls ms : List LevelOf) → ls ≡ ms → P ls → P ms
by_levels P ls ms is holds = rw is at holds

pub posted_here : (p : Post) (ls : List LevelOf) (i : ℕ) (l k : LevelOf) → AreLevels ls → i < length ls
    → l ≡ get_or ls i l → l.level ≡ p.level → k ≡ record l { posts = l.posts ++ p ∷ [] }
    → Changed (posted p (all_posts ls)) (set ls i k)
posted_here p ls i l k are within at same is =
    let split = around ls i l within at in
    let there = posted_there p (take i ls) l (drop (i + 1) ls)
    (by_levels AreLevels ls (take i ls ++ l ∷ drop (i + 1) ls) split are) same in
    let now : set ls i k ≡ take i ls ++ record l { posts = l.posts ++ p ∷ [] } ∷ drop (i + 1) ls =
    set_here ls i k within ∙ ap (λ m. take i ls ++ m ∷ drop (i + 1) ls) is in
    record {
      posts = ap all_posts now ∙ there.0 ∙ ap (λ ms. posted p (all_posts ms)) (sym split);
      levels = by_levels AreLevels (take i ls ++ record l { posts = l.posts ++ p ∷ [] } ∷ drop (i + 1) ls) (set ls i k)
          (sym now) there.1;
    }

pub posted_at_new : (p : Post) (ls : List LevelOf) (i : ℕ) (k : LevelOf) (new : List LevelOf) → AreLevels ls
    → AllByRecursion (λ l. l.level < p.level) (take i ls) → AllByRecursion (λ m. p.level < m.level) (drop i ls)
    → k ≡ record { level = p.level; posts = p ∷ [] } → new ≡ insert ls i k → Changed (posted p (all_posts ls)) new
posted_at_new p ls i k new are below above is same =
    let split = sym (take-append-drop i ls) in
    let there = posted_new p (take i ls) (drop i ls)
    (by_levels AreLevels ls (take i ls ++ drop i ls) split are) below above in
    let now : new ≡ take i ls ++ record { level = p.level; posts = p ∷ [] } ∷ drop i ls =
    same ∙ ap (λ m. take i ls ++ m ∷ drop i ls) is in
    record {
      posts = ap all_posts now ∙ there.0 ∙ ap (λ ms. posted p (all_posts ms)) (sym split);
      levels = by_levels AreLevels (take i ls ++ record { level = p.level; posts = p ∷ [] } ∷ drop i ls) new
          (sym now) there.1;
    }

-- what is left after a post was taken at a place: the levels, or those without the one that has
-- none any more
pub taken_here : (p : Post) (ls : List LevelOf) (i : ℕ) (l k : LevelOf) → AreLevels ls → i < length ls
    → l ≡ get_or ls i l → l.level ≡ p.level → k ≡ record l { posts = without_post p l.posts } → HasPost k
    → Changed (without_post p (all_posts ls)) (set ls i k)
taken_here p ls i l k are within at same is some =
    let split = around ls i l within at in
    let m : LevelOf = record l { posts = without_post p l.posts } in
    let whole = by_levels AreLevels ls (take i ls ++ l ∷ drop (i + 1) ls) split are in
    let now : set ls i k ≡ take i ls ++ m ∷ drop (i + 1) ls =
    set_here ls i k within ∙ ap (λ m. take i ls ++ m ∷ drop (i + 1) ls) is in
    let own = (all_second AreOfLevel (take i ls) (l ∷ drop (i + 1) ls) whole.stand.own).0 in
    record {
      posts = ap all_posts now ∙ taken_there p (take i ls) l (drop (i + 1) ls) whole same
          ∙ ap (λ ms. without_post p (all_posts ms)) (sym split);
      levels = by_levels AreLevels (take i ls ++ m ∷ drop (i + 1) ls) (set ls i k) (sym now)
          (levels_at (take i ls) l m (drop (i + 1) ls) whole refl (left_of_level p l.level l.posts own)
          (rw is at some));
    }

pub taken_last : (p : Post) (ls : List LevelOf) (i : ℕ) (l k : LevelOf) (new : List LevelOf) → AreLevels ls
    → i < length ls → l ≡ get_or ls i l → l.level ≡ p.level → k ≡ record l { posts = without_post p l.posts }
    → k.posts ≡ [] → new ≡ remove (set ls i k) i → Changed (without_post p (all_posts ls)) new
taken_last p ls i l k new are within at same is none gone =
    let split = around ls i l within at in
    let m : LevelOf = record l { posts = without_post p l.posts } in
    let whole = by_levels AreLevels ls (take i ls ++ l ∷ drop (i + 1) ls) split are in
    let now : new ≡ take i ls ++ drop (i + 1) ls =
    gone ∙ remove_here (set ls i k) i ∙ ap (λ ms. ms ++ drop (i + 1) (set ls i k)) (take-set ls i k)
    ∙ ap (λ ms. take i ls ++ ms) (drop-set-lt (i + 1) ls i k (omega arith)) in
    record {
      posts = ap all_posts now ∙ empty_goes (take i ls) m (drop (i + 1) ls) (rw is at none)
          ∙ taken_there p (take i ls) l (drop (i + 1) ls) whole same
          ∙ ap (λ ms. without_post p (all_posts ms)) (sym split);
      levels = by_levels AreLevels (take i ls ++ drop (i + 1) ls) new (sym now)
          (levels_without (take i ls) l (drop (i + 1) ls) whole);
    }

-- nothing is taken where there is no such level
pub taken_none : (p : Post) (ls : List LevelOf) (i : ℕ) → AreLevels ls
    → AllByRecursion (λ l. l.level < p.level) (take i ls) → AllByRecursion (λ m. p.level < m.level) (drop i ls)
    → all_posts ls ≡ without_post p (all_posts ls)
taken_none p ls i are below above =
    let split = sym (take-append-drop i ls) in
    ap all_posts split ∙ taken_nowhere p (take i ls) (drop i ls)
    (by_levels AreLevels ls (take i ls ++ drop i ls) split are) below above
    ∙ ap (λ ms. without_post p (all_posts ms)) (sym split)

-- how many are left
pub one_less : (p : Post) (ps qs : List Post) (len left : ℕ) (old : List Post) → ps ≡ without_post p old
    → left ≡ length (without_post p qs) → len ≡ length qs
    → length old ≡ length (without_post p old) + cond (nat_lt (length (without_post p qs)) (length qs)) 1 0
    → length old ≡ length ps + cond (nat_lt left len) 1 0
one_less p ps qs len left old is left_is len_is counted = rw is (rw left_is (rw len_is counted))

pub counted_here : (p : Post) (ls : List LevelOf) (i : ℕ) (l : LevelOf) → AreLevels ls → i < length ls
    → l ≡ get_or ls i l → l.level ≡ p.level
    → length (all_posts ls) ≡ length (without_post p (all_posts ls)) + cond
    (nat_lt (length (without_post p l.posts)) (length l.posts)) 1 0
counted_here p ls i l are within at same =
    let split = around ls i l within at in
    let whole = by_levels AreLevels ls (take i ls ++ l ∷ drop (i + 1) ls) split are in
    let there = taken_there p (take i ls) l (drop (i + 1) ls) whole same in
    ap (λ ms. length (all_posts ms)) split
    ∙ counted_there p (take i ls) l (drop (i + 1) ls)
    ∙ ap (λ ps. length ps + cond (nat_lt (length (without_post p l.posts)) (length l.posts)) 1 0) (there
    ∙ ap (λ ms. without_post p (all_posts ms)) (sym split))

-- a level of its parts
abbrev pub level_with : ℕ → List Post → LevelOf
level_with n ps = record { level = n; posts = ps }

pub same_level : (m n : ℕ) (xs ys zs : List Post) (p : Post) → m ≡ n → xs ≡ without_post p ys → ys ≡ zs
    → level_with m xs ≡ level_with n (without_post p zs)
same_level m n xs ys zs p level posts old = rw level (rw posts (rw old refl))

-- what is read at one place is the same
pub same_read : {X : Type 0} (xs : List X) (i : ℕ) (x y : X) → i < length xs → x ≡ get_or xs i x → y ≡ get_or xs i y
    → x ≡ y
same_read xs i x y within first second = first ∙ get_or_default xs i x y within ∙ sym second

-- the last item of a deque
newest_get : (p : Post) (ps : List Post) (k : ℕ) (d : Post) → k + 1 ≡ length (p ∷ ps)
    → newest (p ∷ ps) ≡ Some (get_or (p ∷ ps) k d)
newest_get p [] zero d last = refl
newest_get p [] (suc k) d last = absurd (search arith)
newest_get p (q ∷ qs) zero d last = absurd (search arith)
newest_get p (q ∷ qs) (suc k) d last = newest_get q qs k d (search arith)

pub newest_back : (xs : List Post) (n : ℕ) (r : Option (Bor Post)) → length xs ≡ n → IsGetResult xs 0 (n - 1) r
    → option_copied r ≡ newest xs
newest_back [] n None len is = refl
newest_back [] n (Some x) len is = let wrong = is.0 in cc
newest_back (p ∷ ps) n None len is = let some : nat_lt 0 (length (p ∷ ps)) ≡ true =
    lt-ltb 0 (length (p ∷ ps)) (search arith) in let none = is.0 in cc
newest_back (p ∷ ps) n (Some x) len is = ap Some is.1 ∙ sym (newest_get p ps (n - 1) x.now (omega arith))

-- how many posts there are
pub one_posted : (p : Post) (ps : List Post) → length (posted p ps) ≡ length ps + 1
one_posted p [] = refl
one_posted p (q ∷ qs) = by_test (one_posted p qs) (nat_lt p.level q.level)
  where
    by_test : length (posted p qs) ≡ length qs + 1 → (b : Bool)
        → length (cond b (p ∷ q ∷ qs) (q ∷ posted p qs)) ≡ length (q ∷ qs) + 1
    by_test rest true = omega arith
    by_test rest false = omega arith

pub one_more : (p : Post) (old new : List Post) (count next : ℕ) → count ≡ length old → next ≡ count + 1
    → new ≡ posted p old → next ≡ length new
one_more p old new count next counted more posts = omega (arith, one_posted p old, ap length posts)

-- the ends of a list that is lent
pub last_item : {X : Type 0} (xs ys : List X) (r : Option (Bor X)) (x : Bor X) → ys ≡ xs
    → IsGetResult ys 0 (length ys - 1) r → r ≡ Some x
    → (length xs - 1 + 1 ≡ length xs) × (x.now ≡ get_or xs (length xs - 1) x.now)
last_item xs ys r x same is some =
    let there : IsGetResult xs 0 (length xs - 1) (Some x) = rw same at (rw some at is) in
    let less = there.2 in
    (omega (arith, ltb-true 0 (length xs) (sym there.0)), there.1)

pub first_item : {X : Type 0} (xs ys : List X) (r : Option (Bor X)) (x : Bor X) → ys ≡ xs → IsGetResult ys 0 0 r
    → r ≡ Some x → (0 < length xs) × (x.now ≡ get_or xs 0 x.now)
first_item xs ys r x same is some =
    let there : IsGetResult xs 0 0 (Some x) = rw same at (rw some at is) in
    (ltb-true 0 (length xs) (sym there.0), there.1)

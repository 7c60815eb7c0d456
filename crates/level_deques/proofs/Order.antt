-- Posts by rising level.
use Rattle.std.proofs.Common.{◌≡◌, ℕ, ◌<◌, ◌≤◌, Bool, true, false, cond, List, [], ◌∷◌, ◌++◌, Option, None, Some, IfSome, refl, ap, ◌∙◌, arith}
use Rattle.std.specs.List.{AllByRecursion}
use Rattle.std.proofs.lemmas.Bool.{le-ltb, lt-ltb}
use Rattle.level_deques.specs.declared.posts.Post.{Post}
use Rattle.level_deques.specs.Levels.{IsByLevel, newest}
use Rattle.level_deques.specs.Posts.{newest_of, newest_by, deepest, goes_above, goes_below, posted, shallowest}
use Rattle.level_deques.proofs.Lists.{all_both, all_since}

-- posts of one level, and others of greater ones
pub by_level_both : (n : ℕ) (ps qs : List Post) → AllByRecursion (λ p. p.level ≡ n) ps
    → AllByRecursion (λ q. n < q.level) qs → IsByLevel qs → IsByLevel (ps ++ qs)
by_level_both n [] qs own above rise = rise
by_level_both n (p ∷ ps) qs own above rise = (
  all_both (λ q. p.level ≤ q.level) ps qs
      (all_since (λ q. q.level ≡ n) (λ q. p.level ≤ q.level) (λ q is. let here = own.0 in omega arith) ps own.1)
      (all_since (λ q. n < q.level) (λ q. p.level ≤ q.level) (λ q less. let here = own.0 in omega arith) qs above),
  by_level_both n ps qs own.1 above rise,
)

-- a post stands behind those of its level
pub posted_between : (p : Post) (xs ys : List Post) → AllByRecursion (λ q. q.level ≤ p.level) xs
    → AllByRecursion (λ q. p.level < q.level) ys → posted p (xs ++ ys) ≡ xs ++ p ∷ ys
posted_between p [] [] up above = refl
posted_between p [] (q ∷ qs) up above = ap (λ b. cond b (p ∷ q ∷ qs) (q ∷ posted p qs)) (lt-ltb p.level q.level above.0)
posted_between p (q ∷ qs) ys up above =
    ap (λ b. cond b (p ∷ q ∷ (qs ++ ys)) (q ∷ posted p (qs ++ ys))) (le-ltb p.level q.level up.0)
    ∙ ap (λ xs. q ∷ xs) (posted_between p qs ys up.1 above)

-- the newest of some posts is one of them
pub newest_is : (P : Post → Type 0) (ps : List Post) → AllByRecursion P ps → IfSome (newest ps) P
newest_is P [] all = tt
newest_is P (p ∷ []) all = all.0
newest_is P (p ∷ q ∷ qs) all = newest_is P (q ∷ qs) all.1

pub newest_some : (q : Post) (qs : List Post) → (p : Post) × (newest (q ∷ qs) ≡ Some p)
newest_some q [] = (q, refl)
newest_some q (r ∷ rs) = newest_some r rs

pub newest_second : (ps : List Post) (q : Post) (qs : List Post) → newest (ps ++ q ∷ qs) ≡ newest (q ∷ qs)
newest_second [] q qs = refl
newest_second (p ∷ []) q qs = refl
newest_second (p ∷ r ∷ rs) q qs = newest_second (r ∷ rs) q qs

-- the deepest is the newest of all
pub deepest_is : (ps : List Post) → IsByLevel ps → deepest ps ≡ newest ps
deepest_is [] rise = refl
deepest_is (p ∷ []) rise = refl
deepest_is (p ∷ q ∷ qs) rise = ap (newest_of goes_below p) (deepest_is (q ∷ qs) rise.1)
    ∙ by_newest (newest (q ∷ qs)) (newest_some q qs) (newest_is (λ r. p.level ≤ r.level) (q ∷ qs) rise.0)
  where
    by_newest : (o : Option Post) → (r : Post) × (o ≡ Some r) → IfSome o (λ r. p.level ≤ r.level)
        → newest_of goes_below p o ≡ o
    by_newest None (r, is) le = cc
    by_newest (Some r) there le = ap (λ b. cond b (Some p) (Some r)) (le-ltb r.level p.level le)

-- the shallowest is the newest of the first level
chosen_is : (P : Post → Type 0) (ps : List Post) → AllByRecursion P ps → IfSome (newest_by goes_above ps) P
chosen_is P [] all = tt
chosen_is P (p ∷ ps) all = by_choice (newest_by goes_above ps) (chosen_is P ps all.1)
  where
    by_test : (q : Post) (b : Bool) → P q → IfSome (cond b (Some p) (Some q)) P
    by_test q true is = all.0
    by_test q false is = is

    by_choice : (o : Option Post) → IfSome o P → IfSome (newest_of goes_above p o) P
    by_choice None is = all.0
    by_choice (Some q) is = by_test q (goes_above p q) is

pub shallowest_is : (n : ℕ) (p : Post) (ps qs : List Post) → AllByRecursion (λ r. r.level ≡ n) (p ∷ ps)
    → AllByRecursion (λ r. n < r.level) qs → shallowest ((p ∷ ps) ++ qs) ≡ newest (p ∷ ps)
shallowest_is n p [] qs own above = by_chosen (newest_by goes_above qs) (chosen_is (λ r. n < r.level) qs above)
  where
    by_chosen : (o : Option Post) → IfSome o (λ r. n < r.level) → newest_of goes_above p o ≡ Some p
    by_chosen None less = refl
    by_chosen (Some r) less = ap (λ b. cond b (Some p) (Some r))
        (lt-ltb p.level r.level (let here = own.0 in omega arith))
shallowest_is n p (q ∷ qs) rest own above =
    ap (newest_of goes_above p) (shallowest_is n q qs rest own.1 above)
    ∙ by_newest (newest (q ∷ qs)) (newest_some q qs) (newest_is (λ r. r.level ≡ n) (q ∷ qs) own.1)
  where
    by_newest : (o : Option Post) → (r : Post) × (o ≡ Some r) → IfSome o (λ r. r.level ≡ n)
        → newest_of goes_above p o ≡ o
    by_newest None (r, is) same = cc
    by_newest (Some r) there same = ap (λ b. cond b (Some p) (Some r))
        (le-ltb p.level r.level (let here = own.0 in omega arith))

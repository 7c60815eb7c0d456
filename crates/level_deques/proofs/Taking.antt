-- The newest of equal posts goes.
use Rattle.std.proofs.Common.{◌≡◌, ◌+◌, ◌&&◌, ◌||◌, Bool, true, false, cond, List, [], ◌∷◌, ◌++◌, length, refl, sym, ap, ◌∙◌, ◌⊎◌, inl, inr, arith}
use Rattle.std.specs.List.{AllByRecursion}
use Rattle.std.proofs.lemmas.Bool.{ne_eqb, or_parts}
use Rattle.level_deques.specs.declared.posts.Post.{Post}
use Rattle.level_deques.specs.Posts.{is_post, is_post_of, is_posted, without_post}

-- none of them is the post
pub no_post : (p : Post) (xs : List Post) → is_posted p xs ≡ false → without_post p xs ≡ xs
no_post p [] none = refl
no_post p (q ∷ qs) none =
    let parts = or_parts (is_post p q) (is_posted p qs) none in
    ap (λ b. cond b (q ∷ without_post p qs) (cond (is_post p q) qs (q ∷ qs))) parts.1
    ∙ ap (λ b. cond b qs (q ∷ qs)) parts.0

-- those of other levels
pub none_of_level : (p : Post) (xs : List Post) → AllByRecursion (λ q. q.level ≡ p.level → ⊥) xs
    → is_posted p xs ≡ false
none_of_level p [] others = refl
none_of_level p (q ∷ qs) others =
    ap (λ b. (b && is_post_of p.grant p.frame q) || is_posted p qs) (ne_eqb q.level p.level others.0)
    ∙ none_of_level p qs others.1

-- where it stands in two lists in a row
posted_first : (p : Post) (xs ys : List Post) → is_posted p ys ≡ false → is_posted p (xs ++ ys) ≡ is_posted p xs
posted_first p [] ys none = none
posted_first p (x ∷ xs) ys none = ap (λ b. is_post p x || b) (posted_first p xs ys none)

pub without_first : (p : Post) (xs ys : List Post) → is_posted p ys ≡ false
    → without_post p (xs ++ ys) ≡ without_post p xs ++ ys
without_first p [] ys none = no_post p ys none
without_first p (x ∷ xs) ys none = ap
    (λ b. cond b (x ∷ without_post p (xs ++ ys)) (cond (is_post p x) (xs ++ ys) (x ∷ (xs ++ ys))))
    (posted_first p xs ys none) ∙ by_rest (without_first p xs ys none) (is_posted p xs) (is_post p x)
  where
    by_rest : without_post p (xs ++ ys) ≡ without_post p xs ++ ys → (a b : Bool)
        → cond a (x ∷ without_post p (xs ++ ys)) (cond b (xs ++ ys) (x ∷ (xs ++ ys)))
        ≡ cond a (x ∷ without_post p xs) (cond b xs (x ∷ xs)) ++ ys
    by_rest rest true b = ap (λ zs. x ∷ zs) rest
    by_rest rest false true = refl
    by_rest rest false false = refl

posted_second : (p : Post) (xs ys : List Post) → is_posted p xs ≡ false → is_posted p (xs ++ ys) ≡ is_posted p ys
posted_second p [] ys none = refl
posted_second p (x ∷ xs) ys none =
    let parts = or_parts (is_post p x) (is_posted p xs) none in
    ap (λ b. b || is_posted p (xs ++ ys)) parts.0 ∙ posted_second p xs ys parts.1

pub without_second : (p : Post) (xs ys : List Post) → is_posted p xs ≡ false
    → without_post p (xs ++ ys) ≡ xs ++ without_post p ys
without_second p [] ys none = refl
without_second p (x ∷ xs) ys none =
    let parts = or_parts (is_post p x) (is_posted p xs) none in
    let rest = without_second p xs ys parts.1 in
    ap (λ b. cond b (x ∷ without_post p (xs ++ ys)) (cond (is_post p x) (xs ++ ys) (x ∷ (xs ++ ys))))
    (posted_second p xs ys parts.1)
    ∙ ap (λ b. cond (is_posted p ys) (x ∷ without_post p (xs ++ ys)) (cond b (xs ++ ys) (x ∷ (xs ++ ys)))) parts.0
    ∙ by_rest rest (is_posted p ys) refl
  where
    by_rest : without_post p (xs ++ ys) ≡ xs ++ without_post p ys → (b : Bool) → is_posted p ys ≡ b
        → cond b (x ∷ without_post p (xs ++ ys)) (x ∷ (xs ++ ys)) ≡ x ∷ (xs ++ without_post p ys)
    by_rest rest true is = ap (λ zs. x ∷ zs) rest
    by_rest rest false is = ap (λ zs. x ∷ (xs ++ zs)) (sym (no_post p ys is))

-- the newest that is the post
posted_at : (p : Post) (xs : List Post) (q : Post) (ys : List Post) → is_post p q ≡ true
    → is_posted p (xs ++ q ∷ ys) ≡ true
posted_at p [] q ys is = ap (λ b. b || is_posted p ys) is
posted_at p (x ∷ xs) q ys is = ap (λ b. is_post p x || b) (posted_at p xs q ys is) ∙ by_test (is_post p x)
  where
    by_test : (b : Bool) → (b || true) ≡ true
    by_test true = refl
    by_test false = refl

pub without_at : (p : Post) (xs : List Post) (q : Post) (ys : List Post) → is_post p q ≡ true → is_posted p ys ≡ false
    → without_post p (xs ++ q ∷ ys) ≡ xs ++ ys
without_at p [] q ys is none = ap (λ b. cond b (q ∷ without_post p ys) (cond (is_post p q) ys (q ∷ ys))) none
    ∙ ap (λ b. cond b ys (q ∷ ys)) is
without_at p (x ∷ xs) q ys is none =
    ap (λ b. cond b (x ∷ without_post p (xs ++ q ∷ ys)) (cond (is_post p x) (xs ++ q ∷ ys) (x ∷ (xs ++ q ∷ ys))))
    (posted_at p xs q ys is)
    ∙ ap (λ zs. x ∷ zs) (without_at p xs q ys is none)

-- one post goes at most
pub one_at_most : (p : Post) (xs : List Post)
    → (length (without_post p xs) ≡ length xs) ⊎ (length (without_post p xs) + 1 ≡ length xs)
one_at_most p [] = inl refl
one_at_most p (x ∷ xs) = by_tests (one_at_most p xs) (is_posted p xs) (is_post p x)
  where
    one_more : (length (without_post p xs) ≡ length xs) ⊎ (length (without_post p xs) + 1 ≡ length xs)
        → (length (x ∷ without_post p xs) ≡ length (x ∷ xs)) ⊎ (length (x ∷ without_post p xs) + 1 ≡ length (x ∷ xs))
    one_more (inl same) = inl (omega arith)
    one_more (inr less) = inr (omega arith)

    by_tests : (length (without_post p xs) ≡ length xs) ⊎ (length (without_post p xs) + 1 ≡ length xs) → (a b : Bool)
        → (length (cond a (x ∷ without_post p xs) (cond b xs (x ∷ xs))) ≡ length (x ∷ xs))
        ⊎ (length (cond a (x ∷ without_post p xs) (cond b xs (x ∷ xs))) + 1 ≡ length (x ∷ xs))
    by_tests rest true b = one_more rest
    by_tests rest false true = inr (omega arith)
    by_tests rest false false = inl refl

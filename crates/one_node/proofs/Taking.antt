-- The post that is taken is that of the frame that runs, which has no other.
use Rattle.std.proofs.Common.{◌≡◌, ◌≤◌, ◌<◌, ℕ, ◌+◌, ◌&&◌, ◌||◌, Bool, true, false, cond, not, nat_eq, List, [], ◌∷◌, Option, Some, None, refl, sym, ap, ◌∙◌, arith}
use Rattle.std.specs.List.{AllByRecursion, sum_by}
use Rattle.std.proofs.lemmas.Bool.{and_parts, eq-eqb, eqb-true}
use Rattle.std.proofs.lemmas.List.Sums.{sum_by-cons}
use Rattle.ids.specs.Naming.{name_of_frame}
use Rattle.ids.specs.Ordered.{AreInOrder}
use Rattle.ids.specs.declared.work.Frame.{Frame}
use Rattle.frames.specs.Frames.{frame_in}
use Rattle.level_deques.specs.declared.posts.Post.{Post}
use Rattle.level_deques.specs.Posts.{newest_of, deepest, goes_below, is_post, is_post_of, is_posted, withdrawn, without_post}
use Rattle.sub_rules.specs.Content.{is_ready}
use Rattle.sub_rules.specs.Debts.{one_if}
use Rattle.sub_rules.proofs.Sums.{part}
use Rattle.one_node.specs.Runs.{own_grant}
use Rattle.one_node.specs.Holding.{ArePosted, is_ready_at, names}
use Rattle.one_node.proofs.Posting.{counted}

-- the deepest post is one of the posts
itself : (p : Post) → is_post p p ≡ true
itself p = rw (
  eq-eqb p.level p.level refl,
  eq-eqb p.grant.minter p.grant.minter refl,
  eq-eqb p.grant.number p.grant.number refl,
  eq-eqb p.frame p.frame refl,
) refl

later : (b : Bool) → (b || true) ≡ true
later true = refl
later false = refl

deepest_posted : (posts : List Post) (p : Post) → deepest posts ≡ Some p → is_posted p posts ≡ true
deepest_posted [] p first = absurd cc
deepest_posted (q ∷ qs) p first = by_rest (deepest_posted qs p) (deepest qs) refl first
  where
    here : q ≡ p → is_posted p (q ∷ qs) ≡ true
    here same = ap (λ x. is_post p x || is_posted p qs) same ∙ ap (λ b. b || is_posted p qs) (itself p)

    by_test : (deepest qs ≡ Some p → is_posted p qs ≡ true) → (r : Post) → deepest qs ≡ Some r → (b : Bool)
        → cond b (Some q) (Some r) ≡ Some p → is_posted p (q ∷ qs) ≡ true
    by_test rest r is true at = let same : q ≡ p = cc in here same
    by_test rest r is false at = ap (λ b. is_post p q || b) (rest (is ∙ at)) ∙ later (is_post p q)

    by_rest : (deepest qs ≡ Some p → is_posted p qs ≡ true) → (o : Option Post) → deepest qs ≡ o
        → newest_of goes_below q o ≡ Some p → is_posted p (q ∷ qs) ≡ true
    by_rest rest None is at = let same : q ≡ p = cc in here same
    by_rest rest (Some r) is at = by_test rest r is (goes_below q r) at

-- posts of its frame
frame_of_post : (p q : Post) → is_post p q ≡ true → q.frame ≡ p.frame
frame_of_post p q is =
    let first = and_parts (nat_eq q.level p.level) (is_post_of p.grant p.frame q) is in
    let second = and_parts (nat_eq q.grant.minter p.grant.minter)
    (nat_eq q.grant.number p.grant.number && nat_eq q.frame p.frame) first.1 in
    let third = and_parts (nat_eq q.grant.number p.grant.number) (nat_eq q.frame p.frame) second.1 in
    eqb-true q.frame p.frame third.1

some_named : (p : Post) (posts : List Post) → is_posted p posts ≡ true → 0 < sum_by (names p.frame) posts
some_named p [] is = absurd cc
some_named p (q ∷ qs) is = by_post (some_named p qs) (is_post p q) refl is
  where
    by_post : (is_posted p qs ≡ true → 0 < sum_by (names p.frame) qs) → (b : Bool) → is_post p q ≡ b
        → (b || is_posted p qs) ≡ true → 0 < sum_by (names p.frame) (q ∷ qs)
    by_post rest true at any =
        let one : names p.frame q ≡ 1 = ap one_if (eq-eqb q.frame p.frame (frame_of_post p q at)) in
        omega (arith, sum_by-cons (names p.frame) q qs)
    by_post rest false at any =
        let more = rest any in
        omega (arith, sum_by-cons (names p.frame) q qs)

own_named : (n : ℕ) (q : Post) → q.grant ≡ own_grant → is_post_of own_grant n q ≡ nat_eq q.frame n
own_named n q own = ap (λ g. nat_eq g.minter own_grant.minter
    && (nat_eq g.number own_grant.number && nat_eq q.frame n)) own

-- where none is left, none is withdrawn
none_withdrawn : (n : ℕ) (posts : List Post) → AllByRecursion (λ p. p.grant ≡ own_grant) posts
    → sum_by (names n) posts ≡ 0 → withdrawn own_grant n posts ≡ posts
none_withdrawn n [] own none = refl
none_withdrawn n (q ∷ qs) own none = by_frame (none_withdrawn n qs own.1) (nat_eq q.frame n) refl
  where
    by_frame : (sum_by (names n) qs ≡ 0 → withdrawn own_grant n qs ≡ qs) → (b : Bool) → nat_eq q.frame n ≡ b
        → withdrawn own_grant n (q ∷ qs) ≡ q ∷ qs
    by_frame rest true is = absurd (let one : names n q ≡ 1 = ap one_if is in omega (arith, sum_by-cons (names n) q qs))
    by_frame rest false is =
        ap (λ b. cond (not b) (q ∷ withdrawn own_grant n qs) (withdrawn own_grant n qs)) (own_named n q own.0 ∙ is)
        ∙ ap (λ xs. q ∷ xs) (rest (omega (arith, sum_by-cons (names n) q qs)))

-- one post of the frame is taken as all are withdrawn
one_withdrawn : (p : Post) (posts : List Post) → AllByRecursion (λ q. q.grant ≡ own_grant) posts
    → is_posted p posts ≡ true → sum_by (names p.frame) posts ≤ 1
    → without_post p posts ≡ withdrawn own_grant p.frame posts
one_withdrawn p [] own there once = refl
one_withdrawn p (q ∷ qs) own there once = by_rest (one_withdrawn p qs own.1) (is_posted p qs) refl
  where
    by_rest : (is_posted p qs ≡ true → sum_by (names p.frame) qs ≤ 1
        → without_post p qs ≡ withdrawn own_grant p.frame qs) → (b : Bool) → is_posted p qs ≡ b
        → cond b (q ∷ without_post p qs) (cond (is_post p q) qs (q ∷ qs)) ≡ withdrawn own_grant p.frame (q ∷ qs)
    by_rest rest true is =
        let more = some_named p qs is in
        let other : nat_eq q.frame p.frame ≡ false = by_frame more (nat_eq q.frame p.frame) refl in
        ap (λ xs. q ∷ xs) (rest is (omega (arith, sum_by-cons (names p.frame) q qs)))
        ∙ sym (ap (λ b. cond (not b) (q ∷ withdrawn own_grant p.frame qs) (withdrawn own_grant p.frame qs))
        (own_named p.frame q own.0 ∙ other))
      where
        by_frame : 0 < sum_by (names p.frame) qs → (b : Bool) → nat_eq q.frame p.frame ≡ b → b ≡ false
        by_frame more true at = absurd (let one : names p.frame q ≡ 1 =
            ap one_if at in omega (arith, sum_by-cons (names p.frame) q qs))
        by_frame more false at = refl
    by_rest rest false is =
        let here : is_post p q ≡ true = by_first (is_post p q) refl (ap (λ b. is_post p q || b) (sym is) ∙ there) in
        let same : nat_eq q.frame p.frame ≡ true = eq-eqb q.frame p.frame (frame_of_post p q here) in
        let one : names p.frame q ≡ 1 = ap one_if same in
        ap (λ b. cond b qs (q ∷ qs)) here
        ∙ sym (ap (λ b. cond (not b) (q ∷ withdrawn own_grant p.frame qs) (withdrawn own_grant p.frame qs))
        (own_named p.frame q own.0 ∙ same)
        ∙ none_withdrawn p.frame qs own.1 (omega (arith, sum_by-cons (names p.frame) q qs)))
      where
        by_first : (b : Bool) → is_post p q ≡ b → (b || false) ≡ true → b ≡ true
        by_first true at any = refl
        by_first false at any = any

-- each frame is posted once at most
once : (n : ℕ) (frames : List Frame) (posts : List Post) → AreInOrder name_of_frame frames → ArePosted frames posts
    → sum_by (names n) posts ≤ 1
once n frames posts order are =
    let is = are.each n in
    let there = counted n frames order in
    let most = at_most (frame_in n frames) in
    omega arith
  where
    one : (b : Bool) → one_if b ≤ 1
    one true = search arith
    one false = search arith

    at_most : (o : Option Frame) → part name_of_frame (is_ready_at n) o ≤ 1
    at_most None = search arith
    at_most (Some f) = one (nat_eq f.number n && is_ready f)

pub taken_is : (frames : List Frame) (posts : List Post) (p : Post) → AreInOrder name_of_frame frames
    → ArePosted frames posts → deepest posts ≡ Some p → without_post p posts ≡ withdrawn own_grant p.frame posts
taken_is frames posts p order are first =
    one_withdrawn p posts are.own (deepest_posted posts p first) (once p.frame frames posts order are)

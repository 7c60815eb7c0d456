-- The frame that a node chooses is ready, and it chooses none only where none is.
use Rattle.std.proofs.Common.{◌≡◌, ℕ, Bool, true, false, nat_eq, List, [], ◌∷◌, cond, Option, Some, None, IsSome, refl, sym, ap, ◌∙◌, arith}
use Rattle.std.proofs.lemmas.Bool.{eq-eqb}
use Rattle.std.proofs.lemmas.List.Sums.{sum_by-cons}
use Rattle.ids.specs.Names.{Grant}
use Rattle.ids.specs.Place.{level_of}
use Rattle.level_deques.specs.declared.posts.Post.{Post}
use Rattle.level_deques.specs.Posts.{newest_of, goes_above, shallowest}
use Rattle.sub_rules.specs.Debts.{one_if}
use Rattle.node_state.specs.Node.{NodeOf}
use Rattle.node_state.specs.Parts.{ArePosts, is_post_at, is_same_post, times_posted}
use Rattle.node_state.specs.Posts.{ReadyFrame, ready_at}
use Rattle.node_state.proofs.Kept.{same_post}
use Rattle.node_steps.specs.Choosing.{IsCandidate, candidate_of, own_candidate}

-- of some posts one is chosen
none_posted : (posts : List Post) → shallowest posts ≡ None → posts ≡ []
none_posted [] none = refl
none_posted (p ∷ ps) none = by_rest (shallowest ps) none
  where
    by_test : (q : Post) (b : Bool) → cond b (Some p) (Some q) ≡ None → p ∷ ps ≡ []
    by_test q true at = absurd cc
    by_test q false at = absurd cc

    by_rest : (o : Option Post) → newest_of goes_above p o ≡ None → p ∷ ps ≡ []
    by_rest None at = absurd cc
    by_rest (Some q) at = by_test q (goes_above p q) at

-- the one that is chosen is posted
chosen_stands : (q : Post) (posts : List Post) → shallowest posts ≡ Some q → times_posted q posts ≡ 0 → ⊥
chosen_stands q [] first none = cc
chosen_stands q (p ∷ ps) first none = by_rest (chosen_stands q ps) (shallowest ps) refl first
  where
    here : p ≡ q → ⊥
    here same =
        let one : is_same_post q p ≡ 1 = ap (is_same_post q) same ∙ same_post q in
        absurd (omega (arith, sum_by-cons (is_same_post q) p ps))

    behind : times_posted q ps ≡ 0
    behind = omega (arith, sum_by-cons (is_same_post q) p ps)

    by_test : (r : Post) (b : Bool) → (shallowest ps ≡ Some q → times_posted q ps ≡ 0 → ⊥) → shallowest ps ≡ Some r
        → cond b (Some p) (Some r) ≡ Some q → ⊥
    by_test r true rest is at = here cc
    by_test r false rest is at = rest (is ∙ at) behind

    by_rest : (shallowest ps ≡ Some q → times_posted q ps ≡ 0 → ⊥) → (o : Option Post) → shallowest ps ≡ o
        → newest_of goes_above p o ≡ Some q → ⊥
    by_rest rest None is at = here cc
    by_rest rest (Some r) is at = by_test r (goes_above p r) rest is at

-- a frame that has a post is ready
ready_by : (p : Post) (o : Option ReadyFrame) → (is_post_at p o ≡ 0 → ⊥) → IsSome o
ready_by p None some = absurd (some refl)
ready_by p (Some f) some = refl

-- where there are no posts, no frame is ready
not_zero : (b : Bool) → b ≡ true → one_if b ≡ 0 → ⊥
not_zero true is zero = cc
not_zero false is zero = cc

unready_by : (g : Grant) (f : ℕ) (o : Option ReadyFrame) → ((p : Post) → p.grant ≡ g → p.frame ≡ f → is_post_at p o ≡ 0)
    → o ≡ None
unready_by g f None none = refl
unready_by g f (Some r) none =
    let level = level_of r.ready.frame.place in
    absurd (not_zero (nat_eq level level) (eq-eqb level level refl)
    (none (record { level = level; grant = g; frame = f }) refl refl))

pub own_may_be_chosen : (n : NodeOf) (posts : List Post) → ArePosts n posts → IsCandidate n (own_candidate posts)
own_may_be_chosen n posts are = by_post (shallowest posts) refl
  where
    unposted : shallowest posts ≡ None → (p : Post) → is_post_at p (ready_at n p.grant p.frame) ≡ 0
    unposted none p = sym (are.each p) ∙ ap (times_posted p) (none_posted posts none)

    by_post : (o : Option Post) → shallowest posts ≡ o → IsCandidate n (candidate_of o)
    by_post None is = λ g f. unready_by g f (ready_at n g f)
        (λ p grant frame. rw grant at (rw frame at (unposted is p)))
    by_post (Some p) is = ready_by p (ready_at n p.grant p.frame) (λ zero. chosen_stands p posts is (are.each p ∙ zero))

-- The posts are the ready frames, before a step and after it.
use Rattle.std.proofs.Common.{◌≡◌, ℕ, ◌+◌, ◌&&◌, Bool, true, false, nat_eq, nat_lt, List, [], ◌∷◌, cond, refl, sym, ap, ◌∙◌, inl, inr, arith}
use Rattle.std.specs.List.{filter, sum_by}
use Rattle.std.proofs.lemmas.List.Sums.{sum_by-cons}
use Rattle.std.proofs.lemmas.Bool.{eq-eqb}
use Rattle.std.proofs.lemmas.Bool.Decides.{eqb_tells}
use Rattle.ids.specs.Names.{Grant}
use Rattle.ids.specs.Naming.{name_of_grant}
use Rattle.level_deques.specs.declared.posts.Post.{Post}
use Rattle.level_deques.specs.Posts.{posted}
use Rattle.sub_rules.specs.Debts.{one_if}
use Rattle.sub_rules.specs.Readiness.{is_readied, times_listed}
use Rattle.sub_rules.specs.declared.change.Readied.{Readied}
use Rattle.subcomputation.specs.declared.sub.ReadiedOf.{ReadiedOf}
use Rattle.node_state.specs.Posts.{post_of, posted_all}
use Rattle.node_state.specs.Parts.{same_grant, is_same_post, times_posted, ready_of}

-- two posts are the same, or they differ
no_both : (a b : Bool) → (a && b) ≡ true → (a ≡ true) × (b ≡ true)
no_both true true is = (refl, refl)
no_both true false is = cc
no_both false b is = cc

same_number : (m n : ℕ) → nat_eq m n ≡ true → m ≡ n
same_number m n is = elim (eqb_tells m n) [
  | inl both ↦ both.1
  | inr both ↦ let not_so : nat_eq m n ≡ false = both.0 in cc
]

abbrev grant_named : ℕ → ℕ → Grant
grant_named a b = record { minter = a; number = b }

same_fields : (a b c d : ℕ) → a ≡ c → b ≡ d → grant_named a b ≡ grant_named c d
same_fields a b c d first second = cc

pub same_name : (g h : Grant) → same_grant g h ≡ true → g ≡ h
same_name g h is =
    let both = no_both (nat_eq g.minter h.minter) (nat_eq g.number h.number) is in
    same_fields g.minter g.number h.minter h.number (same_number g.minter h.minter both.0)
    (same_number g.number h.number both.1)

-- by their names
pub same_names : (g h : Grant) → name_of_grant g ≡ name_of_grant h → g ≡ h
same_names g h is = same_fields g.minter g.number h.minter h.number (ap (λ k. k.0) is) (ap (λ k. k.1) is)

pub grant_itself : (g : Grant) → same_grant g g ≡ true
grant_itself g = rw (eq-eqb g.minter g.minter refl) (eq-eqb g.number g.number refl)

pub differs : (g h : Grant) → same_grant g h ≡ false → g ≡ h → ⊥
differs g h apart is =
    let same : same_grant g g ≡ same_grant g h = ap (same_grant g) is in
    let itself = grant_itself g in
    cc

-- one more post
pub count_posted : (p q : Post) (posts : List Post)
    → times_posted p (posted q posts) ≡ is_same_post p q + times_posted p posts
count_posted p q [] = sum_by-cons (is_same_post p) q []
count_posted p q (r ∷ rs) = by_test (count_posted p q rs) (nat_lt q.level r.level)
  where
    by_test : times_posted p (posted q rs) ≡ is_same_post p q + times_posted p rs → (b : Bool)
        → times_posted p (cond b (q ∷ r ∷ rs) (r ∷ posted q rs)) ≡ is_same_post p q + times_posted p (r ∷ rs)
    by_test rest true = sum_by-cons (is_same_post p) q (r ∷ rs)
    by_test rest false = omega (arith, sum_by-cons (is_same_post p) r rs, sum_by-cons (is_same_post p) r (posted q rs))

-- more of them
abbrev pub count_ready : Post → List ReadiedOf → ℕ
count_ready p became = sum_by (λ r. is_same_post p (post_of r)) became

pub count_all_posted : (p : Post) (became : List ReadiedOf) (posts : List Post)
    → times_posted p (posted_all became posts) ≡ count_ready p became + times_posted p posts
count_all_posted p [] posts = omega arith
count_all_posted p (r ∷ rs) posts =
    let rest = count_all_posted p rs (posted (post_of r) posts) in
    let here = count_posted p (post_of r) posts in
    omega (arith, sum_by-cons (λ (x : ReadiedOf). is_same_post p (post_of x)) r rs)

-- the frame of a post
abbrev pub readied_of : Post → Readied
readied_of p = record { frame = p.frame; level = p.level }

-- of one subcomputation
pub count_told : (p : Post) (told : List Readied)
    → count_ready p (ready_of p.grant told) ≡ times_listed (readied_of p) told
count_told p [] = refl
count_told p (r ∷ rs) =
    let rest = count_told p rs in
    let here : is_same_post p (record { level = r.level; grant = p.grant; frame = r.frame })
    ≡ is_readied (readied_of p) r = rw (grant_itself p.grant) refl in
    omega (
      arith,
      sum_by-cons (λ (x : ReadiedOf). is_same_post p (post_of x)) (record { grant = p.grant; frame = r })
          (ready_of p.grant rs),
      sum_by-cons (is_readied (readied_of p)) r rs,
    )

-- of another
pub count_other : (p : Post) (g : Grant) (told : List Readied) → (p.grant ≡ g → ⊥) → count_ready p (ready_of g told) ≡ 0
count_other p g [] other = refl
count_other p g (r ∷ rs) other =
    let rest = count_other p g rs other in
    let here : is_same_post p (record { level = r.level; grant = g; frame = r.frame }) ≡ 0 =
    by_test (same_grant p.grant g) refl in
    omega (
      arith,
      sum_by-cons (λ (x : ReadiedOf). is_same_post p (post_of x)) (record { grant = g; frame = r })
          (ready_of g rs),
    )
  where
    by_test : (b : Bool) → same_grant p.grant g ≡ b
        → one_if (b && (nat_eq p.frame r.frame && nat_eq p.level r.level)) ≡ 0
    by_test true is = absurd (other (same_name p.grant g is))
    by_test false is = refl

-- those that stay by a test of their frames
count_if : (p q : Post) (t : Bool) (posts : List Post)
    → times_posted p (cond t (q ∷ posts) posts) ≡ cond t (is_same_post p q) 0 + times_posted p posts
count_if p q true posts = sum_by-cons (is_same_post p) q posts
count_if p q false posts = omega arith

same_tests : (p q : Post) (test : Grant → ℕ → Bool)
    → (same_grant p.grant q.grant && (nat_eq p.frame q.frame && nat_eq p.level q.level)) ≡ true
    → test q.grant q.frame ≡ test p.grant p.frame
same_tests p q test is =
    let both = no_both (same_grant p.grant q.grant) (nat_eq p.frame q.frame && nat_eq p.level q.level) is in
    let grant = same_name p.grant q.grant both.0 in
    let frame = same_number p.frame q.frame (no_both (nat_eq p.frame q.frame) (nat_eq p.level q.level) both.1).0 in
    rw grant (rw frame refl)

nothing_if : (b : Bool) → cond {A = ℕ} b 0 0 ≡ 0
nothing_if true = refl
nothing_if false = refl

kept_sum : (b tq tp : Bool) (n : ℕ) → (b ≡ true → tq ≡ tp)
    → cond tq (one_if b) 0 + cond tp n 0 ≡ cond tp (one_if b + n) 0
kept_sum true true true n same = refl
kept_sum true false false n same = refl
kept_sum true true false n same = let wrong : true ≡ false = same refl in cc
kept_sum true false true n same = let wrong : false ≡ true = same refl in cc
kept_sum false true true n same = refl
kept_sum false false false n same = refl
kept_sum false true false n same = refl
kept_sum false false true n same = refl

pub count_kept : (p : Post) (test : Grant → ℕ → Bool) (posts : List Post)
    → times_posted p (filter (λ q. test q.grant q.frame) posts) ≡ cond (test p.grant p.frame) (times_posted p posts) 0
count_kept p test [] = sym (nothing_if (test p.grant p.frame))
count_kept p test (q ∷ qs) =
    let rest = count_kept p test qs in
    let here = count_if p q (test q.grant q.frame) (filter (λ x. test x.grant x.frame) qs) in
    let sum = kept_sum (same_grant p.grant q.grant && (nat_eq p.frame q.frame && nat_eq p.level q.level))
    (test q.grant q.frame) (test p.grant p.frame) (times_posted p qs) (same_tests p q test) in
    let all : times_posted p (q ∷ qs) ≡ is_same_post p q + times_posted p qs = sum_by-cons (is_same_post p) q qs in
    here ∙ ap (λ n. cond (test q.grant q.frame) (is_same_post p q) 0 + n) rest ∙ sum
    ∙ sym (ap (λ n. cond (test p.grant p.frame) n 0) all)

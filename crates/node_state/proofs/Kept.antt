-- The posts stay the ready frames when a subcomputation comes, changes or goes.
use Rattle.std.proofs.Common.{◌≡◌, ℕ, ◌+◌, Bool, true, false, nat_eq, List, [], ◌∷◌, cond, Option, Some, None, is_some, refl, sym, ap, ◌∙◌, arith}
use Rattle.std.specs.List.{filter}
use Rattle.std.proofs.lemmas.List.Sums.{sum_by-cons}
use Rattle.std.proofs.lemmas.Bool.{eq-eqb}
use Rattle.ids.specs.Names.{Grant}
use Rattle.ids.specs.Naming.{name_of_grant}
use Rattle.ids.specs.Place.{level_of}
use Rattle.ids.proofs.Replacing.{put_is_found}
use Rattle.level_deques.specs.declared.posts.Post.{Post}
use Rattle.sub_rules.specs.Changes.{readied_in}
use Rattle.sub_rules.specs.Content.{Ready, ready_in}
use Rattle.sub_rules.specs.Debts.{one_if}
use Rattle.sub_rules.specs.Readiness.{times_listed}
use Rattle.sub_rules.specs.declared.change.Readied.{Readied}
use Rattle.sub_rules.specs.declared.content.Content.{Content}
use Rattle.subcomputation.specs.Subs.{SubOf, name_of_sub, put_sub, sub_in, without_sub}
use Rattle.subcomputation.specs.declared.sub.ReadiedOf.{ReadiedOf}
use Rattle.node_state.specs.Node.{NodeOf, by_state}
use Rattle.node_state.specs.Parts.{ArePosts, IsMember, is_post_at, is_same_post, same_grant, times_posted, ready_of}
use Rattle.node_state.specs.Posts.{ReadyFrame, live_subs, posted_all, posts_after, is_ready_post, ready_at, ready_of_sub}
use Rattle.node_state.specs.declared.parts.State.{State}
use Rattle.node_state.specs.declared.parts.State.TheVariants.{Joining, Member, Leaving, Ended}
use Rattle.subcomputation.proofs.Others.{put_other, without_itself, without_other}
use Rattle.node_state.proofs.Posting.{readied_of, count_all_posted, count_kept, count_other, count_ready, count_told, differs, grant_itself, same_name, same_names}

-- 1 where a frame is ready and stands at that level, else 0
abbrev pub stands : Readied → Option Ready → ℕ
stands r None = 0
stands r (Some x) = one_if (nat_eq r.level (level_of x.frame.place))

-- the ready frames of a content are listed once
abbrev pub IsListed : Content → Type 0
IsListed c = (r : Readied) → times_listed r (readied_in c.frames) ≡ stands r (ready_in r.frame c)

-- the ready frames of a subcomputation that may be there
abbrev pub times_in : Readied → Option SubOf → ℕ
times_in r None = 0
times_in r (Some s) = times_listed r (readied_in s.content.frames)

abbrev pub IsListedIn : Option SubOf → Type 0
IsListedIn None = Unit {0}
IsListedIn (Some s) = IsListed s.content

at_stands : (p : Post) (s : SubOf) (o : Option Ready) → ready_in p.frame s.content ≡ o
    → is_post_at p (ready_of_sub p.frame (Some s)) ≡ stands (readied_of p) o
at_stands p s None is = rw is refl
at_stands p s (Some x) is = rw is refl

pub at_times : (p : Post) (o : Option SubOf) → IsListedIn o
    → is_post_at p (ready_of_sub p.frame o) ≡ times_in (readied_of p) o
at_times p None listed = refl
at_times p (Some s) listed = at_stands p s (ready_in p.frame s.content) refl ∙ sym (listed (readied_of p))

-- whether it is ready
pub is_ready_there : (f : ℕ) (s : SubOf) → is_some (ready_of_sub f (Some s)) ≡ is_some (ready_in f s.content)
is_ready_there f s = by_ready (ready_in f s.content) refl
  where
    by_ready : (o : Option Ready) → ready_in f s.content ≡ o → is_some (ready_of_sub f (Some s)) ≡ is_some o
    by_ready None is = rw is refl
    by_ready (Some x) is = rw is refl

-- how often a post stands after a step
pub counted : (m : NodeOf) (became : List ReadiedOf) (posts : List Post) (p : Post)
    → times_posted p (posts_after m became posts)
    ≡ cond (is_some (ready_at m p.grant p.frame)) (count_ready p became + times_posted p posts) 0
counted m became posts p =
    count_kept p (λ g f. is_some (ready_at m g f)) (posted_all became posts)
    ∙ ap (λ k. cond (is_some (ready_at m p.grant p.frame)) k 0) (count_all_posted p became posts)

-- a post of a subcomputation that stays
pub as_before : (p : Post) (o : Option ReadyFrame) → cond (is_some o) (0 + is_post_at p o) 0 ≡ is_post_at p o
as_before p None = refl
as_before p (Some f) = omega arith

no_sub : (p : Post) (n : ℕ) → cond (is_some (ready_of_sub p.frame None)) n 0 ≡ is_post_at p (ready_of_sub p.frame None)
no_sub p n = refl

-- a subcomputation takes the place of what was there under its grant
pub record Comes (n m : NodeOf) (s : SubOf) (before : Option SubOf) (told : List Readied) : Type 0 where
  pub subs : live_subs m ≡ put_sub s (live_subs n)
  pub was : sub_in s.grant (live_subs n) ≡ before
  pub ready : (r : Readied) → times_listed r (readied_in s.content.frames)
      ≡ cond (is_some (ready_in r.frame s.content)) (times_listed r told + times_in r before) 0
  pub listed : IsListed s.content
  pub listed_before : IsListedIn before

pub after_coming : (n m : NodeOf) (s : SubOf) (before : Option SubOf) (told : List Readied) (posts : List Post)
    → Comes n m s before told → ArePosts n posts → ArePosts m (posts_after m (ready_of s.grant told) posts)
after_coming n m s before told posts comes are = record { each = λ p. by_grant p (same_grant p.grant s.grant) refl }
  where
    there : sub_in s.grant (live_subs m) ≡ Some s
    there = ap (sub_in s.grant) comes.subs ∙ put_is_found name_of_sub s (live_subs n)

    same : (p : Post) → p.grant ≡ s.grant
        → times_posted p (posts_after m (ready_of s.grant told) posts) ≡ is_post_at p (ready_at m p.grant p.frame)
    same p is =
        let now : sub_in p.grant (live_subs m) ≡ Some s = ap (λ g. sub_in g (live_subs m)) is ∙ there in
        let old : sub_in p.grant (live_subs n) ≡ before = ap (λ g. sub_in g (live_subs n)) is ∙ comes.was in
        let listed_told : count_ready p (ready_of s.grant told) ≡ times_listed (readied_of p) told =
        ap (λ g. count_ready p (ready_of g told)) (sym is) ∙ count_told p told in
        let posted : times_posted p posts ≡ times_in (readied_of p) before =
        are.each p ∙ ap (λ o. is_post_at p (ready_of_sub p.frame o)) old ∙ at_times p before comes.listed_before in
        let sum : count_ready p (ready_of s.grant told) + times_posted p posts
        ≡ times_listed (readied_of p) told + times_in (readied_of p) before = omega arith in
        counted m (ready_of s.grant told) posts p
        ∙ ap (λ k. cond (is_some (ready_at m p.grant p.frame)) k 0) sum
        ∙ ap (λ o. cond (is_some (ready_of_sub p.frame o))
        (times_listed (readied_of p) told + times_in (readied_of p) before) 0) now
        ∙ ap (λ b. cond b (times_listed (readied_of p) told + times_in (readied_of p) before) 0)
        (is_ready_there p.frame s)
        ∙ sym (comes.ready (readied_of p))
        ∙ sym (at_times p (Some s) comes.listed)
        ∙ sym (ap (λ o. is_post_at p (ready_of_sub p.frame o)) now)

    other : (p : Post) → (p.grant ≡ s.grant → ⊥)
        → times_posted p (posts_after m (ready_of s.grant told) posts) ≡ is_post_at p (ready_at m p.grant p.frame)
    other p apart =
        let now : sub_in p.grant (live_subs m) ≡ sub_in p.grant (live_subs n) =
        ap (sub_in p.grant) comes.subs ∙ put_other name_of_sub (name_of_grant p.grant) s (live_subs n)
        (λ is. apart (same_names p.grant s.grant is)) in
        let none = count_other p s.grant told apart in
        let sum : count_ready p (ready_of s.grant told) + times_posted p posts
        ≡ 0 + is_post_at p (ready_at n p.grant p.frame) = let here = are.each p in omega arith in
        counted m (ready_of s.grant told) posts p
        ∙ ap (λ k. cond (is_some (ready_at m p.grant p.frame)) k 0) sum
        ∙ ap (λ o. cond (is_some (ready_of_sub p.frame o)) (0 + is_post_at p (ready_at n p.grant p.frame)) 0) now
        ∙ as_before p (ready_at n p.grant p.frame)
        ∙ sym (ap (λ o. is_post_at p (ready_of_sub p.frame o)) now)

    by_grant : (p : Post) (b : Bool) → same_grant p.grant s.grant ≡ b
        → times_posted p (posts_after m (ready_of s.grant told) posts) ≡ is_post_at p (ready_at m p.grant p.frame)
    by_grant p true is = same p (same_name p.grant s.grant is)
    by_grant p false is = other p (λ at. differs p.grant s.grant is at)

-- a subcomputation goes
pub after_going : (n m : NodeOf) (g : Grant) (posts : List Post) → live_subs m ≡ without_sub g (live_subs n)
    → ArePosts n posts → ArePosts m (posts_after m [] posts)
after_going n m g posts subs are = record { each = λ p. by_grant p (same_grant p.grant g) refl }
  where
    same : (p : Post) → p.grant ≡ g → times_posted p (posts_after m [] posts)
        ≡ is_post_at p (ready_at m p.grant p.frame)
    same p is =
        let now : sub_in p.grant (live_subs m) ≡ None =
        ap (λ k. sub_in k (live_subs m)) is ∙ ap (sub_in g) subs
        ∙ without_itself name_of_sub (name_of_grant g) (live_subs n) in
        counted m [] posts p
        ∙ ap (λ o. cond (is_some (ready_of_sub p.frame o)) (count_ready p [] + times_posted p posts) 0) now
        ∙ sym (ap (λ o. is_post_at p (ready_of_sub p.frame o)) now)

    other : (p : Post) → (p.grant ≡ g → ⊥)
        → times_posted p (posts_after m [] posts) ≡ is_post_at p (ready_at m p.grant p.frame)
    other p apart =
        let now : sub_in p.grant (live_subs m) ≡ sub_in p.grant (live_subs n) =
        ap (sub_in p.grant) subs ∙ without_other name_of_sub (name_of_grant p.grant) (name_of_grant g) (live_subs n)
        (λ is. apart (same_names p.grant g is)) in
        let sum : count_ready p [] + times_posted p posts ≡ 0 + is_post_at p (ready_at n p.grant p.frame) = let here =
        are.each p in omega arith in
        counted m [] posts p
        ∙ ap (λ k. cond (is_some (ready_at m p.grant p.frame)) k 0) sum
        ∙ ap (λ o. cond (is_some (ready_of_sub p.frame o)) (0 + is_post_at p (ready_at n p.grant p.frame)) 0) now
        ∙ as_before p (ready_at n p.grant p.frame)
        ∙ sym (ap (λ o. is_post_at p (ready_of_sub p.frame o)) now)

    by_grant : (p : Post) (b : Bool) → same_grant p.grant g ≡ b
        → times_posted p (posts_after m [] posts) ≡ is_post_at p (ready_at m p.grant p.frame)
    by_grant p true is = same p (same_name p.grant g is)
    by_grant p false is = other p (λ at. differs p.grant g is at)

-- nothing is held, or is frozen
pub with_nothing : (m : NodeOf) → live_subs m ≡ [] → ArePosts m []
with_nothing m none = record {
  each = λ p. sym (ap (λ subs. is_post_at p (ready_of_sub p.frame (sub_in p.grant subs))) none);
}

-- posts that are those of ready frames all stay
pub same_post : (q : Post) → is_same_post q q ≡ 1
same_post q = rw (itself q.grant) (rw (eq-eqb q.frame q.frame refl) (rw (eq-eqb q.level q.level refl) refl))
  where
    itself : (g : Grant) → same_grant g g ≡ true
    itself g = grant_itself g

pub all_stay : (test : Post → Bool) (posts : List Post) → ((p : Post) → (times_posted p posts ≡ 0 → ⊥) → test p ≡ true)
    → filter test posts ≡ posts
all_stay test [] h = refl
all_stay test (q ∷ qs) h =
    let here : test q ≡ true = h q (λ none. let one = same_post q in let sum =
    sum_by-cons (is_same_post q) q qs in omega arith) in
    let rest = all_stay test qs (λ p some.
    h p (λ none. some (let sum = sum_by-cons (is_same_post p) q qs in omega arith))) in
    ap (λ b. cond b (q ∷ filter test qs) (filter test qs)) here ∙ ap (λ xs. q ∷ xs) rest

pub is_there : (p : Post) (o : Option ReadyFrame) → (is_post_at p o ≡ 0 → ⊥) → is_some o ≡ true
is_there p None some = absurd (some refl)
is_there p (Some f) some = refl

pub none_goes : (m : NodeOf) (posts : List Post) → ArePosts m posts → posts_after m [] posts ≡ posts
none_goes m posts are = all_stay (is_ready_post m) posts
    (λ p some. is_there p (ready_at m p.grant p.frame) (λ none. some (are.each p ∙ none)))

-- the same subcomputations
pub with_the_same : (n m : NodeOf) (posts : List Post) → live_subs m ≡ live_subs n → ArePosts n posts → ArePosts m posts
with_the_same n m posts same are = record {
  each = λ p. are.each p ∙ sym (ap (λ subs. is_post_at p (ready_of_sub p.frame (sub_in p.grant subs))) same);
}

-- what isn't frozen at a member is all that it holds
live_by : (st : State) (subs : List SubOf) → IsMember st → by_state st [] (λ r. subs) (λ r heir. []) [] ≡ subs
unfolding by_state
live_by Joining subs is = absurd is
live_by (Member r) subs is = refl
live_by (Leaving r heir) subs is = absurd is
live_by Ended subs is = absurd is

pub member_holds : (n : NodeOf) → IsMember n.state → live_subs n ≡ n.subs
member_holds n is = live_by n.state n.subs is

-- What holds of a node's parts is kept by a recovery.
use Rattle.std.proofs.Common.{◌≡◌, ◌&&◌, ◌+◌, Bool, true, false, nat_eq, List, [], ◌∷◌, cond, Option, Some, None, is_some, refl, sym, ap, ◌∙◌, arith}
use Rattle.std.specs.List.{filter}
use Rattle.std.proofs.lemmas.List.Sums.{sum_by-cons}
use Rattle.ids.specs.Names.{Grant}
use Rattle.codec.specs.declared.body.Roster.{Roster}
use Rattle.level_deques.specs.declared.posts.Post.{Post}
use Rattle.task_tree.specs.declared.tree.Program.{Program}
use Rattle.sub_rules.specs.Changes.{readied_in}
use Rattle.sub_rules.specs.Debts.{one_if}
use Rattle.sub_rules.specs.Readiness.{is_readied, times_listed}
use Rattle.sub_rules.specs.declared.change.Readied.{Readied}
use Rattle.steal_protocol.specs.Requests.{AskerOf}
use Rattle.subcomputation.specs.Fitting.{Fits}
use Rattle.subcomputation.specs.Recovering.{Recovery, recovered}
use Rattle.subcomputation.specs.Subs.{SubOf, grants_of_subs, sub_in}
use Rattle.subcomputation.specs.declared.sub.ReadiedOf.{ReadiedOf}
use Rattle.recovery.specs.Told.{AreWhole, IsLeft, told_of}
use Rattle.recovery.specs.Told as told
use Rattle.recovery.proofs.Following.{Follows, found_whole, recovered_follows, recovered_left}
use Rattle.node_state.specs.Assemblies.{AssemblyOf, of_living}
use Rattle.node_state.specs.Node.{NodeOf}
use Rattle.node_state.specs.Parts.{AreParts, ArePosts, IsMember, PartsOf, is_post_at, is_same_post, same_grant, times_posted, with_posts}
use Rattle.node_state.specs.Posts.{live_subs, post_of, posted_all, posts_after, ready_at, ready_of_sub}
use Rattle.node_state.specs.declared.parts.State.TheVariants.{Member}
use Rattle.node_state.proofs.Keeping.{is_listed, posts_view}
use Rattle.node_state.proofs.Kept.{IsListed, at_times, counted, is_ready_there, member_holds}
use Rattle.node_state.proofs.Posting.{count_ready, differs, grant_itself, readied_of, same_name}

-- posts of a grant's frames, among frames of any grants
one_told : (p : Post) (x : ReadiedOf) (rest : List Readied) (b : Bool) → same_grant p.grant x.grant ≡ b
    → times_listed (readied_of p) (cond (told.same_grant x.grant p.grant) (x.frame ∷ rest) rest)
    ≡ is_same_post p (post_of x) + times_listed (readied_of p) rest
one_told p x rest true is =
    let same : p.grant ≡ x.grant = same_name p.grant x.grant is in
    let told_too : told.same_grant x.grant p.grant ≡ true = ap (told.same_grant x.grant) same ∙ grant_itself x.grant in
    let here : is_same_post p (post_of x) ≡ is_readied (readied_of p) x.frame =
    ap (λ b. one_if (b && (nat_eq p.frame x.frame.frame && nat_eq p.level x.frame.level))) is in
    ap (λ b. times_listed (readied_of p) (cond b (x.frame ∷ rest) rest)) told_too
    ∙ omega (arith, sum_by-cons (is_readied (readied_of p)) x.frame rest)
one_told p x rest false is = by_told (told.same_grant x.grant p.grant) refl
  where
    nothing : is_same_post p (post_of x) ≡ 0
    nothing = ap (λ b. one_if (b && (nat_eq p.frame x.frame.frame && nat_eq p.level x.frame.level))) is

    by_told : (b : Bool) → told.same_grant x.grant p.grant ≡ b
        → times_listed (readied_of p) (cond b (x.frame ∷ rest) rest)
        ≡ is_same_post p (post_of x) + times_listed (readied_of p) rest
    by_told true at = absurd (differs p.grant x.grant is (sym (same_name x.grant p.grant at)))
    by_told false at = omega (arith, nothing)

-- of all frames that are told
count_told_of : (p : Post) (again : List ReadiedOf)
    → count_ready p again ≡ times_listed (readied_of p) (told_of p.grant again)
count_told_of p [] = refl
count_told_of p (x ∷ xs) =
    let rest = count_told_of p xs in
    let here = one_told p x (told_of p.grant xs) (same_grant p.grant x.grant) refl in
    omega (arith, sum_by-cons (λ (y : ReadiedOf). is_same_post p (post_of y)) x xs)

-- what a recovery leaves of what isn't frozen
pub record Recovers (n m : NodeOf) (again : List ReadiedOf) : Type 0 where
  pub left : (g : Grant) (s : SubOf) → sub_in g (live_subs m) ≡ Some s → IsLeft g (live_subs n) s again
  pub listed : (g : Grant) (s : SubOf) → sub_in g (live_subs m) ≡ Some s → IsListed s.content
  pub listed_before : (g : Grant) (s : SubOf) → sub_in g (live_subs n) ≡ Some s → IsListed s.content

-- the posts stay the ready frames
pub after_recovery : (n m : NodeOf) (again : List ReadiedOf) (posts : List Post) → Recovers n m again → ArePosts n posts
    → ArePosts m (posts_after m again posts)
after_recovery n m again posts recovers are = record { each = λ p. by_sub p (sub_in p.grant (live_subs m)) refl }
  where
    by_sub : (p : Post) (o : Option SubOf) → sub_in p.grant (live_subs m) ≡ o
        → times_posted p (posts_after m again posts) ≡ is_post_at p (ready_at m p.grant p.frame)
    by_sub p None now =
        counted m again posts p
        ∙ ap (λ o. cond (is_some (ready_of_sub p.frame o)) (count_ready p again + times_posted p posts) 0) now
        ∙ sym (ap (λ o. is_post_at p (ready_of_sub p.frame o)) now)
    by_sub p (Some s) now =
        let left = recovers.left p.grant s now in
        let listed_told = count_told_of p again in
        let posted : times_posted p posts ≡ times_listed (readied_of p) (readied_in left.was.content.frames) =
        are.each p ∙ ap (λ o. is_post_at p (ready_of_sub p.frame o)) left.there
        ∙ at_times p (Some left.was) (recovers.listed_before p.grant left.was left.there) in
        let sum : count_ready p again + times_posted p posts
        ≡ times_listed (readied_of p) (told_of p.grant again) + times_listed (readied_of p)
        (readied_in left.was.content.frames) = omega arith in
        counted m again posts p
        ∙ ap (λ k. cond (is_some (ready_at m p.grant p.frame)) k 0) sum
        ∙ ap (λ o. cond (is_some (ready_of_sub p.frame o))
        (times_listed (readied_of p) (told_of p.grant again) + times_listed (readied_of p)
        (readied_in left.was.content.frames)) 0) now
        ∙ ap (λ b. cond b (times_listed (readied_of p) (told_of p.grant again) + times_listed (readied_of p)
        (readied_in left.was.content.frames)) 0) (is_ready_there p.frame s)
        ∙ sym (left.ready.each (readied_of p))
        ∙ sym (at_times p (Some s) (recovers.listed p.grant s now))
        ∙ sym (ap (λ o. is_post_at p (ready_of_sub p.frame o)) now)

-- a member after a recovery
abbrev pub recovery_of : NodeOf → Roster → Recovery
recovery_of n r = recovered r.members (grants_of_subs n.subs) n.subs

-- the node after it
abbrev pub recovered_node : NodeOf → Roster → AskerOf → NodeOf
recovered_node n r asker = record n {
  state = Member r;
  subs = (recovery_of n r).subs;
  asker = asker;
  assemblies = of_living r.members n.assemblies;
}

module _ (n : NodeOf) (r : Roster) (asker : AskerOf) (member : IsMember n.state) (whole : AreWhole n.subs) where
  follows : Follows n.subs (recovery_of n r).subs (recovery_of n r).again
  follows = recovered_follows r.members (grants_of_subs n.subs) n.subs whole

  -- what it holds then
  held_after : live_subs (recovered_node n r asker) ≡ (recovery_of n r).subs
  held_after = member_holds (recovered_node n r asker) tt

  -- what is left was there
  pub left_of : (g : Grant) (s : SubOf) → sub_in g (recovery_of n r).subs ≡ Some s
      → IsLeft g n.subs s (recovery_of n r).again
  left_of = recovered_left r.members n.subs whole

  -- of what is left is told what became ready
  recovers : Recovers n (recovered_node n r asker) (recovery_of n r).again
  recovers = record {
    left = λ g s there. rw (member_holds n member) (left_of g s (rw held_after at there));
    listed = λ g s there. is_listed s.content
        (found_whole g s (recovery_of n r).subs follows.whole (rw held_after at there)).frames;
    listed_before = λ g s there. is_listed s.content
        (found_whole g s n.subs whole (rw (member_holds n member) at there)).frames;
  }

  -- what holds of its parts is kept
  pub recovered_parts : (posts : List Post) → AreParts (record { node = n; posts = posts })
      → AreParts (with_posts (recovered_node n r asker) (recovery_of n r).again posts)
  recovered_parts posts are = record {
    posts = after_recovery n (recovered_node n r asker) (recovery_of n r).again posts recovers are.posts;
    holds = tt;
    asks = tt;
    taken = λ g s there. (let left = left_of g s there in are.taken g left.was left.there);
    minted = λ h fresh g s there. (let left =
        left_of g s there in left.records h (are.minted h fresh g left.was left.there));
  }

-- what is left fits what it fitted
pub recovered_fits : (n : NodeOf) (r : Roster) (p : Program) → AreWhole n.subs
    → ((g : Grant) (s : SubOf) → sub_in g n.subs ≡ Some s → Fits p s.content) → (g : Grant) (s : SubOf)
    → sub_in g (recovery_of n r).subs ≡ Some s → Fits p s.content
recovered_fits n r p whole fit g s there = let left =
    recovered_left r.members n.subs whole g s there in left.fits p (fit g left.was left.there)

-- the whole, seen after a recovery
abbrev as_recovered : PartsOf → Roster → AskerOf → List SubOf → List AssemblyOf → List Post → PartsOf
as_recovered v r asker subs assemblies posts =
    record {
      node = record v.node { state = Member r; subs = subs; asker = asker; assemblies = assemblies };
      posts = posts;
    }

-- and it is the member after a recovery, with its posts
pub recovered_view : (v w : PartsOf) (r : Roster) (a b : AskerOf) (subs : List SubOf) (living : List AssemblyOf)
    (again : List ReadiedOf) (posted kept : List Post) → v ≡ w → a ≡ b → subs ≡ (recovery_of w.node r).subs
    → living ≡ of_living r.members v.node.assemblies
    → again ≡ (recovery_of w.node r).again → posted ≡ posted_all again v.posts
    → kept ≡ filter (λ p. is_some (ready_of_sub p.frame (sub_in p.grant subs))) posted
    → as_recovered v r a subs living kept ≡ with_posts (recovered_node w.node r b) (recovery_of w.node r).again w.posts
recovered_view v w r a b subs living again posted kept same asker_is subs_is living_is again_is posted_is kept_is =
    let posts : posted ≡ posted_all (recovery_of w.node r).again w.posts =
    posted_is ∙ ap (λ xs. posted_all xs v.posts) again_is
    ∙ ap (λ (u : PartsOf). posted_all (recovery_of w.node r).again u.posts) same in
    let left : living ≡ of_living r.members w.node.assemblies =
    living_is ∙ ap (λ (u : PartsOf). of_living r.members u.node.assemblies) same in
    let node : record v.node { state = Member r; subs = subs; asker = a; assemblies = living }
    ≡ recovered_node w.node r b = rw same (rw subs_is (rw asker_is (rw left refl))) in
    ap (λ m. record { node = m; posts = kept }) node
    ∙ posts_view (recovered_node w.node r b) (recovery_of w.node r).again w.posts posted kept tt posts (kept_is
    ∙ ap (λ xs. filter (λ p. is_some (ready_of_sub p.frame (sub_in p.grant xs))) posted) subs_is)

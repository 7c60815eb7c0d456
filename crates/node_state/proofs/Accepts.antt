-- What holds of a node's parts is kept when it takes what an Offer hands on.
use Rattle.std.proofs.Common.{◌≡◌, ℕ, ◌+◌, Bool, true, false, List, [], ◌∷◌, cond, not, Option, Some, None, IfSome, IsSome, is_some, refl, sym, ap, subst, ◌∙◌, arith}
use Rattle.std.specs.List.{filter}
use Rattle.std.specs.Ordering.{is_eq}
use Rattle.ids.specs.Names.{Grant}
use Rattle.ids.specs.Named.{Name, item_in, name_cmp, without_in}
use Rattle.ids.specs.Naming.{name_of_frame, name_of_grant}
use Rattle.ids.specs.Ordered.{AreInOrder}
use Rattle.ids.proofs.Replacing.{put_is_found}
use Rattle.level_deques.specs.declared.posts.Post.{Post}
use Rattle.victim_records.specs.Records.{record_in}
use Rattle.sub_rules.specs.Changes.{readied_in}
use Rattle.sub_rules.specs.Content.{ready_in}
use Rattle.sub_rules.specs.Readiness.{times_listed}
use Rattle.sub_rules.specs.declared.change.Readied.{Readied}
use Rattle.subcomputation.specs.Subs.{SubOf, name_of_sub, put_sub, sub_in, without_sub}
use Rattle.subcomputation.proofs.Others.{put_goes, put_other}
use Rattle.recovery.specs.Told.{ComesTold}
use Rattle.node_state.specs.Node.{NodeOf, hop_in, name_of_seen, put_seen}
use Rattle.node_state.specs.Parts.{AreParts, ArePosts, HasNoNewRecord, IsMember, MayCome, PartsOf, is_post_at, put_some, ready_of, same_grant, times_posted, with_posts}
use Rattle.node_state.specs.Posts.{live_subs, posted_all, posts_after, ready_at, ready_of_sub}
use Rattle.node_state.specs.declared.parts.Seen.{Seen}
use Rattle.node_state.proofs.Keeping.{found_after, is_listed, member_may, posts_view}
use Rattle.node_state.proofs.Kept.{after_coming, as_before, counted, member_holds}
use Rattle.node_state.proofs.Leaves.{asks_member}
use Rattle.node_state.proofs.Posting.{count_other, count_ready, differs, same_name, same_names}

-- an item that isn't there takes nothing with it
pub none_leaves : {X : Type 0} (name : X → Name) (n : Name) (xs : List X) → item_in name n xs ≡ None
    → without_in name n xs ≡ xs
none_leaves name n [] none = refl
none_leaves {X} name n (y ∷ ys) none = by_first (none_leaves name n ys) (is_eq (name_cmp n (name y))) none
  where
    by_first : (item_in name n ys ≡ None → without_in name n ys ≡ ys) → (b : Bool)
        → cond b (Some y) (item_in name n ys) ≡ None
        → cond (not b) (y ∷ without_in name n ys) (without_in name n ys) ≡ y ∷ ys
    by_first rest true at = cc
    by_first rest false at = ap (λ zs. y ∷ zs) (rest at)

-- what came under a grant, and goes again
pub some_leaves : (g : Grant) (after : Option SubOf) (subs : List SubOf) → sub_in g subs ≡ None
    → IfSome after (λ s. s.grant ≡ g) → without_sub g (put_some after subs) ≡ subs
some_leaves g None subs absent named = none_leaves name_of_sub (name_of_grant g) subs absent
some_leaves g (Some s) subs absent named =
    subst (λ h. without_sub h (put_sub s subs) ≡ subs) named
    (put_goes name_of_sub s subs (subst (λ h. sub_in h subs ≡ None) (sym named) absent))

-- a hop that is remembered, and those that were
pub hop_put : (g : Grant) (hop : ℕ) (seen : List Seen) → IsSome (hop_in g (put_seen g hop seen))
hop_put g hop seen = rw (put_is_found name_of_seen (record { grant = g; hop = hop }) seen) refl

-- what was remembered still is
pub hop_stays : (g : Grant) (hop : ℕ) (seen : List Seen) (h : Grant) → IsSome (hop_in h seen)
    → IsSome (hop_in h (put_seen g hop seen))
hop_stays g hop seen h some = by_grant (same_grant h g) refl
  where
    by_grant : (b : Bool) → same_grant h g ≡ b → IsSome (hop_in h (put_seen g hop seen))
    by_grant true is = rw (same_name h g is) (hop_put g hop seen)
    by_grant false is = rw (put_other name_of_seen (name_of_grant h) (record { grant = g; hop = hop }) seen
        (λ at. differs h g is (same_names h g at))) some

-- frames that are told of what isn't there
pub after_nothing : (n m : NodeOf) (g : Grant) (told : List Readied) (posts : List Post) → live_subs m ≡ live_subs n
    → sub_in g (live_subs n) ≡ None → ArePosts n posts → ArePosts m (posts_after m (ready_of g told) posts)
after_nothing n m g told posts subs absent are = record { each = λ p. by_grant p (same_grant p.grant g) refl }
  where
    same : (p : Post) → p.grant ≡ g → times_posted p (posts_after m (ready_of g told) posts)
        ≡ is_post_at p (ready_at m p.grant p.frame)
    same p is =
        let now : sub_in p.grant (live_subs m) ≡ None =
        ap (λ k. sub_in k (live_subs m)) is ∙ ap (sub_in g) subs ∙ absent in
        counted m (ready_of g told) posts p
        ∙ ap (λ o. cond (is_some (ready_of_sub p.frame o)) (count_ready p (ready_of g told) + times_posted p posts) 0)
        now
        ∙ sym (ap (λ o. is_post_at p (ready_of_sub p.frame o)) now)

    other : (p : Post) → (p.grant ≡ g → ⊥)
        → times_posted p (posts_after m (ready_of g told) posts) ≡ is_post_at p (ready_at m p.grant p.frame)
    other p apart =
        let now : sub_in p.grant (live_subs m) ≡ sub_in p.grant (live_subs n) = ap (sub_in p.grant) subs in
        let none = count_other p g told apart in
        let sum : count_ready p (ready_of g told) + times_posted p posts
        ≡ 0 + is_post_at p (ready_at n p.grant p.frame) = let here = are.each p in omega arith in
        counted m (ready_of g told) posts p
        ∙ ap (λ k. cond (is_some (ready_at m p.grant p.frame)) k 0) sum
        ∙ ap (λ o. cond (is_some (ready_of_sub p.frame o)) (0 + is_post_at p (ready_at n p.grant p.frame)) 0) now
        ∙ as_before p (ready_at n p.grant p.frame)
        ∙ sym (ap (λ o. is_post_at p (ready_of_sub p.frame o)) now)

    by_grant : (p : Post) (b : Bool) → same_grant p.grant g ≡ b
        → times_posted p (posts_after m (ready_of g told) posts) ≡ is_post_at p (ready_at m p.grant p.frame)
    by_grant p true is = same p (same_name p.grant g is)
    by_grant p false is = other p (λ at. differs p.grant g is at)

-- a node that took what an Offer handed on
abbrev pub accepted : NodeOf → Grant → ℕ → Option SubOf → NodeOf
accepted n g hop after = record n { subs = put_some after n.subs; seen = put_seen g hop n.seen }

module _ (n : NodeOf) (g : Grant) (hop : ℕ) (told : List Readied) (posts : List Post)
    (are : AreParts (record { node = n; posts = posts })) (member : IsMember n.state)
    (absent : sub_in g n.subs ≡ None) where
  -- none is held under its grant
  none_live : sub_in g (live_subs n) ≡ None
  none_live = ap (sub_in g) (member_holds n member) ∙ absent

  -- a recovery dropped it
  none_accepted : AreParts (with_posts (accepted n g hop None) (ready_of g told) posts)
  none_accepted = record {
    posts = after_nothing n (accepted n g hop None) g told posts refl none_live are.posts;
    holds = are.holds;
    asks = are.asks;
    taken = λ h s there. hop_stays g hop n.seen h (are.taken h s there);
    minted = are.minted;
  }

  -- or it came
  came_told : (s : SubOf) → ComesTold s told → (r : Readied)
      → times_listed r (readied_in s.content.frames)
      ≡ cond (is_some (ready_in r.frame s.content)) (times_listed r told + 0) 0
  came_told s comes r = comes.each r ∙ ap (λ k. cond (is_some (ready_in r.frame s.content)) k 0)
      (let nothing : times_listed r told ≡ times_listed r told + 0 = omega arith in nothing)

  -- its frames are posted
  posts_accepted : (s : SubOf) → s.grant ≡ g → ComesTold s told → AreInOrder name_of_frame s.content.frames
      → ArePosts (accepted n g hop (Some s)) (posts_after (accepted n g hop (Some s)) (ready_of g told) posts)
  posts_accepted s named comes order =
      subst (λ h. ArePosts (accepted n g hop (Some s))
      (posts_after (accepted n g hop (Some s)) (ready_of h told) posts)) named
      (after_coming n (accepted n g hop (Some s)) s None told posts
      (record {
        subs = member_holds (accepted n g hop (Some s)) member ∙ sym (ap (put_sub s) (member_holds n member));
        was = ap (λ h. sub_in h (live_subs n)) named ∙ none_live;
        ready = came_told s comes;
        listed = is_listed s.content order;
        listed_before = tt;
      })
      are.posts)

  -- what holds of the parts is kept
  some_accepted : (s : SubOf) → s.grant ≡ g → ComesTold s told → HasNoNewRecord n s
      → AreInOrder name_of_frame s.content.frames
      → AreParts (with_posts (accepted n g hop (Some s)) (ready_of g told) posts)
  some_accepted s named comes records order = record {
    posts = posts_accepted s named comes order;
    holds = member_may n.state (put_sub s n.subs) member;
    asks = asks_member n.state n.asker member;
    taken = found_after (λ k u. IsSome (hop_in k (put_seen g hop n.seen))) s n.subs
        (subst (λ h. IsSome (hop_in h (put_seen g hop n.seen))) (sym named) (hop_put g hop n.seen))
        (λ h t there. hop_stays g hop n.seen h (are.taken h t there));
    minted = λ h is. found_after (λ k u. record_in h u.content.records ≡ None) s n.subs (records h is)
        (are.minted h is);
  }

  -- whatever comes of it
  pub accepted_parts : (after : Option SubOf) → MayCome n g told after
      → ((s : SubOf) → sub_in g (put_some after n.subs) ≡ Some s → AreInOrder name_of_frame s.content.frames)
      → AreParts (with_posts (accepted n g hop after) (ready_of g told) posts)
  accepted_parts None comes order = none_accepted
  accepted_parts (Some s) comes order =
      let there : sub_in g (put_sub s n.subs) ≡ Some s =
      subst (λ h. sub_in h (put_sub s n.subs) ≡ Some s) comes.0 (put_is_found name_of_sub s n.subs) in
      some_accepted s comes.0 comes.1 comes.2 (order s there)

-- what may come is named
pub comes_named : (n : NodeOf) (g : Grant) (told : List Readied) (after : Option SubOf) → MayCome n g told after
    → IfSome after (λ s. s.grant ≡ g)
comes_named n g told None comes = tt
comes_named n g told (Some s) comes = comes.0

-- the whole, seen after it
abbrev as_accepted : PartsOf → List SubOf → List Seen → List Post → PartsOf
as_accepted v subs seen posts = record { node = record v.node { subs = subs; seen = seen }; posts = posts }

-- and it is the node that took it, with its posts
pub accepted_view : (v w : PartsOf) (g : Grant) (hop : ℕ) (told : List Readied) (after : Option SubOf)
    (subs : List SubOf) (seen : List Seen) (posted kept : List Post) → v ≡ w → IsMember w.node.state
    → subs ≡ put_some after v.node.subs → seen ≡ put_seen g hop v.node.seen
    → posted ≡ posted_all (ready_of g told) v.posts
    → kept ≡ filter (λ p. is_some (ready_of_sub p.frame (sub_in p.grant subs))) posted
    → as_accepted v subs seen kept ≡ with_posts (accepted w.node g hop after) (ready_of g told) w.posts
accepted_view v w g hop told after subs seen posted kept same member subs_is seen_is posted_is kept_is =
    let put : subs ≡ put_some after w.node.subs = rw same at subs_is in
    let seen_as : seen ≡ put_seen g hop w.node.seen = rw same at seen_is in
    rw same (rw put (rw seen_as (posts_view (accepted w.node g hop after) (ready_of g told) w.posts posted kept member
    (rw same at posted_is) (rw put at kept_is))))

-- What holds of a node's parts is kept by each of its moves.
use Rattle.std.proofs.Common.{◌≡◌, ◌<◌, ℕ, ℤ, ◌+◌, Bool, true, false, zero, suc, List, [], ◌∷◌, cond, Option, Some, None, IsSome, is_some, refl, sym, ap, ◌∙◌, arith}
use Rattle.std.specs.List.{filter}
use Rattle.ids.specs.Names.{Grant}
use Rattle.ids.specs.Named.{changed_in, changed_of, item_in, without_in}
use Rattle.ids.specs.Naming.{name_of_frame, name_of_grant}
use Rattle.ids.specs.declared.work.Record.{Record}
use Rattle.ids.specs.Ordered.{AreInOrder}
use Rattle.ids.specs.Slots.{numbers_in}
use Rattle.ids.specs.declared.work.Frame.{Frame}
use Rattle.ids.proofs.Replacing.{put_is_found}
use Rattle.codec.specs.Pieces.{PartOf}
use Rattle.codec.specs.declared.body.Roster.{Roster}
use Rattle.frames.specs.Frames.{frame_in, missing_in}
use Rattle.level_deques.specs.declared.posts.Post.{Post}
use Rattle.victim_records.specs.Records.{record_in}
use Rattle.sub_rules.specs.Changes.{readied_in}
use Rattle.sub_rules.specs.Content.{Ready, is_ready, ready_in}
use Rattle.sub_rules.specs.Readiness.{listed_of, times_listed}
use Rattle.sub_rules.specs.declared.change.Readied.{Readied}
use Rattle.sub_rules.specs.declared.content.Content.{Content}
use Rattle.sub_rules.specs.declared.updates.Update.{Update}
use Rattle.sub_rules.proofs.Contents.{ready_test}
use Rattle.sub_rules.proofs.Listings.{listed_each}
use Rattle.sub_rules.proofs.Slots.{apart, full_numbers, numbers_full}
use Rattle.steal_protocol.specs.Requests.{AskerOf}
use Rattle.steal_protocol.specs.Replies.{name_of_reply, put_reply, reply_in, without_reply}
use Rattle.steal_protocol.specs.declared.replies.Reply.{Reply}
use Rattle.subcomputation.specs.Subs.{SubOf, name_of_sub, put_sub, ready_frames, sub_in, without_sub}
use Rattle.subcomputation.specs.Told.{opened_sub, updated_sub}
use Rattle.subcomputation.specs.declared.sub.ReadiedOf.{ReadiedOf}
use Rattle.subcomputation.proofs.Others.{put_goes, put_other, without_itself, without_other}
use Rattle.node_state.specs.Assemblies.{AssemblyOf, assembly_in, name_of_assembly, put_assembly, with_part}
use Rattle.node_state.specs.Node.{NodeOf, by_state, ended, holding, hop_in, name_of_seen, put_seen, starting}
use Rattle.node_state.specs.Parts.{AreParts, ArePosts, AreTaken, AsksByState, HasNoNewRecord, HoldsByState, IsFresh, IsJoined, IsLeaving, IsMember, IsNext, MayBeMember, PartsOf, ready_of, same_grant, with_posts}
use Rattle.node_state.specs.Posts.{is_ready_post, live_subs, posted_all, posts_after, ready_of_sub}
use Rattle.node_state.specs.declared.parts.Confirmed.{Confirmed}
use Rattle.node_state.specs.declared.parts.Seen.{Seen}
use Rattle.node_state.specs.declared.parts.State.{State}
use Rattle.node_state.specs.declared.parts.State.TheVariants.{Joining, Member, Leaving, Ended}
use Rattle.node_state.proofs.Leaves.{all_frozen, asks_member, asks_nothing, joined_may, left_frozen, live_goes, no_posts, none_of}
use Rattle.node_state.proofs.Kept.{IsListed, after_coming, after_going, member_holds, none_goes, stands, with_nothing, with_the_same}
use Rattle.node_state.proofs.Posting.{differs, same_name, same_names}

-- the ready frames of a content in order are listed once
listed : (r : Readied) (c : Content) (o : Option Frame) → frame_in r.frame c.frames ≡ o
    → listed_of o r ≡ stands r (ready_in r.frame c)
listed r c None there = rw there refl
listed r c (Some f) there = by_numbers (numbers_in f.slots) refl
  where
    by_count : (k : ℕ) → missing_in f.slots ≡ k → numbers_in f.slots ≡ None → is_ready f ≡ false
    by_count zero count none = let full = full_numbers f.slots count in let there : numbers_in f.slots ≡ Some full.0 =
        full.1 in cc
    by_count (suc k) count none = apart (missing_in f.slots) 0 (λ zero_missing. omega arith)

    by_numbers : (o : Option (List ℤ)) → numbers_in f.slots ≡ o → listed_of (Some f) r ≡ stands r (ready_in r.frame c)
    by_numbers None none = rw there (rw none (rw (by_count (missing_in f.slots) refl none) refl))
    by_numbers (Some numbers) full =
        let ready : is_ready f ≡ true = ready_test f (numbers_full f.slots numbers full) in
        rw there (rw full (rw ready refl))

pub is_listed : (c : Content) → AreInOrder name_of_frame c.frames → IsListed c
is_listed c order = λ r. listed_each c r order ∙ listed r c (frame_in r.frame c.frames) refl

-- a member may hold anything
pub member_may : (st : State) (subs : List SubOf) → IsMember st → HoldsByState st subs
member_may Joining subs is = absurd is
member_may (Member r) subs is = tt
member_may (Leaving r heir) subs is = absurd is
member_may Ended subs is = absurd is

-- a move that changes no subcomputation
pub record Quiet (m : NodeOf) (posts : List Post) : Type 0 where
  pub parts : AreParts (record { node = m; posts = posts })
  pub same : posts_after m [] posts ≡ posts

pub quiet_parts : (n : NodeOf) (asker : AskerOf) (replies : List Reply) (confirmed : List Confirmed) (posts : List Post)
    → AreParts (record { node = n; posts = posts }) → AsksByState n.state asker
    → Quiet (record n { asker = asker; replies = replies; confirmed = confirmed }) posts
quiet_parts n asker replies confirmed posts are asks =
    let m : NodeOf = record n { asker = asker; replies = replies; confirmed = confirmed } in
    let stay : ArePosts m posts = with_the_same n m posts refl are.posts in
    record {
      parts = record { posts = stay; holds = are.holds; asks = asks; taken = are.taken; minted = are.minted };
      same = none_goes m posts stay;
    }

held_by : (st : State) (subs : List SubOf) → MayBeMember st → HoldsByState st subs
    → subs ≡ by_state st [] (λ r. subs) (λ r heir. []) []
unfolding by_state
held_by Joining subs may holds = holds
held_by (Member r) subs may holds = refl
held_by (Leaving r heir) subs may holds = absurd may
held_by Ended subs may holds = absurd may

listed_live : (n : NodeOf) (r : Roster) (asker : AskerOf)
    → live_subs (record n { state = Member r; asker = asker }) ≡ n.subs
unfolding by_state
listed_live n r asker = refl

pub listed_parts : (n : NodeOf) (r : Roster) (asker : AskerOf) (posts : List Post) → MayBeMember n.state
    → AreParts (record { node = n; posts = posts }) → Quiet (record n { state = Member r; asker = asker }) posts
listed_parts n r asker posts may are =
    let m : NodeOf = record n { state = Member r; asker = asker } in
    let stay : ArePosts m posts = with_the_same n m posts (listed_live n r asker
    ∙ held_by n.state n.subs may are.holds) are.posts in
    record {
      parts = record { posts = stay; holds = tt; asks = tt; taken = are.taken; minted = are.minted };
      same = none_goes m posts stay;
    }

-- a node that ended
none_held : (n : NodeOf) → live_subs (ended n) ≡ []
unfolding by_state
none_held n = refl

none_ready : (n : NodeOf) (posts : List Post) → filter (is_ready_post (ended n)) posts ≡ []
none_ready n [] = refl
none_ready n (p ∷ ps) =
    let not_ready : is_ready_post (ended n) p ≡ false =
    ap (λ subs. is_some (ready_of_sub p.frame (sub_in p.grant subs))) (none_held n) in
    ap (λ b. cond b (p ∷ filter (is_ready_post (ended n)) ps) (filter (is_ready_post (ended n)) ps)) not_ready
    ∙ none_ready n ps

pub record Over (n : NodeOf) (posts : List Post) : Type 0 where
  pub parts : AreParts (record { node = ended n; posts = [] })
  pub none : posts_after (ended n) [] posts ≡ []

pub ended_parts : (n : NodeOf) (posts : List Post) → Over n posts
ended_parts n posts = record {
  parts = record {
    posts = with_nothing (ended n) (none_held n);
    holds = refl;
    asks = tt;
    taken = λ g s there. cc;
    minted = λ h fresh g s there. cc;
  };
  none = none_ready n posts;
}

-- a node that starts
none_started : (word : ℕ) → live_subs (starting word) ≡ []
unfolding by_state
none_started word = refl

pub starting_parts : (word : ℕ) → AreParts (record { node = starting word; posts = [] })
starting_parts word = record {
  posts = with_nothing (starting word) (none_started word);
  holds = refl;
  asks = tt;
  taken = λ g s there. cc;
  minted = λ h fresh g s there. cc;
}

-- a subcomputation in the place of what was there under its grant
replaces : (n m : NodeOf) (s : SubOf) → IsMember n.state → IsMember m.state → m.subs ≡ put_sub s n.subs
    → live_subs m ≡ put_sub s (live_subs n)
replaces n m s here there is = member_holds m there ∙ is ∙ sym (ap (put_sub s) (member_holds n here))

-- what is found after it was put is it, or was there
pub found_after : (P : Grant → SubOf → Type 0) (s : SubOf) (subs : List SubOf) → P s.grant s
    → ((g : Grant) (t : SubOf) → sub_in g subs ≡ Some t → P g t) → (g : Grant) (t : SubOf)
    → sub_in g (put_sub s subs) ≡ Some t → P g t
found_after P s subs here others g t there = by_grant (same_grant g s.grant) refl
  where
    itself : g ≡ s.grant → P g t
    itself is =
        let found : sub_in s.grant (put_sub s subs) ≡ Some t = rw is at there in
        let put = put_is_found name_of_sub s subs in
        let same : s ≡ t = cc in
        rw is (rw (← same) here)

    by_grant : (b : Bool) → same_grant g s.grant ≡ b → P g t
    by_grant true is = itself (same_name g s.grant is)
    by_grant false is =
        let old : sub_in g (put_sub s subs) ≡ sub_in g subs =
        put_other name_of_sub (name_of_grant g) s subs (λ at. differs g s.grant is (same_names g s.grant at)) in
        others g t (sym old ∙ there)

-- what holds of all that is held after a subcomputation changed
pub changed_parts : (n m : NodeOf) (s : SubOf) (told : List Readied) (posts : List Post)
    → AreParts (record { node = n; posts = posts }) → (next : IsNext n s told)
    → AreInOrder name_of_frame s.content.frames → AreInOrder name_of_frame next.before.content.frames → IsMember m.state
    → m.subs ≡ put_sub s n.subs → m.seen ≡ n.seen → ((h : Grant) → IsFresh m h → IsFresh n h) → HasNoNewRecord m s
    → AreParts (with_posts m (ready_of s.grant told) posts)
changed_parts n m s told posts are next order order_before member subs seen fresh records = record {
  posts =
      after_coming n m s (Some next.before) told posts
      (record {
        subs = replaces n m s next.member member subs;
        was = ap (sub_in s.grant) (member_holds n next.member) ∙ next.there;
        ready = next.ready.each;
        listed = is_listed s.content order;
        listed_before = is_listed next.before.content order_before;
      })
      are.posts;
  holds = member_may m.state m.subs member;
  asks = asks_member m.state m.asker member;
  taken = λ g t there. taken_after g t (rw subs at there);
  minted = λ h is g t there. found_after (λ k u. record_in h u.content.records ≡ None) s n.subs (records h is)
      (are.minted h (fresh h is)) g t (rw subs at there);
}
  where
    taken_after : (g : Grant) (t : SubOf) → sub_in g (put_sub s n.subs) ≡ Some t → IsSome (hop_in g m.seen)
    taken_after g t there = rw seen (found_after (λ k u. IsSome (hop_in k n.seen)) s n.subs
        (are.taken s.grant next.before next.there) are.taken g t there)

-- a subcomputation that comes
pub no_sub_yet : (n : NodeOf) (g : Grant) → AreTaken n → hop_in g n.seen ≡ None → sub_in g n.subs ≡ None
no_sub_yet n g taken none = by_sub (sub_in g n.subs) refl
  where
    by_sub : (o : Option SubOf) → sub_in g n.subs ≡ o → sub_in g n.subs ≡ None
    by_sub None is = is
    by_sub (Some s) is = let some : IsSome (hop_in g n.seen) =
        taken g s is in (let never : is_some {T = ℕ} None ≡ true = rw none at some in cc)

all_told : (s : SubOf) → AreInOrder name_of_frame s.content.frames → (r : Readied)
    → times_listed r (readied_in s.content.frames)
    ≡ cond (is_some (ready_in r.frame s.content)) (times_listed r (readied_in s.content.frames) + 0) 0
all_told s order r = by_ready (ready_in r.frame s.content) refl
  where
    by_ready : (o : Option Ready) → ready_in r.frame s.content ≡ o
        → times_listed r (readied_in s.content.frames)
        ≡ cond (is_some o) (times_listed r (readied_in s.content.frames) + 0) 0
    by_ready None is = is_listed s.content order r ∙ ap (stands r) is
    by_ready (Some x) is = omega arith

hop_after : (s : SubOf) (seen : List Seen) (g : Grant) → same_grant g s.grant ≡ false
    → hop_in g (put_seen s.grant s.hop seen) ≡ hop_in g seen
hop_after s seen g other = rw (put_other name_of_seen (name_of_grant g) (record { grant = s.grant; hop = s.hop }) seen
    (λ at. differs g s.grant other (same_names g s.grant at))) refl

hop_itself : (s : SubOf) (seen : List Seen) → IsSome (hop_in s.grant (put_seen s.grant s.hop seen))
hop_itself s seen = rw (put_is_found name_of_seen (record { grant = s.grant; hop = s.hop }) seen) refl

some_seen : (s : SubOf) (seen : List Seen) (g : Grant) → IsSome (hop_in g seen)
    → IsSome (hop_in g (put_seen s.grant s.hop seen))
some_seen s seen g some = by_grant (same_grant g s.grant) refl
  where
    by_grant : (b : Bool) → same_grant g s.grant ≡ b → IsSome (hop_in g (put_seen s.grant s.hop seen))
    by_grant true is = rw (same_name g s.grant is) (hop_itself s seen)
    by_grant false is = rw (hop_after s seen g is) some

pub taken_parts : (n : NodeOf) (s : SubOf) (asker : AskerOf) (posts : List Post)
    → AreParts (record { node = n; posts = posts }) → IsMember n.state → hop_in s.grant n.seen ≡ None
    → AreInOrder name_of_frame s.content.frames → HasNoNewRecord n s
    → AreParts (with_posts (holding s (record n { asker = asker })) (ready_frames s) posts)
taken_parts n s asker posts are member none order records =
    let m : NodeOf = holding s (record n { asker = asker }) in
    record {
      posts =
          after_coming n m s None (readied_in s.content.frames) posts
          (record {
            subs = replaces n m s member member refl;
            was = ap (sub_in s.grant) (member_holds n member) ∙ no_sub_yet n s.grant are.taken none;
            ready = all_told s order;
            listed = is_listed s.content order;
            listed_before = tt;
          })
          are.posts;
      holds = member_may n.state (put_sub s n.subs) member;
      asks = asks_member n.state asker member;
      taken = found_after (λ k u. IsSome (hop_in k m.seen)) s n.subs (hop_itself s n.seen)
          (λ g t there. some_seen s n.seen g (are.taken g t there));
      minted = λ h is. found_after (λ k u. record_in h u.content.records ≡ None) s n.subs (records h is)
          (are.minted h is);
    }

-- a subcomputation goes
pub gone_parts : (n : NodeOf) (g : Grant) (posts : List Post) → AreParts (record { node = n; posts = posts })
    → IsJoined n.state → AreParts (with_posts (record n { subs = without_sub g n.subs }) [] posts)
gone_parts n g posts are joined =
    let m : NodeOf = record n { subs = without_sub g n.subs } in
    record {
      posts = after_going n m g posts (live_goes n g) are.posts;
      holds = joined_may n.state (without_sub g n.subs) joined;
      asks = are.asks;
      taken = λ h s there. are.taken h s (left_there h s there);
      minted = λ h is k s there. are.minted h is k s (left_there k s there);
    }
  where
    left_there : (h : Grant) (s : SubOf) → sub_in h (without_sub g n.subs) ≡ Some s → sub_in h n.subs ≡ Some s
    left_there h s there = by_grant (same_grant h g) refl
      where
        by_grant : (b : Bool) → same_grant h g ≡ b → sub_in h n.subs ≡ Some s
        by_grant true is =
            let none : sub_in g (without_sub g n.subs) ≡ None = without_itself name_of_sub (name_of_grant g) n.subs in
            let at : sub_in g (without_sub g n.subs) ≡ Some s = rw (same_name h g is) at there in
            cc
        by_grant false is = sym (without_other name_of_sub (name_of_grant h) (name_of_grant g) n.subs
            (λ at. differs h g is (same_names h g at))) ∙ there

-- the whole, seen after a move that changes no subcomputation
abbrev with_asker : PartsOf → AskerOf → PartsOf
with_asker v a = record { node = record v.node { asker = a }; posts = v.posts }

asker_kept : (w : PartsOf) (a : AskerOf) → AreParts w → AsksByState w.node.state a
    → with_asker w a ≡ with_posts (record w.node { asker = a }) [] w.posts
asker_kept w a are asks = ap (λ posts. record { node = record w.node { asker = a }; posts = posts })
    (sym (quiet_parts w.node a w.node.replies w.node.confirmed w.posts are asks).same)

pub asker_view : (v w : PartsOf) (a b : AskerOf) → v ≡ w → a ≡ b → AreParts w → AsksByState w.node.state b
    → with_asker v a ≡ with_posts (record w.node { asker = b }) [] w.posts
asker_view v w a b same equal are asks = rw same (rw equal (asker_kept w b are asks))

abbrev with_replies : PartsOf → List Reply → PartsOf
with_replies v replies = record { node = record v.node { replies = replies }; posts = v.posts }

replies_kept : (w : PartsOf) (replies : List Reply) → AreParts w
    → with_replies w replies ≡ with_posts (record w.node { replies = replies }) [] w.posts
replies_kept w replies are = ap (λ posts. record { node = record w.node { replies = replies }; posts = posts })
    (sym (quiet_parts w.node w.node.asker replies w.node.confirmed w.posts are are.asks).same)

pub replies_view : (v w : PartsOf) (a b : List Reply) → v ≡ w → a ≡ b → AreParts w
    → with_replies v a ≡ with_posts (record w.node { replies = b }) [] w.posts
replies_view v w a b same equal are = rw same (rw equal (replies_kept w b are))

abbrev as_member : PartsOf → Roster → AskerOf → PartsOf
as_member v r a = record { node = record v.node { state = Member r; asker = a }; posts = v.posts }

member_kept : (w : PartsOf) (r : Roster) (a : AskerOf) → MayBeMember w.node.state → AreParts w
    → as_member w r a ≡ with_posts (record w.node { state = Member r; asker = a }) [] w.posts
member_kept w r a may are = ap (λ posts. record { node = record w.node { state = Member r; asker = a }; posts = posts })
    (sym (listed_parts w.node r a w.posts may are).same)

pub member_view : (v w : PartsOf) (r : Roster) (a b : AskerOf) → v ≡ w → a ≡ b → MayBeMember w.node.state → AreParts w
    → as_member v r a ≡ with_posts (record w.node { state = Member r; asker = b }) [] w.posts
member_view v w r a b same equal may are = rw same (rw equal (member_kept w r b may are))

-- the whole, seen after a move of subcomputations: the posts that are left are those of ready
-- frames
abbrev record_of : NodeOf → List Post → PartsOf
record_of m posts = record { node = m; posts = posts }

pub posts_view : (m : NodeOf) (became : List ReadiedOf) (posts posted kept : List Post) → IsMember m.state
    → posted ≡ posted_all became posts → kept
    ≡ filter (λ p. is_some (ready_of_sub p.frame (sub_in p.grant m.subs))) posted
    → record_of m kept ≡ with_posts m became posts
posts_view m became posts posted kept member posted_is kept_is =
    ap (record_of m)
    (kept_is
    ∙ ap (λ subs. filter (λ p. is_some (ready_of_sub p.frame (sub_in p.grant subs))) posted)
    (sym (member_holds m member))
    ∙ ap (filter (is_ready_post m)) posted_is)

abbrev with_subs : PartsOf → List SubOf → List Post → PartsOf
with_subs v subs posts = record { node = record v.node { subs = subs }; posts = posts }

pub change_view : (v w : PartsOf) (s : SubOf) (told : List Readied) (subs : List SubOf) (posted kept : List Post)
    → v ≡ w → IsMember w.node.state → subs ≡ put_sub s v.node.subs → posted ≡ posted_all (ready_of s.grant told) v.posts
    → kept ≡ filter (λ p. is_some (ready_of_sub p.frame (sub_in p.grant subs))) posted
    → with_subs v subs kept ≡ with_posts (record w.node { subs = put_sub s w.node.subs })
    (ready_of s.grant told) w.posts
change_view v w s told subs posted kept same member subs_is posted_is kept_is =
    let put : subs ≡ put_sub s w.node.subs = rw same at subs_is in
    rw same (rw put (posts_view (record w.node { subs = put_sub s w.node.subs })
    (ready_of s.grant told) w.posts posted kept member (rw same at posted_is) (rw put at kept_is)))

-- the posts that are left where nothing may be posted, or all that is held is
kept_by : (st : State) (n : NodeOf) (posts : List Post) → n.state ≡ st → IsJoined st → ArePosts n posts
    → (subs : List SubOf) → live_subs (record n { subs = subs }) ≡ by_state st [] (λ r. subs) (λ r heir. []) []
    → filter (λ p. is_some (ready_of_sub p.frame (sub_in p.grant subs))) posts
    ≡ posts_after (record n { subs = subs }) [] posts
unfolding by_state
kept_by Joining n posts is joined are subs live = absurd joined
kept_by (Member r) n posts is joined are subs live =
    sym (ap (λ xs. filter (λ p. is_some (ready_of_sub p.frame (sub_in p.grant xs))) posts) live)
kept_by (Leaving r heir) n posts is joined are subs live =
    let none : posts ≡ [] = no_posts n posts (all_frozen n (rw is tt)) are in
    rw none refl
kept_by Ended n posts is joined are subs live = absurd joined

pub going_view : (v w : PartsOf) (g : Grant) (subs : List SubOf) (kept : List Post) → v ≡ w → IsJoined w.node.state
    → ArePosts w.node w.posts → subs ≡ without_sub g v.node.subs
    → kept ≡ filter (λ p. is_some (ready_of_sub p.frame (sub_in p.grant subs))) v.posts
    → with_subs v subs kept ≡ with_posts (record w.node { subs = without_sub g w.node.subs }) [] w.posts
going_view v w g subs kept same joined are subs_is kept_is =
    let left : subs ≡ without_sub g w.node.subs = rw same at subs_is in
    let kept_of : kept ≡ filter (λ p. is_some (ready_of_sub p.frame (sub_in p.grant subs))) w.posts =
    rw same at kept_is in
    rw same (rw left (ap (record_of (record w.node { subs = without_sub g w.node.subs })) ((rw left at kept_of)
    ∙ kept_by w.node.state w.node w.posts refl joined are (without_sub g w.node.subs) refl)))

abbrev with_gift : PartsOf → ℕ → List Reply → List SubOf → List Post → PartsOf
with_gift v minted replies subs posts =
    record { node = record v.node { minted = minted; replies = replies; subs = subs }; posts = posts }

pub give_view : (v w : PartsOf) (s : SubOf) (minted : ℕ) (a b : List Reply) (subs : List SubOf) (kept : List Post)
    → v ≡ w → IsMember w.node.state → minted ≡ v.node.minted + 1 → a ≡ b → subs ≡ put_sub s v.node.subs
    → kept ≡ filter (λ p. is_some (ready_of_sub p.frame (sub_in p.grant subs))) v.posts
    → with_gift v minted a subs kept ≡ with_posts
    (record w.node { minted = w.node.minted + 1; subs = put_sub s w.node.subs; replies = b }) [] w.posts
give_view v w s minted a b subs kept same member minted_is replies_is subs_is kept_is =
    let put : subs ≡ put_sub s w.node.subs = rw same at subs_is in
    let counted : minted ≡ w.node.minted + 1 = rw same at minted_is in
    let kept_of : kept ≡ filter (λ p. is_some (ready_of_sub p.frame (sub_in p.grant subs))) w.posts =
    rw same at kept_is in
    rw same (rw put (rw counted (rw replies_is
    (posts_view (record w.node {
      minted = w.node.minted + 1;
      subs = put_sub s w.node.subs;
      replies = b;
    }) [] w.posts w.posts kept member refl (rw put at kept_of)))))

abbrev with_taken : PartsOf → AskerOf → List SubOf → List Seen → List Post → PartsOf
with_taken v asker subs seen posts =
    record { node = record v.node { asker = asker; subs = subs; seen = seen }; posts = posts }

pub take_view : (v w : PartsOf) (s : SubOf) (a b : AskerOf) (subs : List SubOf) (seen : List Seen)
    (posted kept : List Post) → v ≡ w → IsMember w.node.state → a ≡ b → subs ≡ put_sub s v.node.subs
    → seen ≡ put_seen s.grant s.hop v.node.seen → posted ≡ posted_all (ready_frames s) v.posts
    → kept ≡ filter (λ p. is_some (ready_of_sub p.frame (sub_in p.grant subs))) posted
    → with_taken v a subs seen kept ≡ with_posts (holding s (record w.node { asker = b })) (ready_frames s) w.posts
take_view v w s a b subs seen posted kept same member asker_is subs_is seen_is posted_is kept_is =
    let put : subs ≡ put_sub s w.node.subs = rw same at subs_is in
    let seen_as : seen ≡ put_seen s.grant s.hop w.node.seen = rw same at seen_is in
    rw same (rw put (rw seen_as (rw asker_is
    (posts_view (holding s (record w.node { asker = b })) (ready_frames s) w.posts posted kept member
    (rw same at posted_is) (rw put at kept_is)))))

-- a thief has said that it has its grant
abbrev with_confirmed : PartsOf → List Confirmed → PartsOf
with_confirmed v confirmed = record { node = record v.node { confirmed = confirmed }; posts = v.posts }

confirmed_kept : (w : PartsOf) (confirmed : List Confirmed) → AreParts w
    → with_confirmed w confirmed ≡ with_posts (record w.node { confirmed = confirmed }) [] w.posts
confirmed_kept w confirmed are = ap (λ posts. record { node = record w.node { confirmed = confirmed }; posts = posts })
    (sym (quiet_parts w.node w.node.asker w.node.replies confirmed w.posts are are.asks).same)

pub confirmed_view : (v w : PartsOf) (a b : List Confirmed) → v ≡ w → a ≡ b → AreParts w
    → with_confirmed v a ≡ with_posts (record w.node { confirmed = b }) [] w.posts
confirmed_view v w a b same equal are = rw same (rw equal (confirmed_kept w b are))

-- parts of Offers came or went
abbrev with_assemblies : PartsOf → List AssemblyOf → PartsOf
with_assemblies v assemblies = record { node = record v.node { assemblies = assemblies }; posts = v.posts }

pub assemblies_kept : (w : PartsOf) (assemblies : List AssemblyOf) → AreParts w
    → AreParts (with_assemblies w assemblies)
assemblies_kept w assemblies are = record {
  posts = with_the_same w.node (record w.node { assemblies = assemblies }) w.posts refl are.posts;
  holds = are.holds;
  asks = are.asks;
  taken = are.taken;
  minted = are.minted;
}

pub assemblies_view : (v w : PartsOf) (a b : List AssemblyOf) → v ≡ w → a ≡ b → AreParts w
    → with_assemblies v a ≡ with_posts (record w.node { assemblies = b }) [] w.posts
assemblies_view v w a b same equal are =
    rw same (rw equal (ap (record_of (record w.node { assemblies = b }))
    (sym (none_goes (record w.node { assemblies = b }) w.posts (assemblies_kept w b are).posts))))

-- a part more where an assembly stands puts it in its place
pub part_put : (y : PartOf) (g : Grant) (a : AssemblyOf) (old new : List AssemblyOf) → assembly_in g old ≡ Some a
    → new ≡ changed_in name_of_assembly (with_part y) (name_of_grant g) old → new ≡ put_assembly (with_part y a) old
part_put y g a old new there is = is ∙ ap (changed_of name_of_assembly (with_part y) old) there

-- a node leaves: nothing is posted, and no parts of Offers stay
abbrev pub left : PartsOf → Roster → ℕ → PartsOf
left v r heir = record { node = record v.node { state = Leaving r heir; assemblies = [] }; posts = [] }

pub leaving_parts : (w : PartsOf) (r : Roster) (heir : ℕ) → AreParts w → w.node.asker.pending ≡ None
    → AreParts (left w r heir)
leaving_parts w r heir are silent =
    record {
      posts = with_nothing (left w r heir).node (left_frozen w.node r heir);
      holds = tt;
      asks = silent;
      taken = are.taken;
      minted = are.minted;
    }

pub leaving_view : (v w : PartsOf) (r : Roster) (heir : ℕ) → v ≡ w
    → left v r heir ≡ with_posts (record w.node { state = Leaving r heir; assemblies = [] }) [] w.posts
leaving_view v w r heir same = rw same
    (ap (record_of (left w r heir).node) (sym (none_of (left w r heir).node w.posts (left_frozen w.node r heir))))

-- it goes on leaving by another roster
abbrev pub leaver : PartsOf → Roster → ℕ → List Post → PartsOf
leaver v r heir posts = record { node = record v.node { state = Leaving r heir }; posts = posts }

pub kept_leaving : (w : PartsOf) (r : Roster) (heir : ℕ) → AreParts w → IsLeaving w.node.state
    → AreParts (leaver w r heir w.posts)
kept_leaving w r heir are leaving = record {
  posts = with_the_same w.node (record w.node { state = Leaving r heir }) w.posts (left_frozen w.node r heir
      ∙ sym (all_frozen w.node leaving)) are.posts;
  holds = tt;
  asks = asks_nothing w.node.state w.node.asker leaving are.asks;
  taken = are.taken;
  minted = are.minted;
}

pub kept_leaving_view : (v w : PartsOf) (r : Roster) (heir : ℕ) → v ≡ w → AreParts w → IsLeaving w.node.state
    → leaver v r heir v.posts ≡ with_posts (record w.node { state = Leaving r heir }) [] w.posts
kept_leaving_view v w r heir same are leaving =
    rw same (ap (record_of (record w.node { state = Leaving r heir }))
    (sym (none_goes (record w.node { state = Leaving r heir }) w.posts (kept_leaving w r heir are leaving).posts)))

pub ended_view : (v w : PartsOf) → v ≡ w → record_of (ended v.node) [] ≡ with_posts (ended w.node) [] w.posts
ended_view v w same = rw same (ap (record_of (ended w.node)) (sym (ended_parts w.node w.posts).none))

pub ended_fields : (incarnation minted : ℕ) (asker : AskerOf)
    → AreParts (record_of (record {
      incarnation = incarnation;
      state = Ended;
      subs = [];
      asker = record asker { pending = None };
      minted = minted;
      replies = [];
      confirmed = [];
      seen = [];
      assemblies = [];
    }) [])
ended_fields incarnation minted asker =
    (ended_parts (record {
      incarnation = incarnation;
      state = Ended;
      subs = [];
      asker = asker;
      minted = minted;
      replies = [];
      confirmed = [];
      seen = [];
      assemblies = [];
    }) []).parts

-- what holds of the whole, by how it is seen
pub by_view : (v w : PartsOf) → v ≡ w → AreParts w → AreParts v
by_view v w same are = rw same are

-- what was never taken isn't remembered
pub never_seen : (g : Grant) (seen : List Seen) → hop_in g seen ≡ None
    → item_in name_of_seen (name_of_grant g) seen ≡ None
never_seen g seen none = by_item (item_in name_of_seen (name_of_grant g) seen) refl
  where
    by_item : (o : Option Seen) → item_in name_of_seen (name_of_grant g) seen ≡ o
        → item_in name_of_seen (name_of_grant g) seen ≡ None
    by_item None is = is
    by_item (Some x) is = let some : Some x.hop ≡ None = rw is at none in cc

pub seen_again : (g : Grant) (hop : ℕ) (seen : List Seen) → hop_in g seen ≡ None
    → without_in name_of_seen (name_of_grant g) (put_seen g hop seen) ≡ seen
seen_again g hop seen none = put_goes name_of_seen (record { grant = g; hop = hop }) seen (never_seen g seen none)

-- an answer that is forgotten again, to a thief that had none
pub answered_again : (r : Reply) (replies : List Reply) → reply_in r.thief replies ≡ None
    → without_reply r.thief (put_reply r replies) ≡ replies
answered_again r replies none = put_goes name_of_reply r replies none

-- a record that is opened where a subcomputation stands puts it in its place
pub opened_put : (x : Record) (g : Grant) (s : SubOf) (subs new : List SubOf) → sub_in g subs ≡ Some s
    → new ≡ changed_in name_of_sub (opened_sub x) (name_of_grant g) subs → new ≡ put_sub (opened_sub x s) subs
opened_put x g s subs new there is = is ∙ ap (changed_of name_of_sub (opened_sub x) subs) there

-- what is still to be minted after one more was still to be minted before
pub more_minted : (n : NodeOf) (h : Grant) → h.minter ≡ n.incarnation → n.minted + 1 < h.number → IsFresh n h
more_minted n h minter less = (minter, omega arith)

-- an update where a subcomputation stands puts it in its place
pub updated_put : (u : Update) (g : Grant) (s : SubOf) (subs new : List SubOf) → sub_in g subs ≡ Some s
    → new ≡ changed_in name_of_sub (updated_sub u) (name_of_grant g) subs → new ≡ put_sub (updated_sub u s) subs
updated_put u g s subs new there is = is ∙ ap (changed_of name_of_sub (updated_sub u) subs) there

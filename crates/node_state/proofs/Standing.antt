-- What an update leaves ready, and that no other posts go by it than those of which it is told.
use Rattle.std.proofs.Common.{◌≡◌, ◌<◌, ◌≤◌, ℕ, ℤ, ◌+◌, ◌&&◌, ◌||◌, Bool, true, false, zero, suc, nat_eq, nat_lt, List, [], ◌∷◌, ◌++◌, cond, take, length, get_or, Option, Some, None, is_some, refl, sym, ap, ◌∙◌, inl, inr, arith}
use Rattle.std.specs.List.{AllByRecursion, filter, slice_get}
use Rattle.std.specs.Ordering.{is_eq}
use Rattle.std.proofs.lemmas.Bool.{and_parts, cases_eq, eq-eqb, eqb-true, ltb-false, ltb-true}
use Rattle.std.proofs.lemmas.List.{map-append, take_more}
use Rattle.std.proofs.lemmas.List.Sums.{sum_by-cons}
use Rattle.ids.specs.Names.{Grant}
use Rattle.ids.specs.Named.{Name, item_in, name_cmp}
use Rattle.ids.specs.Naming.{name_of_frame, name_of_grant}
use Rattle.ids.specs.Place.{level_of}
use Rattle.ids.specs.Slots.{numbers_in}
use Rattle.ids.specs.declared.work.Frame.{Frame}
use Rattle.ids.specs.declared.work.Record.{Record}
use Rattle.ids.proofs.Replacing.{put_is_found}
use Rattle.frames.specs.Frames.{fill_of, frame_in, is_empty_of, is_vacant, missing_in, with_slot, without_frame}
use Rattle.level_deques.specs.declared.posts.Post.{Post}
use Rattle.level_deques.specs.Levels.{IsByLevel}
use Rattle.level_deques.specs.Posts.{is_post, is_post_of, is_posted, posted, without_post}
use Rattle.level_deques.proofs.Taking.{no_post, none_of_level}
use Rattle.sub_rules.specs.Content.{Ready, ready, ready_in}
use Rattle.sub_rules.specs.Debts.{one_if}
use Rattle.sub_rules.specs.Readiness.{TellsReady}
use Rattle.sub_rules.specs.Updates.{MayUpdate, MayWork, left_by, opened_in, updated, worked}
use Rattle.sub_rules.specs.declared.change.Readied.{Readied}
use Rattle.sub_rules.specs.declared.content.Content.{Content}
use Rattle.sub_rules.specs.declared.updates.Leaver.{Leaver}
use Rattle.sub_rules.specs.declared.updates.Leaver.TheVariants.{FrameOf, RecordOf}
use Rattle.sub_rules.specs.declared.updates.Update.{Update}
use Rattle.sub_rules.specs.declared.updates.Replacement.{Replacement}
use Rattle.sub_rules.specs.declared.updates.Replacement.TheVariants.{Ends, Fills, Adds}
use Rattle.sub_rules.proofs.Departures.{frame_number}
use Rattle.sub_rules.proofs.Numbers.{absent, numbered_above}
use Rattle.sub_rules.proofs.Slots.{none_vacant, numbers_full}
use Rattle.subcomputation.specs.Subs.{SubOf, name_of_sub, put_sub, sub_in}
use Rattle.subcomputation.specs.Told.{opened_sub, updated_sub}
use Rattle.subcomputation.specs.declared.sub.ReadiedOf.{ReadiedOf}
use Rattle.subcomputation.proofs.Others.{put_other, without_itself, without_other}
use Rattle.node_state.specs.Node.{NodeOf}
use Rattle.node_state.specs.Parts.{ArePosts, IsMember, is_post_at, is_same_post, ready_of, same_grant, times_posted}
use Rattle.node_state.specs.Posts.{ReadyFrame, post_of, posted_all, ready_at, ready_of_sub}
use Rattle.node_state.specs.Stale.{Covers, stale_by, stale_frame, stale_in, stale_leaver, stale_work, still_ready}
use Rattle.node_state.proofs.Kept.{all_stay, is_ready_there, is_there, member_holds, same_post}
use Rattle.node_state.proofs.Posting.{count_all_posted, count_other, count_ready, count_told, differs, readied_of, same_name, same_names}

-- frames

abbrev not_frame : Leaver → ℕ → Type 0
not_frame (FrameOf n) h = h ≡ n → ⊥
not_frame (RecordOf g) h = Unit {0}

abbrev number_name : ℕ → Name
number_name n = (n, 0)

names_apart : (h n : ℕ) → (h ≡ n → ⊥) → number_name h ≡ number_name n → ⊥
names_apart h n other same = other (ap (λ (name : Name). name.0) same)

stays_left : (l : Leaver) (c : Content) (h : ℕ) → not_frame l h → frame_in h (left_by l c).frames ≡ frame_in h c.frames
stays_left (FrameOf n) c h other = without_other name_of_frame (h, 0) (n, 0) c.frames (names_apart h n other)
stays_left (RecordOf g) c h other = refl

-- the first of two lists that has an item
first_item : {X : Type 0} (name : X → Name) (n : Name) (xs ys : List X) (x : X) → item_in name n xs ≡ Some x
    → item_in name n (xs ++ ys) ≡ Some x
first_item name n [] ys x there = cc
first_item name n (z ∷ zs) ys x there = by_first (first_item name n zs ys x) (is_eq (name_cmp n (name z))) there
  where
    by_first : (item_in name n zs ≡ Some x → item_in name n (zs ++ ys) ≡ Some x) → (b : Bool)
        → cond b (Some z) (item_in name n zs) ≡ Some x → cond b (Some z) (item_in name n (zs ++ ys)) ≡ Some x
    by_first rest true at = at
    by_first rest false at = rest at

second_item : {X : Type 0} (name : X → Name) (n : Name) (xs ys : List X) → item_in name n xs ≡ None
    → item_in name n (xs ++ ys) ≡ item_in name n ys
second_item name n [] ys none = refl
second_item name n (z ∷ zs) ys none = by_first (second_item name n zs ys) (is_eq (name_cmp n (name z))) none
  where
    by_first : (item_in name n zs ≡ None → item_in name n (zs ++ ys) ≡ item_in name n ys) → (b : Bool)
        → cond b (Some z) (item_in name n zs) ≡ None → cond b (Some z) (item_in name n (zs ++ ys)) ≡ item_in name n ys
    by_first rest true at = cc
    by_first rest false at = rest at

-- where a value fills a slot, the other frames stay
filled_other : (h m j : ℕ) (v : ℤ) (frames : List Frame) (o : Option Frame) → frame_in m frames ≡ o → (h ≡ m → ⊥)
    → frame_in h (fill_of j v frames o) ≡ frame_in h frames
filled_other h m j v frames None there other = refl
filled_other h m j v frames (Some f) there other =
    let number = frame_number m f frames there in
    put_other name_of_frame (h, 0) (with_slot j v f) frames
    (λ same. other (ap (λ (name : Name). name.0) same ∙ sym number))

-- a ready frame, and that no slot of it is empty
record IsReady (h : ℕ) (c : Content) (r : Ready) : Type 0 where
  pub frame : Frame
  pub there : frame_in h c.frames ≡ Some frame
  pub is : ready frame ≡ Some r
  pub same : r.frame ≡ frame
  pub full : missing_in frame.slots ≡ 0

ready_parts : (h : ℕ) (c : Content) (r : Ready) → ready_in h c ≡ Some r → IsReady h c r
ready_parts h c r is = by_frame (frame_in h c.frames) refl
  where
    by_numbers : (f : Frame) → frame_in h c.frames ≡ Some f → (o : Option (List ℤ)) → numbers_in f.slots ≡ o
        → IsReady h c r
    by_numbers f there None none = let wrong : None ≡ Some r = rw none at (rw there at is) in cc
    by_numbers f there (Some ns) full =
        let made : Ready = record { frame = f; numbers = ns } in
        let at : Some made ≡ Some r = rw full at (rw there at is) in
        let same : made ≡ r = cc in
        record {
          frame = f;
          there = there;
          is = rw full at;
          same = sym (ap (λ (x : Ready). x.frame) same);
          full = numbers_full f.slots ns full;
        }

    by_frame : (o : Option Frame) → frame_in h c.frames ≡ o → IsReady h c r
    by_frame None there = let wrong : None ≡ Some r = rw there at is in cc
    by_frame (Some f) there = by_numbers f there (numbers_in f.slots) refl

ready_there : (h : ℕ) (c : Content) (f : Frame) → frame_in h c.frames ≡ Some f → ready_in h c ≡ ready f
ready_there h c f there = rw there refl

none_there : (h : ℕ) (c : Content) → frame_in h c.frames ≡ None → ready_in h c ≡ None
none_there h c none = rw none refl

-- work that isn't the end
abbrev GoesOn : Replacement → Type 0
GoesOn (Ends o) = ⊥
GoesOn (Fills n j v) = Unit {0}
GoesOn (Adds made next) = Unit {0}

-- the frames that are ready stay so, but for the one that leaves
stays : (l : Leaver) (w : Replacement) (c : Content) (h : ℕ) (r : Ready) → MayWork l w c → GoesOn w → not_frame l h
    → ready_in h c ≡ Some r → ready_in h (worked w (left_by l c)) ≡ Some r
stays l (Ends o) c h r may goes other is = absurd goes
stays l (Fills m j v) c h r may goes other is =
    elim (cases_eq h m) [
      | inl same ↦ absurd (filled same)
      | inr apart ↦ ready_there h (worked (Fills m j v) (left_by l c)) p.frame
          (filled_other h m j v (left_by l c).frames (frame_in m (left_by l c).frames) refl apart ∙ left) ∙ p.is
    ]
  where
    p : IsReady h c r
    p = ready_parts h c r is

    left : frame_in h (left_by l c).frames ≡ Some p.frame
    left = stays_left l c h other ∙ p.there

    filled : h ≡ m → ⊥
    filled same =
        let here : frame_in m (left_by l c).frames ≡ Some p.frame =
        ap (λ n. frame_in n (left_by l c).frames) (sym same) ∙ left in
        let vacant : is_vacant (slice_get p.frame.slots j) ≡ true = rw here at may in
        let none = none_vacant p.frame.slots j p.full in
        cc
stays l (Adds made next) c h r may goes other is =
    let p = ready_parts h c r is in
    ready_there h (worked (Adds made next) (left_by l c)) p.frame
    (first_item name_of_frame (h, 0) (left_by l c).frames made p.frame (stays_left l c h other ∙ p.there)) ∙ p.is

goes : (n : ℕ) (w : Replacement) (c : Content) → MayWork (FrameOf n) w c → GoesOn w
    → ready_in n (worked w (left_by (FrameOf n) c)) ≡ None
goes n (Ends o) c may on = absurd on
goes n (Fills m j v) c may on = elim (cases_eq n m) [
  | inl same ↦ absurd (filled same)
  | inr apart ↦ none_there n (worked (Fills m j v) (left_by (FrameOf n) c))
      (filled_other n m j v (without_frame n c.frames) (frame_in m (without_frame n c.frames)) refl apart ∙ none)
]
  where
    none : frame_in n (without_frame n c.frames) ≡ None
    none = without_itself name_of_frame (n, 0) c.frames

    filled : n ≡ m → ⊥
    filled same =
        let here : frame_in m (without_frame n c.frames) ≡ None =
        ap (λ k. frame_in k (without_frame n c.frames)) (sym same) ∙ none in
        let vacant : is_empty_of None j ≡ true = rw here at may in
        cc
goes n (Adds made next) c may on =
    none_there n (worked (Adds made next) (left_by (FrameOf n) c))
    (second_item name_of_frame (n, 0) (without_frame n c.frames) made (without_itself name_of_frame (n, 0) c.frames)
    ∙ absent n made (numbered_above c.next n made may.2 may.0))

-- equal posts
abbrev post_with : ℕ → Grant → ℕ → Post
post_with l g f = record { level = l; grant = g; frame = f }

post_fields : (l k : ℕ) (g h : Grant) (f e : ℕ) → l ≡ k → g ≡ h → f ≡ e → post_with l g f ≡ post_with k h e
post_fields l k g h f e level grant frame = cc

grant_fields : (g h : Grant) → g.minter ≡ h.minter → g.number ≡ h.number → g ≡ h
grant_fields g h minter number = same_name g h
    (rw (eq-eqb g.minter h.minter minter) (rw (eq-eqb g.number h.number number) refl))

post_same : (q x : Post) → is_post q x ≡ true → x ≡ q
post_same q x is =
    let first = and_parts (nat_eq x.level q.level) (is_post_of q.grant q.frame x) is in
    let second = and_parts (nat_eq x.grant.minter q.grant.minter)
    (nat_eq x.grant.number q.grant.number && nat_eq x.frame q.frame) first.1 in
    let third = and_parts (nat_eq x.grant.number q.grant.number) (nat_eq x.frame q.frame) second.1 in
    post_fields x.level q.level x.grant q.grant x.frame q.frame (eqb-true x.level q.level first.0)
    (grant_fields x.grant q.grant (eqb-true x.grant.minter q.grant.minter second.0)
    (eqb-true x.grant.number q.grant.number third.0)) (eqb-true x.frame q.frame third.1)

post_itself : (q : Post) → is_post q q ≡ true
post_itself q = rw (eq-eqb q.level q.level refl)
    (rw (eq-eqb q.grant.minter q.grant.minter refl)
    (rw (eq-eqb q.grant.number q.grant.number refl) (rw (eq-eqb q.frame q.frame refl) refl)))

apart_posts : (q x : Post) → is_post q x ≡ false → is_same_post q x ≡ 0
apart_posts q x differ = by_test (same_grant q.grant x.grant && (nat_eq q.frame x.frame && nat_eq q.level x.level)) refl
  where
    by_test : (b : Bool) → (same_grant q.grant x.grant && (nat_eq q.frame x.frame && nat_eq q.level x.level)) ≡ b
        → one_if b ≡ 0
    by_test true is =
        let first = and_parts (same_grant q.grant x.grant) (nat_eq q.frame x.frame && nat_eq q.level x.level) is in
        let second = and_parts (nat_eq q.frame x.frame) (nat_eq q.level x.level) first.1 in
        let same : x ≡ q = post_fields x.level q.level x.grant q.grant x.frame q.frame
        (sym (eqb-true q.level x.level second.1)) (sym (same_name q.grant x.grant first.0))
        (sym (eqb-true q.frame x.frame second.0)) in
        let yes : is_post q x ≡ true = ap (is_post q) same ∙ post_itself q in
        cc
    by_test false is = refl

none_posted : (q : Post) (xs : List Post) → times_posted q xs ≡ 0 → is_posted q xs ≡ false
none_posted q [] none = refl
none_posted q (x ∷ xs) none = by_post (none_posted q xs) (is_post q x) refl
  where
    sum : times_posted q (x ∷ xs) ≡ is_same_post q x + times_posted q xs
    sum = sum_by-cons (is_same_post q) x xs

    by_post : (times_posted q xs ≡ 0 → is_posted q xs ≡ false) → (b : Bool) → is_post q x ≡ b
        → (b || is_posted q xs) ≡ false
    by_post rest true is = absurd (let one : is_same_post q x ≡ 1 =
        ap (is_same_post q) (post_same q x is) ∙ same_post q in omega (arith, one, sum, none))
    by_post rest false is = rest (omega (arith, sum, none))

-- one post goes at most
kept_first : (q x : Post) (xs : List Post) → is_post q x ≡ false → without_post q (x ∷ xs) ≡ x ∷ without_post q xs
kept_first q x xs differ = by_rest (is_posted q xs) refl
  where
    by_rest : (b : Bool) → is_posted q xs ≡ b
        → cond b (x ∷ without_post q xs) (cond (is_post q x) xs (x ∷ xs)) ≡ x ∷ without_post q xs
    by_rest true is = refl
    by_rest false is = ap (λ b. cond b xs (x ∷ xs)) differ ∙ ap (λ ys. x ∷ ys) (sym (no_post q xs is))

one_goes : (test : Post → Bool) (q : Post) (xs : List Post) → test q ≡ false → times_posted q xs ≤ 1
    → ((p : Post) → (times_posted p xs ≡ 0 → ⊥) → is_same_post q p ≡ 0 → test p ≡ true)
    → filter test xs ≡ without_post q xs
one_goes test q [] gone once stay = refl
one_goes test q (x ∷ xs) gone once stay = by_post (λ fewer. one_goes test q xs gone fewer rest_stay) (is_post q x) refl
  where
    sum : times_posted q (x ∷ xs) ≡ is_same_post q x + times_posted q xs
    sum = sum_by-cons (is_same_post q) x xs

    rest_stay : (p : Post) → (times_posted p xs ≡ 0 → ⊥) → is_same_post q p ≡ 0 → test p ≡ true
    rest_stay p some apart = stay p (λ none.
        some (let all : times_posted p (x ∷ xs) ≡ is_same_post p x + times_posted p xs =
        sum_by-cons (is_same_post p) x xs in omega (arith, all, none))) apart

    others : times_posted q xs ≡ 0 → (p : Post) → (times_posted p xs ≡ 0 → ⊥) → (b : Bool) → is_post q p ≡ b
        → test p ≡ true
    others none p some true is = absurd (some (ap (λ y. times_posted y xs) (post_same q p is) ∙ none))
    others none p some false is = rest_stay p some (apart_posts q p is)

    by_post : (times_posted q xs ≤ 1 → filter test xs ≡ without_post q xs) → (b : Bool) → is_post q x ≡ b
        → filter test (x ∷ xs) ≡ without_post q (x ∷ xs)
    by_post rest true is =
        let same = post_same q x is in
        let one : is_same_post q x ≡ 1 = ap (is_same_post q) same ∙ same_post q in
        let none : times_posted q xs ≡ 0 = omega (arith, sum, one, once) in
        ap (λ b. cond b (x ∷ filter test xs) (filter test xs)) (ap test same ∙ gone)
        ∙ all_stay test xs (λ p some. others none p some (is_post q p) refl)
        ∙ sym (ap (λ b. cond b (x ∷ without_post q xs) (cond (is_post q x) xs (x ∷ xs))) (none_posted q xs none)
        ∙ ap (λ b. cond b xs (x ∷ xs)) is)
    by_post rest false is =
        let here : test x ≡ true = stay x (λ none. let all : times_posted x (x ∷ xs)
        ≡ is_same_post x x + times_posted x xs = sum_by-cons (is_same_post x) x xs in let one =
        same_post x in omega (arith, all, one, none)) (apart_posts q x is) in
        ap (λ b. cond b (x ∷ filter test xs) (filter test xs)) here
        ∙ ap (λ ys. x ∷ ys) (rest (omega (arith, sum, once)))
        ∙ sym (kept_first q x xs is)

-- a step of one subcomputation, and the posts before it
pub record Step (n : NodeOf) (g : Grant) (s after : SubOf) (told : List Readied) (posts : List Post)
    (subs : List SubOf) : Type 0 where
  pub are : ArePosts n posts
  pub member : IsMember n.state
  pub there : sub_in g n.subs ≡ Some s
  pub tells : TellsReady s.content after.content told
  pub now : sub_in g subs ≡ Some after
  pub others : (h : Grant) → (h ≡ g → ⊥) → sub_in h subs ≡ sub_in h n.subs

module _ (n : NodeOf) (g : Grant) (s after : SubOf) (told : List Readied) (posts : List Post) (subs : List SubOf)
    (step : Step n g s after told posts subs) where
  abbrev all : List Post
  all = posted_all (ready_of g told) posts

  abbrev is_ready_now : Post → Bool
  is_ready_now p = is_some (ready_of_sub p.frame (sub_in p.grant subs))

  at_node : (p : Post) → ready_at n p.grant p.frame ≡ ready_of_sub p.frame (sub_in p.grant n.subs)
  at_node p = ap (λ xs. ready_of_sub p.frame (sub_in p.grant xs)) (member_holds n step.member)

  -- of another subcomputation
  other_stays : (p : Post) → (p.grant ≡ g → ⊥) → (times_posted p posts ≡ 0 → ⊥) → is_ready_now p ≡ true
  other_stays p apart some =
      ap (λ o. is_some (ready_of_sub p.frame o)) (step.others p.grant apart)
      ∙ ap is_some (sym (at_node p))
      ∙ is_there p (ready_at n p.grant p.frame) (λ none. some (step.are.each p ∙ none))

  -- of this one
  ready_now : (p : Post) → p.grant ≡ g → is_ready_now p ≡ is_some (ready_in p.frame after.content)
  ready_now p same =
      ap (λ h. is_some (ready_of_sub p.frame (sub_in h subs))) same
      ∙ ap (λ o. is_some (ready_of_sub p.frame o)) step.now
      ∙ is_ready_there p.frame after

  posted_level : (p : Post) → p.grant ≡ g → times_posted p posts ≡ is_post_at p (ready_of_sub p.frame (Some s))
  posted_level p same =
      step.are.each p
      ∙ ap (is_post_at p) (at_node p)
      ∙ ap (λ h. is_post_at p (ready_of_sub p.frame (sub_in h n.subs))) same
      ∙ ap (λ o. is_post_at p (ready_of_sub p.frame o)) step.there

  was_ready : (p : Post) → p.grant ≡ g → (times_posted p posts ≡ 0 → ⊥)
      → (r : Ready) × (ready_in p.frame s.content ≡ Some r) × (p.level ≡ level_of r.frame.place)
  was_ready p same some = by_ready (ready_in p.frame s.content) refl
    where
      by_level : (r : Ready) → ready_in p.frame s.content ≡ Some r → (b : Bool)
          → nat_eq p.level (level_of r.frame.place) ≡ b → p.level ≡ level_of r.frame.place
      by_level r is true level = eqb-true p.level (level_of r.frame.place) level
      by_level r is false level = absurd (some (posted_level p same ∙ rw is (rw level refl)))

      by_ready : (o : Option Ready) → ready_in p.frame s.content ≡ o
          → (r : Ready) × (ready_in p.frame s.content ≡ Some r) × (p.level ≡ level_of r.frame.place)
      by_ready None is = absurd (some (posted_level p same ∙ rw is refl))
      by_ready (Some r) is = (r, is, by_level r is (nat_eq p.level (level_of r.frame.place)) refl)

  told_stays : (p : Post) → p.grant ≡ g → (count_ready p (ready_of g told) ≡ 0 → ⊥)
      → is_some (ready_in p.frame after.content) ≡ true
  told_stays p same some = by_ready (ready_in p.frame after.content) refl
    where
      by_ready : (o : Option Ready) → ready_in p.frame after.content ≡ o → is_some o ≡ true
      by_ready None is = absurd (some (ap (λ h. count_ready p (ready_of h told)) (sym same) ∙ count_told p told
          ∙ step.tells.unready (readied_of p) is))
      by_ready (Some r) is = refl

  -- a post stays, where its frame does if it was ready before
  pub stand : (p : Post) → ((r : Ready) → p.grant ≡ g → ready_in p.frame s.content ≡ Some r
      → p.level ≡ level_of r.frame.place → is_some (ready_in p.frame after.content) ≡ true)
      → (times_posted p all ≡ 0 → ⊥) → is_ready_now p ≡ true
  stand p left some = by_grant (same_grant p.grant g) refl (times_posted p posts) refl
    where
      sum : times_posted p all ≡ count_ready p (ready_of g told) + times_posted p posts
      sum = count_all_posted p (ready_of g told) posts

      by_grant : (b : Bool) → same_grant p.grant g ≡ b → (k : ℕ) → times_posted p posts ≡ k → is_ready_now p ≡ true
      by_grant true is zero count = ready_now p (same_name p.grant g is)
          ∙ told_stays p (same_name p.grant g is) (λ none. some (omega (arith, sum, none, count)))
      by_grant true is (suc k) count =
          let before = was_ready p (same_name p.grant g is) (λ none. omega (arith, none, count)) in
          ready_now p (same_name p.grant g is) ∙ left before.0 (same_name p.grant g is) before.1 before.2
      by_grant false is zero count =
          absurd (some (let none = count_other p g told (differs p.grant g is) in omega (arith, sum, none, count)))
      by_grant false is (suc k) count = other_stays p (differs p.grant g is) (λ none. omega (arith, none, count))

  -- how often the post of a frame that leaves is there
  pub stands_once : (q : Post) → q.grant ≡ g → ready_in q.frame after.content ≡ None → times_posted q all ≤ 1
  stands_once q same gone =
      let told_none : count_ready q (ready_of g told) ≡ 0 =
      ap (λ h. count_ready q (ready_of h told)) (sym same) ∙ count_told q told
      ∙ step.tells.unready (readied_of q) gone in
      let sum = count_all_posted q (ready_of g told) posts in
      let once = at_most (ready_of_sub q.frame (Some s)) in
      let level = posted_level q same in
      omega (arith, told_none, sum, once, level)
    where
      by_test : (b : Bool) → one_if b ≤ 1
      by_test true = search arith
      by_test false = search arith

      at_most : (o : Option ReadyFrame) → is_post_at q o ≤ 1
      at_most None = search arith
      at_most (Some f) = by_test (nat_eq q.level (level_of f.ready.frame.place))

-- where a frame leaves, no other posts go than its own
covers_frame : (n : NodeOf) (g : Grant) (s after : SubOf) (told : List Readied) (posts : List Post) (subs : List SubOf)
    → Step n g s after told posts subs → (k : ℕ)
    → ((h : ℕ) (r : Ready) → (h ≡ k → ⊥) → ready_in h s.content ≡ Some r → is_some (ready_in h after.content) ≡ true)
    → ready_in k after.content ≡ None
    → (o : Option Frame) → frame_in k s.content.frames ≡ o
    → Covers subs (posted_all (ready_of g told) posts) (stale_frame g k o)
covers_frame n g s after told posts subs step k keep gone None there =
    all_stay _ (posted_all (ready_of g told) posts) (λ p some. stand n g s after told posts subs step p (left p) some)
  where
    left : (p : Post) (r : Ready) → p.grant ≡ g → ready_in p.frame s.content ≡ Some r → p.level ≡ level_of r.frame.place
        → is_some (ready_in p.frame after.content) ≡ true
    left p r same was level = keep p.frame r (λ at. let parts =
        ready_parts p.frame s.content r was in let none : frame_in p.frame s.content.frames ≡ None =
        ap (λ m. frame_in m s.content.frames) at ∙ there in let some = parts.there in cc) was
covers_frame n g s after told posts subs step k keep gone (Some f) there =
    one_goes _ q (posted_all (ready_of g told) posts) test_gone
    (stands_once n g s after told posts subs step q refl gone)
    (λ p some apart. stand n g s after told posts subs step p (left p apart) some)
  where
    q : Post
    q = post_with (level_of f.place) g k

    test_gone : is_some (ready_of_sub k (sub_in g subs)) ≡ false
    test_gone = ap (λ o. is_some (ready_of_sub k o)) step.now ∙ is_ready_there k after ∙ ap is_some gone

    -- a post of the frame that leaves is this one
    itself : (p : Post) (r : Ready) → p.grant ≡ g → p.frame ≡ k → ready_in p.frame s.content ≡ Some r
        → p.level ≡ level_of r.frame.place → p ≡ q
    itself p r same at was level =
        let parts = ready_parts p.frame s.content r was in
        let here : Some parts.frame ≡ Some f = sym parts.there ∙ ap (λ m. frame_in m s.content.frames) at ∙ there in
        let frame : parts.frame ≡ f = cc in
        post_fields p.level (level_of f.place) p.grant g p.frame k (level
        ∙ ap (λ (x : Frame). level_of x.place) (parts.same ∙ frame)) same at

    left : (p : Post) → is_same_post q p ≡ 0 → (r : Ready) → p.grant ≡ g → ready_in p.frame s.content ≡ Some r
        → p.level ≡ level_of r.frame.place → is_some (ready_in p.frame after.content) ≡ true
    left p apart r same was level =
        keep p.frame r (λ at. let one : is_same_post q p ≡ 1 =
        ap (is_same_post q) (itself p r same at was level) ∙ same_post q in omega (arith, one, apart)) was

-- an update takes no other posts than it tells of
covers_record : (n : NodeOf) (g : Grant) (s after : SubOf) (told : List Readied) (posts : List Post) (subs : List SubOf)
    → Step n g s after told posts subs → (h : Grant) (w : Replacement) → MayWork (RecordOf h) w s.content → GoesOn w
    → after.content ≡ worked w (left_by (RecordOf h) s.content)
    → still_ready subs (posted_all (ready_of g told) posts) ≡ posted_all (ready_of g told) posts
covers_record n g s after told posts subs step h w may on is =
    all_stay _ (posted_all (ready_of g told) posts) (λ p some. stand n g s after told posts subs step p (left p) some)
  where
    left : (p : Post) (r : Ready) → p.grant ≡ g → ready_in p.frame s.content ≡ Some r → p.level ≡ level_of r.frame.place
        → is_some (ready_in p.frame after.content) ≡ true
    left p r same was level = ap (λ c. is_some (ready_in p.frame c)) is
        ∙ ap is_some (stays (RecordOf h) w s.content p.frame r may on tt was)

covers_leaver : (n : NodeOf) (g : Grant) (s after : SubOf) (told : List Readied) (posts : List Post) (subs : List SubOf)
    → Step n g s after told posts subs → (l : Leaver) (w : Replacement) → MayWork l w s.content → GoesOn w
    → after.content ≡ worked w (left_by l s.content)
    → Covers subs (posted_all (ready_of g told) posts) (stale_leaver g l (Some s))
covers_leaver n g s after told posts subs step (FrameOf k) w may on is =
    covers_frame n g s after told posts subs step k
    (λ h r other was. ap (λ c. is_some (ready_in h c)) is
    ∙ ap is_some (stays (FrameOf k) w s.content h r may on other was))
    (ap (ready_in k) is ∙ goes k w s.content may on)
    (frame_in k s.content.frames) refl
covers_leaver n g s after told posts subs step (RecordOf h) w may on is =
    covers_record n g s after told posts subs step h w may on is

covers_work : (n : NodeOf) (g : Grant) (s after : SubOf) (told : List Readied) (posts : List Post) (subs : List SubOf)
    → Step n g s after told posts subs → (l : Leaver) (w : Replacement) → MayWork l w s.content
    → after.content ≡ worked w (left_by l s.content)
    → Covers subs (posted_all (ready_of g told) posts) (stale_work g l w (Some s))
covers_work n g s after told posts subs step l (Ends o) may is = tt
covers_work n g s after told posts subs step l (Fills m j v) may is =
    covers_leaver n g s after told posts subs step l (Fills m j v) may tt is
covers_work n g s after told posts subs step l (Adds made next) may is =
    covers_leaver n g s after told posts subs step l (Adds made next) may tt is

pub covers : (n : NodeOf) (g : Grant) (u : Update) (s : SubOf) (told : List Readied) (posts : List Post)
    (subs : List SubOf) → ArePosts n posts → IsMember n.state → sub_in g n.subs ≡ Some s → s.grant ≡ g
    → MayUpdate u s.content → TellsReady s.content (updated u s.content) told → subs ≡ put_sub (updated_sub u s) n.subs
    → Covers subs (posted_all (ready_of g told) posts) (stale_by g u (Some s))
covers n g u s told posts subs are member there named may tells put =
    covers_work n g s (updated_sub u s) told posts subs step u.leaver u.work may refl
  where
    step : Step n g s (updated_sub u s) told posts subs
    step = record {
      are = are;
      member = member;
      there = there;
      tells = tells;
      now = ap (sub_in g) put ∙ ap (λ h. sub_in h (put_sub (updated_sub u s) n.subs)) (sym named)
          ∙ put_is_found name_of_sub (updated_sub u s) n.subs;
      others = λ h apart. ap (sub_in h) put
          ∙ put_other name_of_sub (name_of_grant h) (updated_sub u s) n.subs
          (λ same. apart (same_names h s.grant same ∙ named));
    }

-- nor does a frame that is given away
pub covers_opened : (n : NodeOf) (g : Grant) (x : Record) (s : SubOf) (posts : List Post) (subs : List SubOf)
    → ArePosts n posts → IsMember n.state → sub_in g n.subs ≡ Some s → s.grant ≡ g
    → TellsReady s.content (opened_in x s.content) [] → subs ≡ put_sub (opened_sub x s) n.subs
    → Covers subs posts (stale_in g x.frame (Some s))
covers_opened n g x s posts subs are member there named tells put =
    covers_frame n g s (opened_sub x s) [] posts subs step x.frame
    (λ h r other was. (let parts = ready_parts h s.content r was in
    ap is_some (ready_there h (opened_in x s.content) parts.frame
    (without_other name_of_frame (h, 0) (x.frame, 0) s.content.frames (names_apart h x.frame other) ∙ parts.there)
    ∙ parts.is)))
    (none_there x.frame (opened_in x s.content) (without_itself name_of_frame (x.frame, 0) s.content.frames))
    (frame_in x.frame s.content.frames) refl
  where
    step : Step n g s (opened_sub x s) [] posts subs
    step = record {
      are = are;
      member = member;
      there = there;
      tells = tells;
      now = ap (sub_in g) put ∙ ap (λ h. sub_in h (put_sub (opened_sub x s) n.subs)) (sym named)
          ∙ put_is_found name_of_sub (opened_sub x s) n.subs;
      others = λ h apart. ap (sub_in h) put
          ∙ put_other name_of_sub (name_of_grant h) (opened_sub x s) n.subs
          (λ same. apart (same_names h s.grant same ∙ named));
    }

-- posts that came last are taken back
posted_is : (p : Post) (xs : List Post) → is_posted p (posted p xs) ≡ true
posted_is p [] = ap (λ b. b || false) (post_itself p)
posted_is p (x ∷ xs) = by_test (posted_is p xs) (nat_lt p.level x.level)
  where
    last : (b : Bool) → (b || true) ≡ true
    last true = refl
    last false = refl

    by_test : is_posted p (posted p xs) ≡ true → (b : Bool) → is_posted p (cond b (p ∷ x ∷ xs) (x ∷ posted p xs)) ≡ true
    by_test rest true = ap (λ b. b || is_posted p (x ∷ xs)) (post_itself p)
    by_test rest false = ap (λ b. is_post p x || b) rest ∙ last (is_post p x)

posted_back : (p : Post) (xs : List Post) → IsByLevel xs → without_post p (posted p xs) ≡ xs
posted_back p [] by_level = ap (λ b. cond b [] (p ∷ [])) (post_itself p)
posted_back p (x ∷ xs) by_level = by_test (posted_back p xs by_level.1) (nat_lt p.level x.level) refl
  where
    above : (ys : List Post) (n : ℕ) → p.level < n → AllByRecursion (λ y. n ≤ y.level) ys
        → AllByRecursion (λ y. y.level ≡ p.level → ⊥) ys
    above [] n less all = tt
    above (y ∷ ys) n less all = (λ same. let le = all.0 in omega (arith, le, less, same), above ys n less all.1)

    by_test : without_post p (posted p xs) ≡ xs → (b : Bool) → nat_lt p.level x.level ≡ b
        → without_post p (cond b (p ∷ x ∷ xs) (x ∷ posted p xs)) ≡ x ∷ xs
    by_test rest true is =
        let less = ltb-true p.level x.level is in
        let none = none_of_level p (x ∷ xs) (λ same. omega (arith, less, same), above xs x.level less by_level.0) in
        ap (λ b. cond b (p ∷ without_post p (x ∷ xs)) (cond (is_post p p) (x ∷ xs) (p ∷ x ∷ xs))) none
        ∙ ap (λ b. cond b (x ∷ xs) (p ∷ x ∷ xs)) (post_itself p)
    by_test rest false is =
        ap (λ b. cond b (x ∷ without_post p (posted p xs)) (cond (is_post p x) (posted p xs) (x ∷ posted p xs)))
        (posted_is p xs) ∙ ap (λ ys. x ∷ ys) rest

all_weaker : (m n : ℕ) (ps : List Post) → m ≤ n → AllByRecursion (λ q. n ≤ q.level) ps
    → AllByRecursion (λ q. m ≤ q.level) ps
all_weaker m n [] le h = tt
all_weaker m n (p ∷ ps) le h = (let below = h.0 in omega (arith, below, le), all_weaker m n ps le h.1)

all_posted : (n : ℕ) (p : Post) (ps : List Post) → n ≤ p.level → AllByRecursion (λ q. n ≤ q.level) ps
    → AllByRecursion (λ q. n ≤ q.level) (posted p ps)
all_posted n p [] le h = (le, tt)
all_posted n p (q ∷ qs) le h = by_test (all_posted n p qs le h.1) (nat_lt p.level q.level)
  where
    by_test : AllByRecursion (λ q. n ≤ q.level) (posted p qs) → (b : Bool)
        → AllByRecursion (λ q. n ≤ q.level) (cond b (p ∷ q ∷ qs) (q ∷ posted p qs))
    by_test rest true = (le, h)
    by_test rest false = (h.0, rest)

by_level_posted : (p : Post) (ps : List Post) → IsByLevel ps → IsByLevel (posted p ps)
by_level_posted p [] h = (tt, tt)
by_level_posted p (q ∷ qs) h = by_test (by_level_posted p qs h.1) (nat_lt p.level q.level) refl
  where
    by_test : IsByLevel (posted p qs) → (b : Bool) → nat_lt p.level q.level ≡ b
        → IsByLevel (cond b (p ∷ q ∷ qs) (q ∷ posted p qs))
    by_test rest true is =
        let less = ltb-true p.level q.level is in
        let le : p.level ≤ q.level = omega (arith, less) in
        ((le, all_weaker p.level q.level qs le h.0), h)
    by_test rest false is =
        let le : q.level ≤ p.level = ltb-false p.level q.level is in
        (all_posted q.level p qs le h.0, rest)

by_level_all : (rs : List ReadiedOf) (ps : List Post) → IsByLevel ps → IsByLevel (posted_all rs ps)
by_level_all [] ps h = h
by_level_all (r ∷ rs) ps h = by_level_all rs (posted (post_of r) ps) (by_level_posted (post_of r) ps h)

posted_last : (rs : List ReadiedOf) (r : ReadiedOf) (ps : List Post)
    → posted_all (rs ++ r ∷ []) ps ≡ posted (post_of r) (posted_all rs ps)
posted_last [] r ps = refl
posted_last (x ∷ xs) r ps = posted_last xs r (posted (post_of x) ps)

-- frames of one subcomputation, up to one of them
pub posted_up_to : (g : Grant) (rs : List Readied) (k : ℕ) (r : Readied) (ps : List Post) → k < length rs
    → r ≡ get_or rs k r → posted_all (ready_of g (take (k + 1) rs)) ps
    ≡ posted (post_of (record { grant = g; frame = r })) (posted_all (ready_of g (take k rs)) ps)
posted_up_to g rs k r ps within at =
    ap (λ xs. posted_all (ready_of g xs) ps) (take_more rs k r within ∙ ap (λ x. take k rs ++ x ∷ []) (sym at))
    ∙ ap (λ xs. posted_all xs ps) (map-append (λ (x : Readied). record { grant = g; frame = x }) (take k rs) (r ∷ []))
    ∙ posted_last (ready_of g (take k rs)) (record { grant = g; frame = r }) ps

pub taken_back : (g : Grant) (rs : List Readied) (k i : ℕ) (r : Readied) (ps : List Post) → k ≡ i + 1 → i < length rs
    → r ≡ get_or rs i r → IsByLevel ps → without_post (post_of (record { grant = g; frame = r }))
    (posted_all (ready_of g (take k rs)) ps) ≡ posted_all (ready_of g (take i rs)) ps
taken_back g rs k i r ps next within at by_level =
    ap (λ n. without_post (post_of (record { grant = g; frame = r })) (posted_all (ready_of g (take n rs)) ps)) next
    ∙ ap (without_post (post_of (record { grant = g; frame = r }))) (posted_up_to g rs i r ps within at)
    ∙ posted_back (post_of (record { grant = g; frame = r })) (posted_all (ready_of g (take i rs)) ps)
    (by_level_all (ready_of g (take i rs)) ps by_level)

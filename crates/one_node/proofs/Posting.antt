-- The posts of a run and its ready frames, counted by the numbers of the frames.
use Rattle.std.proofs.Common.{◌≡◌, ◌≢◌, ℕ, ℤ, ◌+◌, suc, ◌&&◌, Bool, true, false, cond, not, nat_eq, nat_lt, List, [], ◌∷◌, ◌++◌, map, Some, IsTrue, refl, sym, ap, ◌∙◌, arith, inl, inr}
use Rattle.std.specs.List.{AllByRecursion, filter, slice_get, sum_by}
use Rattle.std.proofs.lemmas.Bool.{eq-eqb}
use Rattle.std.proofs.lemmas.Bool.Decides.{Decides-eqb, eqb_tells}
use Rattle.std.proofs.lemmas.List.Sums.{sum_by-cons, sum_by-append}
use Rattle.ids.specs.Names.{Grant}
use Rattle.ids.specs.Named.{Name}
use Rattle.ids.specs.Naming.{name_of_frame}
use Rattle.ids.specs.Ordered.{AreInOrder}
use Rattle.ids.specs.declared.work.Frame.{Frame}
use Rattle.frames.specs.Frames.{frame_in, is_vacant, missing_in, put_frame, with_slot, without_frame}
use Rattle.level_deques.specs.declared.posts.Post.{Post}
use Rattle.level_deques.specs.Posts.{is_post_of, posted, withdrawn}
use Rattle.sub_rules.specs.declared.change.Readied.{Readied}
use Rattle.sub_rules.specs.Content.{is_ready}
use Rattle.sub_rules.specs.Changes.{readied, readied_in}
use Rattle.sub_rules.specs.Debts.{one_if}
use Rattle.sub_rules.proofs.Contents.{ready_test}
use Rattle.sub_rules.proofs.Slots.{and_false, apart, filled_missing}
use Rattle.sub_rules.proofs.Sums.{all_filtered, nothing_left, part, sum_left, sum_put, sum_without}
use Rattle.one_node.specs.Runs.{own_grant, post_of, posted_readied}
use Rattle.one_node.specs.Holding.{ArePosted, is_ready_at, names}

other : (n : ℕ) (f : Frame) → f.number ≢ n → is_ready_at n f ≡ 0
other n f differs = rw (apart f.number n differs) refl

elsewhere : (n : ℕ) (f : Frame) → (name_of_frame f ≡ (n, 0) → ⊥) → is_ready_at n f ≡ 0
elsewhere n f differs = other n f (λ same. differs (ap (λ (k : ℕ). let name : Name = (k, 0) in name) same))

pub ready_itself : (f : Frame) → missing_in f.slots ≡ 0 → is_ready_at f.number f ≡ 1
ready_itself f full = rw (eq-eqb f.number f.number refl, ready_test f full) refl

waiting : (n : ℕ) (f : Frame) (k : ℕ) → missing_in f.slots ≡ suc k → is_ready_at n f ≡ 0
waiting n f k more = rw (apart (missing_in f.slots) 0 (λ same. omega arith)) (and_false (nat_eq f.number n))

-- the count of a number is that of the frame that has it
pub counted : (n : ℕ) (frames : List Frame) → AreInOrder name_of_frame frames
    → sum_by (is_ready_at n) frames ≡ part name_of_frame (is_ready_at n) (frame_in n frames)
counted n frames order =
    let sums = sum_without name_of_frame (is_ready_at n) (n, 0) frames order in
    let others = nothing_left name_of_frame (is_ready_at n) (n, 0) (elsewhere n) frames in
    omega arith

-- one more post
posted_counted : (n : ℕ) (p : Post) (posts : List Post)
    → sum_by (names n) (posted p posts) ≡ sum_by (names n) posts + names n p
posted_counted n p [] = omega (arith, sum_by-cons (names n) p [])
posted_counted n p (q ∷ qs) = by_level (posted_counted n p qs) (nat_lt p.level q.level)
  where
    by_level : sum_by (names n) (posted p qs) ≡ sum_by (names n) qs + names n p → (b : Bool)
        → sum_by (names n) (cond b (p ∷ q ∷ qs) (q ∷ posted p qs)) ≡ sum_by (names n) (q ∷ qs) + names n p
    by_level rest true = omega (arith, sum_by-cons (names n) p (q ∷ qs))
    by_level rest false = omega (arith, sum_by-cons (names n) q (posted p qs), sum_by-cons (names n) q qs)

pub and_true : (b : Bool) → (b && true) ≡ b
and_true true = refl
and_true false = refl

-- the ready ones of some frames are posted
readied_counted : (n : ℕ) (frames : List Frame) (posts : List Post)
    → sum_by (names n) (posted_readied (readied_in frames) posts)
    ≡ sum_by (names n) posts + sum_by (is_ready_at n) frames
readied_counted n [] posts = omega arith
readied_counted n (f ∷ fs) posts = by_test (readied_counted n fs (posted (post_of (readied f)) posts))
    (readied_counted n fs posts) (is_ready f) refl
  where
    by_test : sum_by (names n) (posted_readied (readied_in fs) (posted (post_of (readied f)) posts))
        ≡ sum_by (names n) (posted (post_of (readied f)) posts) + sum_by (is_ready_at n) fs
        → sum_by (names n) (posted_readied (readied_in fs) posts) ≡ sum_by (names n) posts + sum_by (is_ready_at n) fs
        → (b : Bool) → is_ready f ≡ b → sum_by (names n)
        (posted_readied (map readied (cond b (f ∷ filter is_ready fs) (filter is_ready fs))) posts)
        ≡ sum_by (names n) posts + sum_by (is_ready_at n) (f ∷ fs)
    by_test with_it without true is =
        let here : is_ready_at n f ≡ names n (post_of (readied f)) = rw is (ap one_if (and_true (nat_eq f.number n))) in
        let first = posted_counted n (post_of (readied f)) posts in
        omega (arith, sum_by-cons (is_ready_at n) f fs)
    by_test with_it without false is =
        let here : is_ready_at n f ≡ 0 = rw is (and_false (nat_eq f.number n)) in
        omega (arith, sum_by-cons (is_ready_at n) f fs)

-- which posts are withdrawn
own_is : (m : ℕ) (p : Post) → p.grant ≡ own_grant → is_post_of own_grant m p ≡ nat_eq p.frame m
own_is m p is = ap (λ (g : Grant). nat_eq g.minter own_grant.minter
    && (nat_eq g.number own_grant.number && nat_eq p.frame m)) is

withdrawn_counted : (m n : ℕ) (posts : List Post) → AllByRecursion (λ p. p.grant ≡ own_grant) posts → n ≢ m
    → sum_by (names n) (withdrawn own_grant m posts) ≡ sum_by (names n) posts
withdrawn_counted m n [] own differs = refl
withdrawn_counted m n (p ∷ ps) own differs =
    ap (λ b. sum_by (names n) (cond (not b) (p ∷ withdrawn own_grant m ps) (withdrawn own_grant m ps)))
    (own_is m p own.0) ∙ by_test (withdrawn_counted m n ps own.1 differs) (nat_eq p.frame m) refl
  where
    by_test : sum_by (names n) (withdrawn own_grant m ps) ≡ sum_by (names n) ps → (b : Bool) → nat_eq p.frame m ≡ b
        → sum_by (names n) (cond (not b) (p ∷ withdrawn own_grant m ps) (withdrawn own_grant m ps))
        ≡ sum_by (names n) (p ∷ ps)
    by_test rest true is =
        let same : p.frame ≡ m = (Decides-eqb p.frame m).0 is in
        let here : names n p ≡ 0 = ap one_if (apart p.frame n (λ equal. differs (sym equal ∙ same))) in
        omega (arith, sum_by-cons (names n) p ps)
    by_test rest false is = omega (
      arith,
      sum_by-cons (names n) p ps,
      sum_by-cons (names n) p (withdrawn own_grant m ps),
    )

withdrawn_none : (m : ℕ) (posts : List Post) → AllByRecursion (λ p. p.grant ≡ own_grant) posts
    → sum_by (names m) (withdrawn own_grant m posts) ≡ 0
withdrawn_none m [] own = refl
withdrawn_none m (p ∷ ps) own = ap (λ b.
    sum_by (names m) (cond (not b) (p ∷ withdrawn own_grant m ps) (withdrawn own_grant m ps))) (own_is m p own.0)
    ∙ by_test (withdrawn_none m ps own.1) (nat_eq p.frame m) refl
  where
    by_test : sum_by (names m) (withdrawn own_grant m ps) ≡ 0 → (b : Bool) → nat_eq p.frame m ≡ b
        → sum_by (names m) (cond (not b) (p ∷ withdrawn own_grant m ps) (withdrawn own_grant m ps)) ≡ 0
    by_test rest true is = rest
    by_test rest false is =
        let here : names m p ≡ 0 = ap one_if is in
        omega (arith, sum_by-cons (names m) p (withdrawn own_grant m ps))

-- posts stay those of the run
own_posted : (p : Post) (posts : List Post) → p.grant ≡ own_grant → AllByRecursion (λ q. q.grant ≡ own_grant) posts
    → AllByRecursion (λ q. q.grant ≡ own_grant) (posted p posts)
own_posted p [] here own = (here, tt)
own_posted p (q ∷ qs) here own = by_level (own_posted p qs here own.1) (nat_lt p.level q.level)
  where
    by_level : AllByRecursion (λ (r : Post). r.grant ≡ own_grant) (posted p qs) → (b : Bool)
        → AllByRecursion (λ (r : Post). r.grant ≡ own_grant) (cond b (p ∷ q ∷ qs) (q ∷ posted p qs))
    by_level rest true = (here, own)
    by_level rest false = (own.0, rest)

own_posted_all : (ready : List Readied) (posts : List Post) → AllByRecursion (λ q. q.grant ≡ own_grant) posts
    → AllByRecursion (λ q. q.grant ≡ own_grant) (posted_readied ready posts)
own_posted_all [] posts own = own
own_posted_all (r ∷ rs) posts own = own_posted_all rs (posted (post_of r) posts) (own_posted (post_of r) posts refl own)

-- a ready frame goes, and its post with it
pub left_posted : (f : Frame) (frames : List Frame) (posts : List Post) → AreInOrder name_of_frame frames
    → frame_in f.number frames ≡ Some f → ArePosted frames posts
    → ArePosted (without_frame f.number frames) (withdrawn own_grant f.number posts)
left_posted f frames posts order there are = record {
  own = all_filtered (λ p. p.grant ≡ own_grant) _ posts are.own;
  each = λ n. (elim (eqb_tells n f.number) [
    | inl both ↦ rw both.1 (withdrawn_none f.number posts are.own
        ∙ sym (nothing_left name_of_frame (is_ready_at f.number) (f.number, 0) (elsewhere f.number) frames))
    | inr both ↦
        let before = are.each n in
        let posts = withdrawn_counted f.number n posts are.own both.1 in
        let sums = sum_left name_of_frame (is_ready_at n) (f.number, 0) f frames order there in
        let gone = other n f (λ same. both.1 (sym same)) in
        omega arith
  ]);
}

-- frames come, and the ready ones are posted
pub come_posted : (made frames : List Frame) (posts : List Post) → ArePosted frames posts
    → ArePosted (frames ++ made) (posted_readied (readied_in made) posts)
come_posted made frames posts are = record {
  own = own_posted_all (readied_in made) posts are.own;
  each = λ n. (
      let before = are.each n in
      let new = readied_counted n made posts in
      omega (arith, sum_by-append (is_ready_at n) frames made));
}

-- a slot of a frame is filled, which is posted where it is ready then
pub filled_posted : (f : Frame) (j : ℕ) (v : ℤ) (frames : List Frame) (posts : List Post)
    → AreInOrder name_of_frame frames → frame_in f.number frames ≡ Some f → IsTrue (is_vacant (slice_get f.slots j))
    → ArePosted frames posts → ArePosted (put_frame (with_slot j v f) frames)
    (posted_readied (readied_in (with_slot j v f ∷ [])) posts)
filled_posted f j v frames posts order there empty are = record {
  own = own_posted_all (readied_in (with_slot j v f ∷ [])) posts are.own;
  each = λ n. (
      let before = are.each n in
      let new = readied_counted n (with_slot j v f ∷ []) posts in
      let sums = sum_put name_of_frame (is_ready_at n) (with_slot j v f) f frames order there in
      let waited = waiting n f (missing_in (with_slot j v f).slots) (filled_missing f.slots j v empty) in
      omega (arith, sum_by-cons (is_ready_at n) (with_slot j v f) []));
}

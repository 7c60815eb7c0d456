-- A turn of a run: the frame that runs is there, and what the turn leaves.
use Rattle.std.proofs.Common.{◌≡◌, ℕ, ℤ, ◌<◌, ◌≤◌, ◌^◌, suc, ◌&&◌, Bool, true, false, cond, nat_eq, nat_lt, List, [], ◌∷◌, length, Option, Some, None, Ok, Err, refl, sym, ap, ◌∙◌, arith}
use Rattle.std.specs.List.{sum_by}
use Rattle.std.proofs.lemmas.Bool.{eq-eqb, ltb-false}
use Rattle.std.proofs.lemmas.Bool.Decides.{Decides-int_eq}
use Rattle.std.proofs.lemmas.List.Sums.{sum_by-cons}
use Rattle.ids.specs.Naming.{name_of_frame}
use Rattle.ids.specs.Options.{◌>>=◌}
use Rattle.ids.specs.Slots.{numbers_in}
use Rattle.ids.specs.declared.work.Frame.{Frame}
use Rattle.kind_check.specs.Turns.{turn_of}
use Rattle.kind_check.specs.declared.turn.Turn.{Turn}
use Rattle.body_eval.specs.Done.{DoneOf}
use Rattle.serial_meaning.specs.Job.{JobOf}
use Rattle.frames.specs.Frames.{frame_in}
use Rattle.level_deques.specs.declared.posts.Post.{Post}
use Rattle.level_deques.specs.Posts.{newest_of, deepest, goes_below}
use Rattle.sub_rules.specs.declared.change.ContentChange.{ContentChange}
use Rattle.sub_rules.specs.declared.change.SubError.TheVariants.{Spent, Stale}
use Rattle.sub_rules.specs.declared.content.Content.{Content}
use Rattle.sub_rules.specs.Carrying.{exec_content, executed, holds_numbers, is_turn_of, within_numbers}
use Rattle.sub_rules.specs.Resuming.{nothing_known, resumed}
use Rattle.sub_rules.specs.Changes.{turned}
use Rattle.sub_rules.specs.Content.{Ready, is_ready, ready, ready_in}
use Rattle.sub_rules.specs.Debts.{one_if}
use Rattle.sub_rules.proofs.KnownJoins.{nothing_changes}
use Rattle.sub_rules.proofs.Contents.{has_ready, test_ready}
use Rattle.sub_rules.proofs.Departures.{frame_number}
use Rattle.sub_rules.proofs.Slots.{full_numbers}
use Rattle.sub_rules.proofs.Sums.{part}
use Rattle.agreement_laws.specs.Agreement.{ContentAgrees}
use Rattle.one_node.specs.Runs.{RunOf, next_of, one_turn, own_grant, posted_readied, with_change}
use Rattle.one_node.specs.Runs as runs
use Rattle.one_node.specs.Holding.{Holds, IsFrame, IsTurnOf, is_ready_at, names}
use Rattle.one_node.proofs.Posting.{counted, ready_itself}

-- full slots hold their numbers
holds_same : (slots : List (Option ℤ)) (numbers : List ℤ) → numbers_in slots ≡ Some numbers
    → holds_numbers slots numbers ≡ true
holds_same [] [] full = refl
holds_same [] (n ∷ ns) full = absurd cc
holds_same (None ∷ slots) numbers full = absurd cc
holds_same (Some v ∷ slots) numbers full = by_rest (λ vs is. holds_same slots vs is) (numbers_in slots) refl full
  where
    by_rest : ((vs : List ℤ) → numbers_in slots ≡ Some vs → holds_numbers slots vs ≡ true) → (o : Option (List ℤ))
        → numbers_in slots ≡ o → (o >>= λ (vs : List ℤ). Some (v ∷ vs)) ≡ Some numbers
        → holds_numbers (Some v ∷ slots) numbers ≡ true
    by_rest rest None is at = absurd cc
    by_rest rest (Some vs) is at =
        let same : v ∷ vs ≡ numbers = cc in
        ap (holds_numbers (Some v ∷ slots)) (sym same) ∙ rw ((Decides-int_eq v v).1 refl, rest vs is) refl

-- a turn of a frame carries it out
pub carried_is : (c : Content) (n : ℕ) (d : DoneOf) (t : IsTurnOf c n d)
    → exec_content nothing_known d n c ≡ within_numbers (turned t.frame d.turn c)
carried_is c n d t =
    let is : is_turn_of d t.frame ≡ true =
    rw (eq-eqb t.frame.thread d.thread (sym t.thread), holds_same t.frame.slots d.numbers t.full) refl in
    ap (executed nothing_known d c) t.there
    ∙ ap (λ b. cond b (within_numbers (turned t.frame (resumed nothing_known t.frame.place d.turn) c)) (Err Stale))
    is
    ∙ ap (λ u. within_numbers (turned t.frame u c)) (nothing_changes t.frame.place d.turn)

-- so it isn't refused as stale
pub never_stale : (change : ContentChange) → within_numbers change ≡ Err Stale → ⊥
never_stale change is = by_test (nat_lt change.after.next (2 ^ 32)) is
  where
    by_test : (b : Bool) → cond b (Ok change) (Err Spent) ≡ Err Stale → ⊥
    by_test true at = cc
    by_test false at = cc

-- what was carried out is the change
pub within_is : (expected change : ContentChange) → within_numbers expected ≡ Ok change → expected ≡ change
within_is expected change is = by_test (nat_lt expected.after.next (2 ^ 32)) is
  where
    by_test : (b : Bool) → cond b (Ok expected) (Err Spent) ≡ Ok change → expected ≡ change
    by_test true at = cc
    by_test false at = absurd cc

pub spent_is : (expected : ContentChange) → within_numbers expected ≡ Err Spent → 2 ^ 32 ≤ expected.after.next
spent_is expected is = by_test (nat_lt expected.after.next (2 ^ 32)) refl is
  where
    by_test : (b : Bool) → nat_lt expected.after.next (2 ^ 32) ≡ b → cond b (Ok expected) (Err Spent) ≡ Err Spent
        → 2 ^ 32 ≤ expected.after.next
    by_test true less at = absurd cc
    by_test false less at = ltb-false expected.after.next (2 ^ 32) less

-- the frame that runs next
pub record Next (job : JobOf) (run : RunOf) : Type 0 where
  pub post : Post
  pub first : deepest run.posts ≡ Some post
  pub frame : IsFrame job run.content post.frame

-- some post is the deepest, and its frame is posted
pub record Deepest (posts : List Post) : Type 0 where
  pub post : Post
  pub first : deepest posts ≡ Some post
  pub posted : 0 < sum_by (names post.frame) posts

named : (p : Post) → names p.frame p ≡ 1
named p = rw (eq-eqb p.frame p.frame refl) refl

one_deepest : (posts : List Post) → 0 < length posts → Deepest posts
one_deepest [] more = absurd (omega arith)
one_deepest (p ∷ []) more = record {
  post = p;
  first = refl;
  posted = let here =
      named p in omega (arith, sum_by-cons (names p.frame) p []);
}
one_deepest (p ∷ q ∷ qs) more =
    let rest = one_deepest (q ∷ qs) (omega arith) in
    by_choice rest (goes_below p rest.post) refl
  where
    by_choice : (rest : Deepest (q ∷ qs)) (b : Bool) → goes_below p rest.post ≡ b → Deepest (p ∷ q ∷ qs)
    by_choice rest true is = record {
      post = p;
      first = ap (newest_of goes_below p) rest.first ∙ ap (λ b. cond b (Some p) (Some rest.post)) is;
      posted = let here = named p in omega (arith, sum_by-cons (names p.frame) p (q ∷ qs));
    }
    by_choice rest false is = record {
      post = rest.post;
      first = ap (newest_of goes_below p) rest.first ∙ ap (λ b. cond b (Some p) (Some rest.post)) is;
      posted = let there = rest.posted in omega (arith, sum_by-cons (names rest.post.frame) p (q ∷ qs));
    }

some_posts : (n : ℕ) (posts : List Post) → 0 < sum_by (names n) posts → 0 < length posts
some_posts n [] more = more
some_posts n (p ∷ ps) more = omega arith

-- numbers are as many as the slots that they fill
numbers_many : (slots : List (Option ℤ)) (numbers : List ℤ) → numbers_in slots ≡ Some numbers
    → length slots ≡ length numbers
numbers_many [] numbers full = let same : [] ≡ numbers = cc in ap length same
numbers_many (None ∷ slots) numbers full = absurd cc
numbers_many (Some v ∷ slots) numbers full = by_rest (λ vs is. numbers_many slots vs is) (numbers_in slots) refl full
  where
    by_rest : ((vs : List ℤ) → numbers_in slots ≡ Some vs → length slots ≡ length vs) → (o : Option (List ℤ))
        → numbers_in slots ≡ o → (o >>= λ (vs : List ℤ). Some (v ∷ vs)) ≡ Some numbers
        → length (Some v ∷ slots) ≡ length numbers
    by_rest rest None is at = absurd cc
    by_rest rest (Some vs) is at =
        let same : v ∷ vs ≡ numbers = cc in
        ap suc (rest vs is) ∙ ap length same

-- a ready frame of a number that is counted
ready_there : (job : JobOf) (c : Content) (n : ℕ) → ContentAgrees job c
    → 0 < part name_of_frame (is_ready_at n) (frame_in n c.frames) → IsFrame job c n
ready_there job c n agrees more = by_found (frame_in n c.frames) refl more
  where
    is_full : (a b : Bool) → 0 < one_if (a && b) → b ≡ true
    is_full true true more = refl
    is_full true false more = absurd (omega arith)
    is_full false b more = absurd (omega arith)

    by_found : (o : Option Frame) → frame_in n c.frames ≡ o → 0 < part name_of_frame (is_ready_at n) o → IsFrame job c n
    by_found None there more = absurd (omega arith)
    by_found (Some f) there more =
        let full = full_numbers f.slots (test_ready f (is_full (nat_eq f.number n) (is_ready f) more)) in
        record {
          frame = f;
          there = there;
          numbers = full.0;
          full = full.1;
          takes = rw (numbers_many f.slots full.0 full.1) at (agrees.frames n f there).takes;
        }

-- a run that goes on has a next frame
pub next_frame : (job : JobOf) (run : RunOf) → Holds job run → Next job run
next_frame job run holds =
    let h = has_ready run.content holds.sound holds.active holds.alone in
    let number : h.number ≡ h.frame.number = frame_number h.number h.frame run.content.frames h.there in
    let itself : is_ready_at h.number h.frame ≡ 1 = rw number (ready_itself h.frame h.ready) in
    let is = counted h.number run.content.frames holds.order ∙ ap (part name_of_frame (is_ready_at h.number)) h.there in
    let posted = holds.posted.each h.number in
    let some : 0 < sum_by (names h.number) run.posts = omega arith in
    let d = one_deepest run.posts (some_posts h.number run.posts some) in
    let same = holds.posted.each d.post.frame in
    let there = counted d.post.frame run.content.frames holds.order in
    let more = d.posted in
    record {
      post = d.post;
      first = d.first;
      frame = ready_there job run.content d.post.frame holds.agrees (omega arith);
    }

-- a turn of the next frame is a turn of the run
pub turn_is : (job : JobOf) (run : RunOf) (post : Post) (frame : Frame) (numbers : List ℤ) (turn : Turn)
    → deepest run.posts ≡ Some post → frame_in post.frame run.content.frames ≡ Some frame
    → numbers_in frame.slots ≡ Some numbers → turn_of job.program frame.thread numbers ≡ Some turn
    → one_turn job.program run ≡ Some (with_change post.frame (turned frame turn run.content) run)
turn_is job run post frame numbers turn first there full reached =
    let r : Ready = record { frame = frame; numbers = numbers } in
    let found : ready_in post.frame run.content ≡ Some r =
    ap (λ (o : Option Frame). o >>= ready) there
    ∙ ap (λ (o : Option (List ℤ)). o >>= λ (ns : List ℤ). Some (record { frame = frame; numbers = ns })) full in
    let is : runs.frame_to_run run ≡ Some r =
    ap (λ (o : Option Post). o >>= λ (p : Post). ready_in p.frame run.content) first ∙ found in
    ap (λ (o : Option Ready). o >>= λ (r : Ready). turn_of job.program r.frame.thread r.numbers >>= λ (t : Turn). Some
    (next_of run r t)) is
    ∙ ap (λ (o : Option Turn). o >>= λ (t : Turn). Some (next_of run r t)) reached
    ∙ ap (λ (k : ℕ). Some (with_change k (turned frame turn run.content) run))
    (sym (frame_number post.frame frame run.content.frames there))

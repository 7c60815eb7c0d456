-- A ready frame is carried out by one call: it is gone then.
use Rattle.std.proofs.Common.{◌≡◌, ◌≢◌, ◌+◌, ◌<◌, ◌^◌, ℕ, ℤ, Bool, true, false, cond, nat_eq, nat_lt, List, [], ◌∷◌, length, Option, None, Some, Result, Ok, Err, inl, inr, refl, sym, ap, subst, ◌∙◌, arith}
use Rattle.std.proofs.lemmas.Bool.{and_from, eq-eqb}
use Rattle.std.proofs.lemmas.Bool.Decides.{Decides-int_eq}
use Rattle.ids.specs.Named.{Name}
use Rattle.ids.specs.Names.{Grant}
use Rattle.ids.specs.Naming.{name_of_frame, name_of_grant}
use Rattle.ids.specs.Options.{◌>>=◌}
use Rattle.ids.specs.Slots.{numbers_in}
use Rattle.ids.specs.declared.outcome.Outcome.TheVariants.{TooDeep}
use Rattle.ids.specs.declared.returns.Return.{Return}
use Rattle.ids.specs.declared.returns.Return.TheVariants.{Whole, Local}
use Rattle.ids.specs.declared.work.Frame.{Frame}
use Rattle.kind_check.specs.Total.{Reaches}
use Rattle.kind_check.specs.Turns.{turn_of}
use Rattle.kind_check.specs.declared.turn.Slot.{Slot}
use Rattle.kind_check.specs.declared.turn.Slot.TheVariants.{Filled, Awaits}
use Rattle.kind_check.specs.declared.turn.Turn.{Turn}
use Rattle.kind_check.specs.declared.turn.Turn.TheVariants.{Sends, Joins}
use Rattle.body_eval.specs.Done.{DoneOf}
use Rattle.codec.specs.declared.body.Roster.{Roster}
use Rattle.serial_meaning.specs.Job.{JobOf, IsJob}
use Rattle.frames.specs.Frames.{frame_in, with_slot, without_frame}
use Rattle.saved_values.specs.Saved.{known_by}
use Rattle.sub_rules.specs.Carrying.{exec_content, executed, holds_numbers, is_turn_of, within_numbers}
use Rattle.sub_rules.specs.Changes.{arrives, ends, filled_in, joined, kids, replaced, successor, turned}
use Rattle.sub_rules.specs.Content.{Ready, ready, ready_in}
use Rattle.sub_rules.specs.Resuming.{Known, resumed}
use Rattle.sub_rules.specs.declared.change.ContentChange.{ContentChange}
use Rattle.sub_rules.specs.declared.change.SubError.{SubError}
use Rattle.sub_rules.specs.declared.change.SubError.TheVariants as sub
use Rattle.sub_rules.specs.declared.content.Content.{Content}
use Rattle.sub_rules.proofs.Departures.{frame_number}
use Rattle.agreement_laws.proofs.Finding.{behind, gone, passed, put_or_there, put_stays}
use Rattle.agreement_laws.proofs.Granting.{granted_task}
use Rattle.sub_rules.proofs.Sums.{all_found}
use Rattle.subcomputation.specs.Subs.{SubOf, name_of_sub, put_sub, sub_in, with_content}
use Rattle.node_state.specs.Node.{NodeOf, by_state}
use Rattle.node_state.specs.Posts.{ready_at}
use Rattle.node_state.specs.declared.parts.State.{State}
use Rattle.node_state.specs.declared.parts.State.TheVariants.{Member}
use Rattle.node_steps.specs.Calls.{changed, exec, exec_ready, own_turn}
use Rattle.node_steps.specs.Cases.{by_option}
use Rattle.node_steps.specs.Steps.{Answer}
use Rattle.content_laws.proofs.Granting.{ready_found}
use Rattle.actor_laws.proofs.node_moves.Members.{own_sub}
use Rattle.actor_laws.specs.actor_agreement.Values.{IsRight}
use Rattle.actor_laws.specs.next.Taking.{AnswerCarries, NoFrame}

-- frames behind each other by their numbers
other_number : (m n : ℕ) → (m ≡ n → ⊥) → ◌≢◌ {A = Name} (m, 0) (n, 0)
other_number m n other same = other (ap (λ (name : Name). name.0) same)

-- the kids of a join have numbers from the next one on
no_kid : (place : List ℕ) (n j m k : ℕ) (slots : List Slot) → k < m → frame_in k (kids place n j m slots) ≡ None
no_kid place n j m k [] less = refl
no_kid place n j m k (Filled v ∷ slots) less = no_kid place n (j + 1) m k slots less
no_kid place n j m k (Awaits kid ∷ slots) less =
    passed name_of_frame (k, 0) _ (kids place n (j + 1) (m + 1) slots) (other_number k m (λ same. omega arith))
    ∙ no_kid place n (j + 1) (m + 1) k slots (omega arith)

none_joined : (f : Frame) (t : ℕ) (slots : List Slot) (next k : ℕ) → k < next
    → frame_in k (joined f t slots next) ≡ None
none_joined f t slots next k less =
    passed name_of_frame (k, 0) (successor f t slots next) (kids f.place next 0 (next + 1) slots)
    (other_number k next (λ same. omega arith))
    ∙ no_kid f.place next 0 (next + 1) k slots (omega arith)

-- a value that comes brings no frame
arrives_none : (k : ℕ) (r : Return) (v : ℤ) (c : Content) → frame_in k c.frames ≡ None
    → frame_in k (arrives r v c).after.frames ≡ None
arrives_none k Whole v c none = refl
arrives_none k (Local n j) v c none = by_frame (frame_in n c.frames) refl
  where
    by_frame : (o : Option Frame) → frame_in n c.frames ≡ o → frame_in k (filled_in j v c o).after.frames ≡ None
    by_frame None e = none
    by_frame (Some x) e =
        let number : n ≡ x.number = frame_number n x c.frames e in
        put_stays name_of_frame (k, 0) (with_slot j v x) c.frames (other_number k x.number (λ same. (
        let there : frame_in k c.frames ≡ Some x =
        subst (λ (i : ℕ). frame_in i c.frames ≡ Some x) (number ∙ sym same) e in
        let two : None ≡ Some x = sym none ∙ there in
        cc)))
        ∙ none

-- the frame that was carried out is gone
turned_gone : (f : Frame) (t : Turn) (c : Content) → f.number < c.next
    → frame_in f.number (turned f t c).after.frames ≡ None
turned_gone f (Sends v) c below = arrives_none f.number f.returns v
    (record c { frames = without_frame f.number c.frames }) (gone name_of_frame (f.number, 0) c.frames)
turned_gone f (Joins t slots) c below = by_room (nat_lt (length f.place) 1024)
  where
    by_room : (b : Bool) → frame_in f.number
        (cond b (replaced f.number (joined f t slots c.next) c) (ends TooDeep c)).after.frames ≡ None
    by_room true =
        behind name_of_frame (f.number, 0) (without_frame f.number c.frames) (joined f t slots c.next)
        (gone name_of_frame (f.number, 0) c.frames)
        ∙ none_joined f t slots c.next f.number below
    by_room false = refl

-- a full frame holds its numbers
holds_same : (slots : List (Option ℤ)) (numbers : List ℤ) → numbers_in slots ≡ Some numbers
    → holds_numbers slots numbers ≡ true
holds_same [] [] full = refl
holds_same [] (n ∷ ns) full = absurd cc
holds_same (None ∷ slots) numbers full = absurd cc
holds_same (Some v ∷ slots) numbers full = by_rest (λ vs is. holds_same slots vs is) (numbers_in slots) refl full
  where
    by_rest : ((vs : List ℤ) → numbers_in slots ≡ Some vs → holds_numbers slots vs ≡ true) → (o : Option (List ℤ))
        → numbers_in slots ≡ o → (o >>= λ (vs : List ℤ). Some (v ∷ vs)) ≡ Some numbers
        → holds_numbers (Some v ∷ slots) numbers ≡ true
    by_rest rest None is at = absurd cc
    by_rest rest (Some vs) is at =
        let same : v ∷ vs ≡ numbers = cc in
        ap (holds_numbers (Some v ∷ slots)) (sym same) ∙ rw ((Decides-int_eq v v).1 refl, rest vs is) refl

-- a ready frame that is found stands under the number that was asked for
found_under : (k : ℕ) (c : Content) (x : Ready) → ready_in k c ≡ Some x → frame_in k c.frames ≡ Some x.frame
found_under k c x is_ready = by_frame (frame_in k c.frames) refl is_ready
  where
    by_numbers : (f : Frame) → frame_in k c.frames ≡ Some f → (o : Option (List ℤ))
        → (o >>= (λ numbers. Some (record { frame = f; numbers = numbers }))) ≡ Some x
        → frame_in k c.frames ≡ Some x.frame
    by_numbers f e None at = cc
    by_numbers f e (Some numbers) at =
        let same : record { frame = f; numbers = numbers } ≡ x = cc in
        e ∙ ap (λ (y : Ready). Some y.frame) same

    by_frame : (o : Option Frame) → frame_in k c.frames ≡ o → (o >>= ready) ≡ Some x
        → frame_in k c.frames ≡ Some x.frame
    by_frame None e at = cc
    by_frame (Some f) e at = by_numbers f e (numbers_in f.slots) at

-- what is answered by a member
of_member : (y : State) (r : Roster) → y ≡ Member r
    → (joining : Answer) (joined : Roster → Answer) (leaving : Roster → ℕ → Answer) (over : Answer)
    → by_state y joining joined leaving over ≡ joined r
unfolding by_state
of_member y r is joining joined leaving over = rw is refl

-- what a call of a member does with a ready frame, whose turn ends so
module _ (job : JobOf) (n : NodeOf) (g : Grant) (k : ℕ) (s : SubOf) (x : Ready) (t : Turn) where
  abbrev done : DoneOf
  done = record { program = job.program; thread = x.frame.thread; numbers = x.numbers; turn = t }

  abbrev known : Known
  known = known_by s.saved

  abbrev change : ContentChange
  change = turned x.frame (resumed known x.frame.place t) s.content

  carried : numbers_in x.frame.slots ≡ Some x.numbers → frame_in k s.content.frames ≡ Some x.frame
      → exec_content known done k s.content ≡ within_numbers change
  carried full stands =
      let own : is_turn_of done x.frame ≡ true =
      and_from (nat_eq x.frame.thread x.frame.thread) (holds_numbers x.frame.slots x.numbers)
      (eq-eqb x.frame.thread x.frame.thread refl) (holds_same x.frame.slots x.numbers full) in
      ap (executed known done s.content) stands
      ∙ ap (λ (b : Bool). cond {A = Result ContentChange SubError} b (within_numbers change) (Err sub.Stale)) own

  ready_is : (r : Roster) → n.state ≡ Member r → sub_in g n.subs ≡ Some s → ready_in k s.content ≡ Some x
      → ready_at n g k ≡ Some (record { sub = s; ready = x })
  unfolding by_state
  ready_is r member there is_ready = rw (member, there, is_ready) refl

  own_is : turn_of job.program x.frame.thread x.numbers ≡ Some t → own_turn job.program x ≡ Some done
  own_is reached = rw reached refl

  exec_is : (r : Roster) → n.state ≡ Member r → sub_in g n.subs ≡ Some s
      → exec_content known done k s.content ≡ within_numbers change
      → exec job done g k n ≡ changed job s n (within_numbers change)
  unfolding exec by_option
  exec_is r member there is = of_member n.state r member _ _ _ _ ∙ rw there (ap (changed job s n) is)

  exec_ready_is : (r : Roster) → n.state ≡ Member r → ready_at n g k ≡ Some (record { sub = s; ready = x })
      → own_turn job.program x ≡ Some done → exec job done g k n ≡ changed job s n (within_numbers change)
      → exec_ready job g k n ≡ changed job s n (within_numbers change)
  unfolding by_option
  exec_ready_is r member ready_now turn_now is = of_member n.state r member _ _ _ _ ∙ rw (ready_now, turn_now) is

  change_carries : sub_in g n.subs ≡ Some s → k ≡ x.frame.number → x.frame.number < s.content.next
      → AnswerCarries g k (changed job s n (within_numbers change))
  change_carries there number below = by_room (nat_lt change.after.next (2 ^ 32))
    where
      gone_now : frame_in k change.after.frames ≡ None
      gone_now = subst (λ (i : ℕ). frame_in i change.after.frames ≡ None) (sym number)
          (turned_gone x.frame (resumed known x.frame.place t) s.content below)

      gone_from : NoFrame g k (put_sub (with_content s change.after) n.subs)
      gone_from y at = elim (put_or_there name_of_sub (name_of_grant g) (with_content s change.after) y n.subs at) [
        | inl both ↦ subst (λ (z : SubOf). frame_in k z.content.frames ≡ None) (sym both.1) gone_now
        | inr both ↦ absurd (both.0 (ap name_of_grant (own_sub g s n.subs there)))
      ]

      by_room : (b : Bool) → AnswerCarries g k
          (changed job s n (cond {A = Result ContentChange SubError} b (Ok change) (Err sub.Spent)))
      by_room true = gone_from
      by_room false = refl

-- so it is gone, of what agrees with the serial meaning of a job
pub ready_carried : (job : JobOf) → IsJob job → (r : Roster) (n : NodeOf) (g : Grant) (k : ℕ) (s : SubOf) (x : Ready)
    → n.state ≡ Member r → sub_in g n.subs ≡ Some s → IsRight job s.content → ready_in k s.content ≡ Some x
    → AnswerCarries g k (exec_ready job g k n)
ready_carried job ok r n g k s x member there right is_ready =
    let turn : Reaches job.program x.frame.thread x.numbers =
    ok.accepted.total.each x.frame.thread x.numbers (granted_task job s.content k x right.agrees is_ready).takes in
    let stands = found_under k s.content x is_ready in
    let number : k ≡ x.frame.number = frame_number k x.frame s.content.frames stands in
    let below : x.frame.number < s.content.next =
    all_found name_of_frame (λ (f : Frame). f.number < s.content.next)
    (k, 0) x.frame s.content.frames right.kept.sound.below stands in
    let done_now = carried job n g k s x turn.turn (ready_found k s.content x is_ready).full stands in
    let is = exec_ready_is job n g k s x turn.turn r member (ready_is job n g k s x turn.turn r member there is_ready)
    (own_is job n g k s x turn.turn turn.reached) (exec_is job n g k s x turn.turn r member there done_now) in
    subst (AnswerCarries g k) (sym is) (change_carries job n g k s x turn.turn there number below)

-- What the turn of a ready frame itself leads to.
use Rattle.std.proofs.Common.{◌≡◌, ◌<◌, ◌≤◌, ℕ, ℤ, ◌^◌, Bool, true, false, cond, is_some, nat_eq, nat_le, nat_lt, List, [], ◌∷◌, length, Option, Some, None, Result, Ok, Err, refl, sym, ap, ◌∙◌}
use Rattle.std.proofs.lemmas.Bool.{and_parts, eq-eqb, le-leb, lt-leb, not-false}
use Rattle.std.proofs.lemmas.Bool.Decides.{Decides-eqb, Decides-int_eq}
use Rattle.std.specs.Ordering.{int_eq}
use Rattle.ids.specs.Names.{Grant}
use Rattle.ids.specs.Options.{◌>>=◌}
use Rattle.ids.specs.Slots.{numbers_in}
use Rattle.ids.specs.declared.work.Frame.{Frame}
use Rattle.task_tree.specs.declared.tree.Program.{Program}
use Rattle.kind_check.specs.Total.{IsTotal, Takes}
use Rattle.kind_check.specs.Turns.{turn_of}
use Rattle.kind_check.specs.declared.turn.Turn.{Turn}
use Rattle.kind_check.specs.declared.turn.Turn.TheVariants.{Sends}
use Rattle.body_eval.specs.Done.{DoneOf}
use Rattle.frames.specs.Frames.{frame_in}
use Rattle.serial_meaning.specs.Job.{JobOf}
use Rattle.serial_meaning.specs.Places.{room}
use Rattle.serial_meaning.specs.Serial.{serial_turns}
use Rattle.serial_meaning.specs.Whole.{IsWhole, WholeOf}
use Rattle.sub_rules.specs.Carrying.{ended, exec_content as carry, executed, holds_numbers, is_stale_of, is_turn_of, within_numbers}
use Rattle.saved_values.specs.Saved.{known_by}
use Rattle.sub_rules.specs.Resuming.{Known, resumed}
use Rattle.sub_rules.specs.Changes.{granted_out, turned}
use Rattle.sub_rules.specs.Content.{Ready, ready, ready_in, task_of}
use Rattle.sub_rules.specs.declared.change.ContentChange.{ContentChange}
use Rattle.sub_rules.specs.declared.change.SubError.{SubError}
use Rattle.sub_rules.specs.declared.change.SubError.TheVariants as sub
use Rattle.sub_rules.specs.declared.content.Content.{Content}
use Rattle.subcomputation.specs.Fitting.{Fits}
use Rattle.subcomputation.specs.Subs.{SubOf, sub_in}
use Rattle.subcomputation.proofs.Fitting.{grant_fits, to_takes}
use Rattle.node_state.specs.Node.{NodeOf}
use Rattle.node_state.specs.Parts.{IsMember}
use Rattle.node_state.specs.Posts.{ReadyFrame, ready_at, ready_of_sub}
use Rattle.node_state.proofs.Kept.{member_holds}
use Rattle.node_steps.specs.Calls as calls
use Rattle.node_steps.specs.Cases.{by_option}
use Rattle.node_steps.specs.Meeting.{MayLackMemory}
use Rattle.node_steps.specs.Steps.{Refused}
use Rattle.node_steps.specs.Ready.{work_in, work_with}
use Rattle.node_steps.specs.declared.error.NodeError.TheVariants as error
use Rattle.node_steps.specs.declared.work.Work.{Work}
use Rattle.node_calls.proofs.Carrying.{found, joined}

-- a frame of a content that is ready
record HasReady (f : ℕ) (c : Content) : Type 0 where
  pub ready : Ready
  pub there : ready_in f c ≡ Some ready

some_ready : (f : ℕ) (c : Content) → is_some (ready_in f c) ≡ true → HasReady f c
some_ready f c some = by_ready (ready_in f c) refl some
  where
    by_ready : (o : Option Ready) → ready_in f c ≡ o → is_some o ≡ true → HasReady f c
    by_ready None is at = absurd cc
    by_ready (Some r) is at = record { ready = r; there = is }

-- and the work that it is
pub record IsWork (f : ℕ) (c : Content) (w : Work) : Type 0 where
  pub ready : Ready
  pub there : ready_in f c ≡ Some ready
  pub thread : w.thread ≡ ready.frame.thread
  pub numbers : w.numbers ≡ ready.numbers

pub some_work : (g : Grant) (f : ℕ) (c : Content) (w : Work) → Some w ≡ work_in g f c → IsWork f c w
some_work g f c w is = by_ready (ready_in f c) refl is
  where
    by_ready : (o : Option Ready) → ready_in f c ≡ o → Some w ≡ (o >>= λ r. Some (work_with g r)) → IsWork f c w
    by_ready None there at = absurd cc
    by_ready (Some r) there at =
        let same : w ≡ work_with g r = cc in
        record {
          ready = r;
          there = there;
          thread = ap (λ (x : Work). x.thread) same;
          numbers = ap (λ (x : Work). x.numbers) same;
        }

-- its thread takes its numbers, where the content fits the program
pub ready_takes : (p : Program) (f : ℕ) (c : Content) (r : Ready) → Fits p c → ready_in f c ≡ Some r
    → Takes p r.frame.thread (length r.numbers)
ready_takes p f c r fits there =
    let g : Grant = record { minter = 0; number = 0 } in
    let given = grant_fits p c c g 0 f (record { after = granted_out g 0 r c; task = task_of r }) refl
    (rw there refl) fits in
    to_takes p r.frame.thread (length r.numbers) given.task

pub work_takes : (p q : Program) (g : Grant) (f : ℕ) (c : Content) (w : Work) (numbers : List ℤ) → Fits p c
    → Some w ≡ work_in g f c → q ≡ p → numbers ≡ w.numbers → Takes q w.thread (length numbers)
work_takes p q g f c w numbers fits told same given =
    let work = some_work g f c w told in
    let takes = ready_takes p f c work.ready fits work.there in
    given_takes work.ready.frame.thread work.ready.numbers takes work.thread work.numbers
  where
    given_takes : (t : ℕ) (ns : List ℤ) → Takes p t (length ns) → w.thread ≡ t → w.numbers ≡ ns
        → Takes q w.thread (length numbers)
    given_takes t ns takes thread is = rw same (rw given (rw thread (rw is takes)))

-- full slots hold their numbers
holds_same : (slots : List (Option ℤ)) (numbers : List ℤ) → numbers_in slots ≡ Some numbers
    → holds_numbers slots numbers ≡ true
holds_same [] [] full = refl
holds_same [] (n ∷ ns) full = absurd cc
holds_same (None ∷ slots) numbers full = absurd cc
holds_same (Some v ∷ slots) numbers full = by_rest (λ vs is. holds_same slots vs is) (numbers_in slots) refl full
  where
    by_rest : ((vs : List ℤ) → numbers_in slots ≡ Some vs → holds_numbers slots vs ≡ true) → (o : Option (List ℤ))
        → numbers_in slots ≡ o → (o >>= λ (vs : List ℤ). Some (v ∷ vs)) ≡ Some numbers
        → holds_numbers (Some v ∷ slots) numbers ≡ true
    by_rest rest None is at = absurd cc
    by_rest rest (Some vs) is at =
        let same : v ∷ vs ≡ numbers = cc in
        ap (holds_numbers (Some v ∷ slots)) (sym same) ∙ rw ((Decides-int_eq v v).1 refl, rest vs is) refl

-- and slots that hold numbers are full of these
held_numbers : (slots : List (Option ℤ)) (numbers : List ℤ) → holds_numbers slots numbers ≡ true
    → numbers_in slots ≡ Some numbers
held_numbers [] [] holds = refl
held_numbers [] (n ∷ ns) holds = cc
held_numbers (None ∷ slots) [] holds = cc
held_numbers (Some v ∷ slots) [] holds = cc
held_numbers (None ∷ slots) (n ∷ ns) holds = cc
held_numbers (Some v ∷ slots) (n ∷ ns) holds =
    let both = and_parts (int_eq v n) (holds_numbers slots ns) holds in
    let same : v ≡ n = (Decides-int_eq v n).0 both.0 in
    let rest : numbers_in slots ≡ Some ns = held_numbers slots ns both.1 in
    rw rest (ap (λ (k : ℤ). Some (k ∷ ns)) same)

-- a turn that isn't stale is one of a ready frame, on its numbers
record IsOwn (d : DoneOf) (f : ℕ) (c : Content) : Type 0 where
  pub ready : Ready
  pub there : ready_in f c ≡ Some ready
  pub thread : d.thread ≡ ready.frame.thread
  pub numbers : d.numbers ≡ ready.numbers

fresh_is_own : (d : DoneOf) (f : ℕ) (c : Content) → is_stale_of d (frame_in f c.frames) ≡ false → IsOwn d f c
fresh_is_own d f c fresh = by_frame (frame_in f c.frames) refl fresh
  where
    by_frame : (o : Option Frame) → frame_in f c.frames ≡ o → is_stale_of d o ≡ false → IsOwn d f c
    by_frame None there is = absurd cc
    by_frame (Some x) there is =
        let own : is_turn_of d x ≡ true = not-false (is_turn_of d x) is in
        let both = and_parts (nat_eq x.thread d.thread) (holds_numbers x.slots d.numbers) own in
        let full : numbers_in x.slots ≡ Some d.numbers = held_numbers x.slots d.numbers both.1 in
        let at : ready_in f c ≡ Some (record { frame = x; numbers = d.numbers }) =
        ap (λ (k : Option Frame). k >>= ready) there
        ∙ ap (λ (k : Option (List ℤ)). k >>= λ (ns : List ℤ). Some (record { frame = x; numbers = ns })) full in
        record {
          ready = record { frame = x; numbers = d.numbers };
          there = at;
          thread = sym ((Decides-eqb x.thread d.thread).0 both.0);
          numbers = refl;
        }

-- a ready frame by its parts
record IsFull (f : ℕ) (c : Content) (r : Ready) : Type 0 where
  pub there : frame_in f c.frames ≡ Some r.frame
  pub full : numbers_in r.frame.slots ≡ Some r.numbers

is_full : (f : ℕ) (c : Content) (r : Ready) → ready_in f c ≡ Some r → IsFull f c r
is_full f c r is = by_frame (frame_in f c.frames) refl is
  where
    by_numbers : (x : Frame) (o : Option (List ℤ)) → frame_in f c.frames ≡ Some x → numbers_in x.slots ≡ o
        → (o >>= λ (ns : List ℤ). Some (record { frame = x; numbers = ns })) ≡ Some r → IsFull f c r
    by_numbers x None there full at = absurd cc
    by_numbers x (Some ns) there full at =
        let same : record { frame = x; numbers = ns } ≡ r = cc in
        rw (← same) (record { there = there; full = full })

    by_frame : (o : Option Frame) → frame_in f c.frames ≡ o → (o >>= ready) ≡ Some r → IsFull f c r
    by_frame None there at = absurd cc
    by_frame (Some x) there at = by_numbers x (numbers_in x.slots) there refl at

-- what a turn of it leads to
abbrev turned_as : Known → Ready → DoneOf → Content → ContentChange
turned_as known r d c = turned r.frame (resumed known r.frame.place d.turn) c

-- it is carried out by a turn on its numbers
carried_is : (known : Known) (f : ℕ) (c : Content) (r : Ready) (d : DoneOf) → ready_in f c ≡ Some r
    → d.thread ≡ r.frame.thread → d.numbers ≡ r.numbers → carry known d f c ≡ within_numbers (turned_as known r d c)
carried_is known f c r d ready thread numbers =
    let whole = is_full f c r ready in
    let holds : holds_numbers r.frame.slots d.numbers ≡ true =
    holds_same r.frame.slots d.numbers (whole.full ∙ ap Some (sym numbers)) in
    let is : is_turn_of d r.frame ≡ true = rw (eq-eqb r.frame.thread d.thread (sym thread), holds) refl in
    ap (executed known d c) whole.there ∙ ap (λ b. cond b (within_numbers (turned_as known r d c)) (Err sub.Stale)) is

-- the turn of a ready frame, as it was evaluated
same_done : (d : DoneOf) (p : Program) (t : ℕ) (numbers : List ℤ) → d.program ≡ p → d.thread ≡ t → d.numbers ≡ numbers
    → record { program = p; thread = t; numbers = numbers; turn = d.turn } ≡ d
same_done d p t numbers program thread given = rw (← program) (rw (← thread) (rw (← given) refl))

own_is : (p : Program) (r : Ready) (turn : Turn) → turn_of p r.frame.thread r.numbers ≡ Some turn
    → calls.own_turn p r ≡ Some (record { program = p; thread = r.frame.thread; numbers = r.numbers; turn = turn })
own_is p r turn reached = ap (λ (o : Option Turn). o >>= λ (t : Turn). Some
    (record { program = p; thread = r.frame.thread; numbers = r.numbers; turn = t })) reached

-- two choices in turn, where both are there
both_there : {A B : Type 0} {C : Type 0} (a : Option A) (x : A) (y : B) (next : A → Option B) (none other : C) (some : A
    → B → C) → a ≡ Some x → next x ≡ Some y → by_option a none (λ k. by_option (next k) other (some k)) ≡ some x y
unfolding by_option
both_there a x y next none other some first second = rw first (rw second refl)

-- and where only the first one is
first_there : {A B : Type 0} {C : Type 0} (a : Option A) (x : A) (next : A → Option B) (none other : C) (some : A → B
    → C) → a ≡ Some x → next x ≡ None → by_option a none (λ k. by_option (next k) other (some k)) ≡ other
unfolding by_option
first_there a x next none other some first second = rw first (rw second refl)

module _ (job : JobOf) (g : Grant) (f : ℕ) (n : NodeOf) (s : SubOf) (member : IsMember n.state)
    (there : sub_in g n.subs ≡ Some s) where
  ready_here : (o : Option Ready) → ready_in f s.content ≡ o
      → ready_at n g f ≡ (o >>= λ r. Some (record { sub = s; ready = r }))
  ready_here o is =
      ap (λ subs. ready_of_sub f (sub_in g subs)) (member_holds n member)
      ∙ ap (ready_of_sub f) there
      ∙ ap (λ (k : Option Ready). k >>= λ r. Some (record { sub = s; ready = r })) is

  -- by its own turn a frame is carried out as by one that was evaluated
  pub ready_known : (r : Ready) (d : DoneOf) → ready_in f s.content ≡ Some r → d.program ≡ job.program
      → d.thread ≡ r.frame.thread → d.numbers ≡ r.numbers → turn_of d.program d.thread d.numbers ≡ Some d.turn
      → calls.exec_ready job g f n ≡ calls.exec job d g f n
  ready_known r d is program thread numbers reached =
      let turn : turn_of job.program r.frame.thread r.numbers ≡ Some d.turn =
      rw (← program) (rw (← thread) (rw (← numbers) reached)) in
      let own : calls.own_turn job.program r ≡ Some d =
      own_is job.program r d.turn turn ∙ ap Some
      (same_done d job.program r.frame.thread r.numbers program thread numbers) in
      let x : ReadyFrame = record { sub = s; ready = r } in
      joined n.state _ _ (Refused error.NotJoined) (calls.exec job d g f n) member (λ _.
      both_there (ready_at n g f) x d (λ (k : ReadyFrame). calls.own_turn job.program k.ready) (Refused error.Stale)
      (Refused error.Stale) (λ _ (e : DoneOf). calls.exec job e g f n) (ready_here (Some r) is) own)

  -- so it is by one that isn't stale
  pub fresh_known : (d : DoneOf) → d.program ≡ job.program → turn_of d.program d.thread d.numbers ≡ Some d.turn
      → is_stale_of d (frame_in f s.content.frames) ≡ false → calls.exec_ready job g f n ≡ calls.exec job d g f n
  fresh_known d program reached fresh =
      let own = fresh_is_own d f s.content fresh in
      ready_known own.ready d own.there program own.thread own.numbers reached

  -- of a frame that is ready the turn is evaluated, and it isn't refused as stale
  turned_lacks_memory : (change : ContentChange) → MayLackMemory (calls.changed job s n (within_numbers change))
  turned_lacks_memory change = by_test (nat_lt change.after.next (2 ^ 32))
    where
      by_test : (b : Bool) → MayLackMemory
          (calls.changed job s n (cond {A = Result ContentChange SubError} b (Ok change) (Err sub.Spent)))
      by_test true = tt
      by_test false = tt

  exec_is : (d : DoneOf) → calls.exec job d g f n ≡ calls.changed job s n (carry (known_by s.saved) d f s.content)
  unfolding calls.exec
  exec_is d = joined n.state _ _ (Refused error.NotJoined)
      (calls.changed job s n (carry (known_by s.saved) d f s.content)) member
      (λ _. found job d g f n s (calls.changed job s n (carry (known_by s.saved) d f s.content)) there refl)

  pub ready_lacks_memory : IsTotal job.program → Fits job.program s.content → is_some (ready_in f s.content) ≡ true
      → MayLackMemory (calls.exec_ready job g f n)
  ready_lacks_memory total fits some =
      let has = some_ready f s.content some in
      let r = has.ready in
      let is = has.there in
      let reaches = total.each r.frame.thread r.numbers (ready_takes job.program f s.content r fits is) in
      let d : DoneOf = record {
        program = job.program;
        thread = r.frame.thread;
        numbers = r.numbers;
        turn = reaches.turn;
      } in
      let carried : carry (known_by s.saved) d f s.content
      ≡ within_numbers (turned_as (known_by s.saved) r d s.content) =
      carried_is (known_by s.saved) f s.content r d is refl refl in
      let known : calls.exec job d g f n ≡ calls.changed job s n
      (within_numbers (turned_as (known_by s.saved) r d s.content)) =
      exec_is d ∙ ap (calls.changed job s n) carried in
      rw (ready_known r d is refl refl refl reaches.reached
      ∙ known) (turned_lacks_memory (turned_as (known_by s.saved) r d s.content))

  -- by its whole value a frame is carried out as by a turn that sends it
  pub whole_known : (most : ℕ) (r : Ready) (v : ℤ) → ready_in f s.content ≡ Some r
      → calls.own_whole job.program most r ≡ Some v
      → calls.whole_ready job most g f n ≡ calls.exec job (calls.sends_it job.program r v) g f n
  whole_known most r v is own =
      let x : ReadyFrame = record { sub = s; ready = r } in
      joined n.state _ _ (Refused error.NotJoined) (calls.exec job (calls.sends_it job.program r v) g f n) member (λ _.
      both_there (ready_at n g f) x v (λ (k : ReadyFrame). calls.own_whole job.program most k.ready)
      (Refused error.Stale) (Refused error.NoValue)
      (λ (k : ReadyFrame) (w : ℤ). calls.exec job (calls.sends_it job.program k.ready w) g f n)
      (ready_here (Some r) is) own)

  -- and without one it isn't
  pub whole_unknown : (most : ℕ) (r : Ready) → ready_in f s.content ≡ Some r → calls.own_whole job.program most r ≡ None
      → calls.whole_ready job most g f n ≡ Refused error.NoValue
  whole_unknown most r is own =
      let x : ReadyFrame = record { sub = s; ready = r } in
      joined n.state _ _ (Refused error.NotJoined) (Refused error.NoValue) member (λ _.
      first_there (ready_at n g f) x (λ (k : ReadyFrame). calls.own_whole job.program most k.ready)
      (Refused error.Stale) (Refused error.NoValue)
      (λ (k : ReadyFrame) (w : ℤ). calls.exec job (calls.sends_it job.program k.ready w) g f n)
      (ready_here (Some r) is) own)

  -- of a frame that is ready the task is evaluated
  pub whole_lacks_memory : (most : ℕ) → is_some (ready_in f s.content) ≡ true
      → MayLackMemory (calls.whole_ready job most g f n)
  whole_lacks_memory most some = by_value (calls.own_whole job.program most (some_ready f s.content some).ready) refl
    where
      by_value : (o : Option ℤ) → calls.own_whole job.program most (some_ready f s.content some).ready ≡ o
          → MayLackMemory (calls.whole_ready job most g f n)
      by_value None own = rw (whole_unknown most (some_ready f s.content some).ready
          (some_ready f s.content some).there own) tt
      by_value (Some v) own =
          let r = (some_ready f s.content some).ready in
          let there = (some_ready f s.content some).there in
          let d : DoneOf = calls.sends_it job.program r v in
          let carried : carry (known_by s.saved) d f s.content
          ≡ within_numbers (turned_as (known_by s.saved) r d s.content) =
          carried_is (known_by s.saved) f s.content r d there refl refl in
          rw (whole_known most r v there own ∙ exec_is d
          ∙ ap (calls.changed job s n) carried) (turned_lacks_memory (turned_as (known_by s.saved) r d s.content))

  -- what was evaluated whole, of that frame's task, within so many turns
  pub whole_given : (most : ℕ) (w : WholeOf) (r : Ready) → ready_in f s.content ≡ Some r → w.program ≡ job.program
      → w.thread ≡ r.frame.thread → w.numbers ≡ r.numbers → w.room ≡ room r.frame.place → w.turns ≤ most → IsWhole w
      → calls.whole_ready job most g f n ≡ calls.exec job (ended job.program w.thread w.numbers (Sends w.value)) g f n
  whole_given most w r is program thread numbers place within whole =
      let turns : serial_turns job.program (room r.frame.place) r.frame.thread r.numbers ≡ w.turns =
      rw (← program) (rw (← thread) (rw (← numbers) (rw (← place) whole.takes))) in
      let gives : calls.whole_value job.program r ≡ Some w.value =
      rw (← program) (rw (← thread) (rw (← numbers) (rw (← place) whole.gives))) in
      let less : nat_le (serial_turns job.program (room r.frame.place) r.frame.thread r.numbers) most ≡ true =
      rw turns (le-leb _ most within) in
      let own : calls.own_whole job.program most r ≡ Some w.value =
      ap (λ b. cond b (calls.whole_value job.program r) None) less ∙ gives in
      rw thread (rw numbers (whole_known most r w.value is own))

  -- a task that takes more turns, or gives nothing
  pub whole_spent : (most : ℕ) (r : Ready) → ready_in f s.content ≡ Some r
      → most < serial_turns job.program (room r.frame.place) r.frame.thread r.numbers
      → calls.whole_ready job most g f n ≡ Refused error.NoValue
  whole_spent most r is more = whole_unknown most r is
      (ap (λ b. cond b (calls.whole_value job.program r) None) (lt-leb _ most more))

  pub whole_deep : (most : ℕ) (r : Ready) → ready_in f s.content ≡ Some r → calls.whole_value job.program r ≡ None
      → calls.whole_ready job most g f n ≡ Refused error.NoValue
  whole_deep most r is none = whole_unknown most r is
      (by_turns (nat_le (serial_turns job.program (room r.frame.place) r.frame.thread r.numbers) most))
    where
      by_turns : (b : Bool) → cond b (calls.whole_value job.program r) None ≡ None
      by_turns true = none
      by_turns false = refl

  -- so it is by one whose thread and numbers the frame has, and whose room its place
  pub whole_fresh : (most : ℕ) (w : WholeOf) (x : Frame) → frame_in f s.content.frames ≡ Some x
      → w.program ≡ job.program → w.room ≡ room x.place → w.turns ≤ most → IsWhole w
      → is_stale_of (ended job.program w.thread w.numbers (Sends w.value)) (frame_in f s.content.frames) ≡ false
      → calls.whole_ready job most g f n ≡ calls.exec job (ended job.program w.thread w.numbers (Sends w.value)) g f n
  whole_fresh most w x there program place within whole fresh =
      let own = fresh_is_own (ended job.program w.thread w.numbers (Sends w.value)) f s.content fresh in
      let full = is_full f s.content own.ready own.there in
      let both : Some own.ready.frame ≡ Some x = sym full.there ∙ there in
      let same : own.ready.frame ≡ x = cc in
      whole_given most w own.ready own.there program own.thread own.numbers (place
      ∙ ap (λ (y : Frame). room y.place) (sym same)) within whole

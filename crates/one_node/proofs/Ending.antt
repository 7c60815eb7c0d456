-- A run that has ended takes no further turn.
use Rattle.std.proofs.Common.{◌≡◌, ℕ, ◌<◌, ◌≤◌, zero, suc, Bool, true, false, cond, nat_lt, ◌⊎◌, List, [], length, Option, Some, None, refl, sym, ap, subst, ◌∙◌, arith, inl, inr}
use Rattle.std.proofs.lemmas.Bool.Decides.{eqb_tells, leb_tells}
use Rattle.ids.specs.Options.{◌>>=◌}
use Rattle.ids.specs.declared.outcome.Outcome.{Outcome}
use Rattle.ids.specs.declared.outcome.Outcome.TheVariants.{TooDeep}
use Rattle.ids.specs.declared.outcome.Progress.TheVariants.{Active, Finished}
use Rattle.ids.specs.declared.returns.Return.{Return}
use Rattle.ids.specs.declared.returns.Return.TheVariants.{Whole, Local}
use Rattle.ids.specs.declared.work.Frame.{Frame}
use Rattle.ids.specs.declared.work.Task.{Task}
use Rattle.task_tree.specs.declared.tree.Program.{Program}
use Rattle.kind_check.specs.declared.turn.Turn.{Turn}
use Rattle.kind_check.specs.declared.turn.Turn.TheVariants.{Sends, Joins}
use Rattle.kind_check.specs.Turns.{turn_of}
use Rattle.serial_meaning.specs.Job.{JobOf}
use Rattle.frames.specs.Frames.{frame_in, without_frame}
use Rattle.level_deques.specs.declared.posts.Post.{Post}
use Rattle.level_deques.specs.Posts.{deepest}
use Rattle.sub_rules.specs.declared.content.Content.{Content}
use Rattle.sub_rules.specs.Changes.{arrives, ends, filled_in, joined, replaced, turned}
use Rattle.sub_rules.specs.Content.{Ready, ready, ready_in}
use Rattle.one_node.specs.Outcomes.{IsRunEnd, IsShort}
use Rattle.one_node.specs.Runs.{RunOf, after, begun, next_of, one_turn, root_task, start_of}
use Rattle.one_node.specs.Runs as runs

-- a content goes on, or it has no frames
abbrev GoesOrIsEmpty : Content → Type 0
GoesOrIsEmpty c = (c.progress ≡ Active) ⊎ (c.frames ≡ [])

turned_so : (f : Frame) (t : Turn) (c : Content) → c.progress ≡ Active → GoesOrIsEmpty (turned f t c).after
turned_so f (Sends v) c active = by_return f.returns
  where
    left : Content
    left = record c { frames = without_frame f.number c.frames }

    by_found : (j : ℕ) (o : Option Frame) → GoesOrIsEmpty (filled_in j v left o).after
    by_found j None = inl active
    by_found j (Some g) = inl active

    by_return : (r : Return) → GoesOrIsEmpty (arrives r v left).after
    by_return Whole = inr refl
    by_return (Local n j) = by_found j (frame_in n left.frames)
turned_so f (Joins s slots) c active = by_test (nat_lt (length f.place) 1024)
  where
    by_test : (b : Bool) → GoesOrIsEmpty (cond b (replaced f.number (joined f s slots c.next) c) (ends TooDeep c)).after
    by_test true = inl active
    by_test false = inr refl

-- without frames there is no turn
none_chosen : (run : RunOf) → run.content.frames ≡ [] → runs.frame_to_run run ≡ None
none_chosen run empty = by_post (deepest run.posts)
  where
    by_post : (o : Option Post) → (o >>= λ (p : Post). ready_in p.frame run.content) ≡ None
    by_post None = refl
    by_post (Some p) = ap (λ (frames : List Frame). frame_in p.frame frames >>= ready) empty

no_turn : (p : Program) (run : RunOf) → run.content.frames ≡ [] → one_turn p run ≡ None
no_turn p run empty = ap (λ (o : Option Ready). o >>= λ (r : Ready). turn_of p r.frame.thread
    r.numbers >>= λ (t : Turn). Some (next_of run r t)) (none_chosen run empty)

-- a turn leads to a run that goes on or has no frames
step_so : (p : Program) (run next : RunOf) → GoesOrIsEmpty run.content → one_turn p run ≡ Some next
    → GoesOrIsEmpty next.content
step_so p run next (inr empty) turn = let none = no_turn p run empty in absurd cc
step_so p run next (inl active) turn = by_ready (runs.frame_to_run run) turn
  where
    by_turn : (r : Ready) (o : Option Turn) → (o >>= λ (t : Turn). Some (next_of run r t)) ≡ Some next
        → GoesOrIsEmpty next.content
    by_turn r None at = absurd cc
    by_turn r (Some t) at =
        let same : next_of run r t ≡ next = cc in
        subst (λ (x : RunOf). GoesOrIsEmpty x.content) same (turned_so r.frame t run.content active)

    by_ready : (o : Option Ready) → (o >>= λ (r : Ready). turn_of p r.frame.thread r.numbers >>= λ (t : Turn). Some
        (next_of run r t)) ≡ Some next → GoesOrIsEmpty next.content
    by_ready None at = absurd cc
    by_ready (Some r) at = by_turn r (turn_of p r.frame.thread r.numbers) at

start_so : (job : JobOf) (run : RunOf) → start_of job ≡ Some run → GoesOrIsEmpty run.content
start_so job run start = by_task (root_task job) start
  where
    by_task : (o : Option Task) → (o >>= λ (task : Task). Some (begun task)) ≡ Some run → GoesOrIsEmpty run.content
    by_task None at = absurd cc
    by_task (Some task) at =
        let same : begun task ≡ run = cc in
        subst (λ (x : RunOf). GoesOrIsEmpty x.content) same (inl refl)

reached_so : (job : JobOf) (n : ℕ) (run : RunOf) → after job n ≡ Some run → GoesOrIsEmpty run.content
reached_so job zero run reached = start_so job run reached
reached_so job (suc n) run reached = by_before (λ before is. reached_so job n before is) (after job n) refl reached
  where
    by_before : ((before : RunOf) → after job n ≡ Some before → GoesOrIsEmpty before.content) → (o : Option RunOf)
        → after job n ≡ o → (o >>= one_turn job.program) ≡ Some run → GoesOrIsEmpty run.content
    by_before rest None is at = absurd cc
    by_before rest (Some before) is at = step_so job.program before run (rest before is) at

-- behind a run that has ended there is none
ended_last : (job : JobOf) (n : ℕ) (run : RunOf) (o : Outcome) → after job n ≡ Some run
    → run.content.progress ≡ Finished o → one_turn job.program run ≡ None
ended_last job n run o reached ended = by_case (reached_so job n run reached)
  where
    by_case : GoesOrIsEmpty run.content → one_turn job.program run ≡ None
    by_case (inl active) = absurd cc
    by_case (inr empty) = no_turn job.program run empty

none_later : (job : JobOf) (n k : ℕ) (run : RunOf) → after job n ≡ Some run → one_turn job.program run ≡ None → n < k
    → after job k ≡ None
none_later job n zero run reached last more = absurd (omega arith)
none_later job n (suc k) run reached last more = elim (eqb_tells n k) [
  | inl both ↦ ap (λ (o : Option RunOf). o >>= one_turn job.program) (ap (after job) (sym both.1) ∙ reached) ∙ last
  | inr both ↦ ap (λ (o : Option RunOf). o >>= one_turn job.program)
      (none_later job n k run reached last (let other = both.1 in omega arith))
]

none_behind : (job : JobOf) (turns k : ℕ) (o : Outcome) (run : RunOf) (a : IsRunEnd job turns o)
    → after job k ≡ Some run → k ≤ a.n
none_behind job turns k o run a reached = elim (leb_tells k a.n) [
  | inl both ↦ both.1
  | inr both ↦
      let more : a.n < k = both.1 in
      let none = none_later job a.n k a.run a.reached (ended_last job a.n a.run o a.reached a.ended) more in
      absurd cc
]

pub one_number : (job : JobOf) (m n : ℕ) (o u : Outcome) (a : IsRunEnd job m o) (b : IsRunEnd job n u) → a.n ≡ b.n
one_number job m n o u a b =
    let le = none_behind job m b.n o b.run a b.reached in
    let ge = none_behind job n a.n u a.run b a.reached in
    omega arith

pub one_outcome : (job : JobOf) (m n : ℕ) (o u : Outcome) → IsRunEnd job m o → IsRunEnd job n u → o ≡ u
one_outcome job m n o u a b =
    let number = one_number job m n o u a b in
    let there : after job a.n ≡ Some b.run = rw number b.reached in
    let first = a.reached in
    let ended = a.ended in
    let other = b.ended in
    let same : a.run ≡ b.run = cc in
    let is : Finished o ≡ Finished u = sym ended ∙ ap (λ (x : RunOf). x.content.progress) same ∙ other in
    cc

pub not_short : (job : JobOf) (turns : ℕ) (o : Outcome) → IsRunEnd job turns o → IsShort job turns → ⊥
not_short job turns o a short =
    let le = none_behind job turns turns o short.run a short.reached in
    let within = a.within in
    let number : a.n ≡ turns = omega arith in
    let there : after job turns ≡ Some a.run = rw number at a.reached in
    let here = short.reached in
    let same : a.run ≡ short.run = cc in
    let last = ended_last job a.n a.run o a.reached a.ended in
    let none : one_turn job.program short.run ≡ None = rw same at last in
    let goes = rw none at short.goes_on in
    cc

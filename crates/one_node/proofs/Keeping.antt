-- What a turn keeps of a run that goes on.
use Rattle.std.proofs.Common.{◌≡◌, ℕ, ℤ, ◌+◌, Bool, true, false, cond, not, nat_lt, List, [], ◌∷◌, map, length, Option, Some, None, IsSome, Ok, Err, refl, sym, subst, add-one, ap, ◌∙◌}
use Rattle.std.specs.List.{filter}
use Rattle.std.proofs.lemmas.List.Kept.{IsStrictlySortedBy-filter}
use Rattle.std.specs.Ordering.{eq_by_cmp}
use Rattle.ids.specs.Named.{Name, name_cmp}
use Rattle.ids.specs.Naming.{name_of_frame}
use Rattle.ids.specs.Options.{◌>>=◌}
use Rattle.ids.specs.Ordered.{AreInOrder}
use Rattle.ids.specs.Slots.{numbers_in}
use Rattle.ids.specs.declared.outcome.Outcome.TheVariants.{TooDeep}
use Rattle.ids.specs.declared.outcome.Progress.TheVariants.{Active}
use Rattle.ids.specs.declared.returns.Return.{Return}
use Rattle.ids.specs.declared.returns.Return.TheVariants.{Whole, Local}
use Rattle.ids.specs.declared.work.Frame.{Frame}
use Rattle.ids.specs.declared.work.Task.{Task}
use Rattle.kind_check.specs.Total.{IsAccepted}
use Rattle.kind_check.specs.Turns.{turn_of}
use Rattle.kind_check.specs.declared.turn.Turn.{Turn}
use Rattle.kind_check.specs.declared.turn.Turn.TheVariants.{Sends, Joins}
use Rattle.body_eval.specs.Done.{DoneOf}
use Rattle.serial_meaning.specs.Job.{JobOf}
use Rattle.frames.specs.Frames.{frame_in, missing_in, without_frame}
use Rattle.level_deques.specs.declared.posts.Post.{Post}
use Rattle.level_deques.specs.Posts.{deepest, withdrawn}
use Rattle.sub_rules.specs.declared.change.ContentChange.{ContentChange}
use Rattle.sub_rules.specs.declared.change.SubError.TheVariants.{Spent}
use Rattle.sub_rules.specs.declared.content.Content.{Content}
use Rattle.sub_rules.specs.Carrying.{exec_content}
use Rattle.sub_rules.specs.Resuming.{Known, nothing_known, resumed}
use Rattle.sub_rules.proofs.KnownJoins.{nothing_changes}
use Rattle.sub_rules.specs.Changes.{arrives, ends, filled_in, joined, replaced, turned}
use Rattle.sub_rules.specs.Debts.{IsSound}
use Rattle.sub_rules.specs.Leaving.{LacksDebtor}
use Rattle.sub_rules.proofs.Arrivals.{awaited}
use Rattle.sub_rules.proofs.Departures.{frame_leaves, frame_number}
use Rattle.sub_rules.proofs.Slots.{numbers_full}
use Rattle.agreement_laws.specs.Agreement.{ContentAgrees, KnownAgrees}
use Rattle.one_node.specs.declared.fault.RunFault.{RunFault}
use Rattle.one_node.specs.declared.fault.RunFault.TheVariants.{TurnsSpent, NumbersSpent, Memory}
use Rattle.one_node.specs.Runs.{RunOf, after, one_turn, own_grant, posted_readied, with_change}
use Rattle.one_node.specs.Holding.{ArePosted, Follows, Holds, IsCarried, IsSpent, IsTurnOf, TurnFails}
use Rattle.one_node.proofs.Posting.{come_posted, filled_posted, left_posted}
use Rattle.one_node.proofs.Turning.{carried_is, next_frame, spent_is, turn_is, within_is}

-- frames stay in order where one goes
filtered_names : (p : Name → Bool) (frames : List Frame)
    → filter p (map name_of_frame frames) ≡ map name_of_frame (filter (λ f. p (name_of_frame f)) frames)
filtered_names p [] = refl
filtered_names p (f ∷ fs) = by_test (filtered_names p fs) (p (name_of_frame f))
  where
    by_test : filter p (map name_of_frame fs) ≡ map name_of_frame (filter (λ g. p (name_of_frame g)) fs) → (b : Bool)
        → cond b (name_of_frame f ∷ filter p (map name_of_frame fs)) (filter p (map name_of_frame fs))
        ≡ map name_of_frame (cond b (f ∷ filter (λ g. p (name_of_frame g)) fs) (filter (λ g. p (name_of_frame g)) fs))
    by_test rest true = ap (λ ns. name_of_frame f ∷ ns) rest
    by_test rest false = rest

left_order : (n : ℕ) (frames : List Frame) → AreInOrder name_of_frame frames
    → AreInOrder name_of_frame (without_frame n frames)
left_order n frames order =
    let other : Name → Bool = λ name. not (eq_by_cmp name_cmp (n, 0) name) in
    rw (filtered_names other frames) at (IsStrictlySortedBy-filter name_cmp other (map name_of_frame frames) order)

-- the root task stays, and no records come
pub record Stays (c d : Content) : Type 0 where
  pub task : d.task ≡ c.task
  pub none : c.records ≡ [] → d.records ≡ []

stays : (f : Frame) (t : Turn) (c : Content) → Stays c (turned f t c).after
stays f (Sends v) c = by_return f.returns
  where
    left : Content
    left = record c { frames = without_frame f.number c.frames }

    by_found : (j : ℕ) (o : Option Frame) → Stays c (filled_in j v left o).after
    by_found j None = record { task = refl; none = λ e. e }
    by_found j (Some g) = record { task = refl; none = λ e. e }

    by_return : (r : Return) → Stays c (arrives r v left).after
    by_return Whole = record { task = refl; none = λ e. refl }
    by_return (Local n j) = by_found j (frame_in n left.frames)
stays f (Joins s slots) c = by_test (nat_lt (length f.place) 1024)
  where
    by_test : (b : Bool) → Stays c (cond b (replaced f.number (joined f s slots c.next) c) (ends TooDeep c)).after
    by_test true = record { task = refl; none = λ e. e }
    by_test false = record { task = refl; none = λ e. refl }

-- the ready frames are posted
still_posted : (f : Frame) (t : Turn) (c : Content) (posts : List Post) → IsSound c → AreInOrder name_of_frame c.frames
    → frame_in f.number c.frames ≡ Some f → missing_in f.slots ≡ 0 → (turned f t c).after.progress ≡ Active
    → ArePosted c.frames posts → ArePosted (turned f t c).after.frames
    (posted_readied (turned f t c).ready (withdrawn own_grant f.number posts))
still_posted f (Sends v) c posts sound order there full active are = by_return f.returns refl active
  where
    frames : List Frame
    frames = without_frame f.number c.frames

    rest : List Post
    rest = withdrawn own_grant f.number posts

    left : ArePosted frames rest
    left = left_posted f c.frames posts order there are

    by_found : (n j : ℕ) (o : Option Frame) → frame_in n frames ≡ o
        → LacksDebtor (Local n j) (record c { frames = frames })
        → ArePosted (filled_in j v (record c { frames = frames }) o).after.frames
        (posted_readied (filled_in j v (record c { frames = frames }) o).ready rest)
    by_found n j None found lacks = left
    by_found n j (Some g) found lacks =
        let number : n ≡ g.number = frame_number n g frames found in
        let empty = awaited (record c { frames = frames }) n j lacks in
        filled_posted g j v frames rest (left_order f.number c.frames order) (rw number at found)
        (rw found at empty) left

    by_return : (r : Return) → f.returns ≡ r → (arrives r v (record c { frames = frames })).after.progress ≡ Active
        → ArePosted (arrives r v (record c { frames = frames })).after.frames
        (posted_readied (arrives r v (record c { frames = frames })).ready rest)
    by_return Whole is goes = absurd cc
    by_return (Local n j) is goes =
        let leaves = frame_leaves c f sound order (left_order f.number c.frames order) there full in
        by_found n j (frame_in n frames) refl (rw is at leaves.lacks)
still_posted f (Joins s slots) c posts sound order there full active are = by_test (nat_lt (length f.place) 1024) active
  where
    by_test : (b : Bool) → (cond b (replaced f.number (joined f s slots c.next) c) (ends TooDeep c)).after.progress
        ≡ Active → ArePosted (cond b (replaced f.number (joined f s slots c.next) c) (ends TooDeep c)).after.frames
        (posted_readied (cond b (replaced f.number (joined f s slots c.next) c) (ends TooDeep c)).ready
        (withdrawn own_grant f.number posts))
    by_test true goes = come_posted (joined f s slots c.next) (without_frame f.number c.frames)
        (withdrawn own_grant f.number posts) (left_posted f c.frames posts order there are)
    by_test false goes = absurd cc

-- what is said of turns: they keep agreement
abbrev pub KeepsAgreement : JobOf → Type 0
KeepsAgreement job = (c : Content) (f : Frame) (numbers : List ℤ) (turn : Turn) → IsAccepted job.program → IsSound c
    → AreInOrder name_of_frame c.frames → ContentAgrees job c → frame_in f.number c.frames ≡ Some f
    → numbers_in f.slots ≡ Some numbers → turn_of job.program f.thread numbers ≡ Some turn
    → ContentAgrees job (turned f turn c).after

abbrev pub KnownKeeps : JobOf → Type 0
KnownKeeps job = (known : Known) (c : Content) (f : Frame) (numbers : List ℤ) (turn : Turn) → IsAccepted job.program
    → KnownAgrees job known → IsSound c → AreInOrder name_of_frame c.frames → ContentAgrees job c
    → frame_in f.number c.frames ≡ Some f → numbers_in f.slots ≡ Some numbers
    → turn_of job.program f.thread numbers ≡ Some turn
    → ContentAgrees job (turned f (resumed known f.place turn) c).after

-- also where nothing is known
pub by_nothing : (job : JobOf) → KnownKeeps job → KeepsAgreement job
by_nothing job law c f numbers turn accepted sound order agrees there full reached =
    subst (λ t. ContentAgrees job (turned f t c).after) (nothing_changes f.place turn)
    (law nothing_known c f numbers turn accepted (λ place v is. absurd cc) sound order agrees there full reached)

-- the run after the turn of a frame
follows : (job : JobOf) (run : RunOf) (n : ℕ) (f : Frame) (numbers : List ℤ) (t : Turn) → KeepsAgreement job
    → Holds job run → frame_in n run.content.frames ≡ Some f → numbers_in f.slots ≡ Some numbers
    → turn_of job.program f.thread numbers ≡ Some t → IsSound (turned f t run.content).after
    → AreInOrder name_of_frame (turned f t run.content).after.frames
    → Follows job (with_change n (turned f t run.content) run)
follows job run n f numbers t law holds there full reached sound order = record {
  agrees = agrees;
  rooted = rooted;
  goes_on = λ active. (record {
    known = holds.known;
    active = active;
    sound = sound;
    alone = (stays f t run.content).none holds.alone;
    order = order;
    agrees = agrees;
    rooted = rooted;
    posted = rw number (still_posted f t run.content run.posts holds.sound holds.order here
        (numbers_full f.slots numbers full) active holds.posted);
  });
}
  where
    number : n ≡ f.number
    number = frame_number n f run.content.frames there

    here : frame_in f.number run.content.frames ≡ Some f
    here = rw number at there

    agrees : ContentAgrees job (turned f t run.content).after
    agrees = law run.content f numbers t holds.known.accepted holds.sound holds.order holds.agrees here full reached

    rooted : (turned f t run.content).after.task.place ≡ []
    rooted = ap (λ (task : Task). task.place) (stays f t run.content).task ∙ holds.rooted

-- a frame that was carried out is a turn of the run
pub turn_taken : (job : JobOf) (run : RunOf) (post : Post) (d : DoneOf) (t : IsTurnOf run.content post.frame d)
    (change : ContentChange) → deepest run.posts ≡ Some post → d.program ≡ job.program
    → exec_content nothing_known d post.frame run.content ≡ Ok change
    → one_turn job.program run ≡ Some (with_change post.frame change run)
turn_taken job run post d t change first program done =
    let same : turned t.frame d.turn run.content ≡ change =
    within_is (turned t.frame d.turn run.content) change (sym (carried_is run.content post.frame d t) ∙ done) in
    turn_is job run post t.frame d.numbers d.turn first t.there t.full (rw (program, t.thread) at t.evaluated.reached)
    ∙ ap (λ (x : ContentChange). Some (with_change post.frame x run)) same

pub turn_follows : (job : JobOf) (run : RunOf) (post : Post) (d : DoneOf) (t : IsTurnOf run.content post.frame d)
    (change : ContentChange) → KeepsAgreement job → Holds job run → d.program ≡ job.program
    → exec_content nothing_known d post.frame run.content ≡ Ok change → IsSound change.after
    → AreInOrder name_of_frame change.after.frames → Follows job (with_change post.frame change run)
turn_follows job run post d t change law holds program done sound order =
    let same : turned t.frame d.turn run.content ≡ change =
    within_is (turned t.frame d.turn run.content) change (sym (carried_is run.content post.frame d t) ∙ done) in
    rw same at (follows job run post.frame t.frame d.numbers d.turn law holds t.there t.full
    (rw (program, t.thread) at t.evaluated.reached) (rw same sound) (rw same order))

-- a frame that isn't carried out since numbers run out
pub turn_spent : (job : JobOf) (run : RunOf) (post : Post) (d : DoneOf) (t : IsTurnOf run.content post.frame d)
    → deepest run.posts ≡ Some post → d.program ≡ job.program
    → exec_content nothing_known d post.frame run.content ≡ Err Spent → IsSpent job run
turn_spent job run post d t first program refused = record {
  next = with_change post.frame (turned t.frame d.turn run.content) run;
  turn = turn_is job run post t.frame d.numbers d.turn first t.there t.full
      (rw (program, t.thread) at t.evaluated.reached);
  spent = spent_is (turned t.frame d.turn run.content) (sym (carried_is run.content post.frame d t) ∙ refused);
}

pub turn_fails : (job : JobOf) (run : RunOf) (post : Post) (d : DoneOf) (t : IsTurnOf run.content post.frame d)
    (e : RunFault) → deepest run.posts ≡ Some post → d.program ≡ job.program → (after : Content)
    → IsCarried (exec_content nothing_known d post.frame run.content) after (Err e) → TurnFails job run e
turn_fails job run post d t TurnsSpent first program after refused = refused
turn_fails job run post d t NumbersSpent first program after refused = turn_spent job run post d t first program refused
turn_fails job run post d t Memory first program after refused = tt

-- a run that goes on has a next turn
pub has_turn : (job : JobOf) (run : RunOf) → Holds job run → IsSome (one_turn job.program run)
has_turn job run holds =
    let n = next_frame job run holds in
    let f = n.frame in
    let r = holds.known.accepted.total.each f.frame.thread f.numbers f.takes in
    rw (turn_is job run n.post f.frame f.numbers r.turn n.first f.there f.full r.reached) refl

-- a run that was reached takes one more turn
pub reached_next : (job : JobOf) (n : ℕ) (run next : RunOf) → after job n ≡ Some run
    → one_turn job.program run ≡ Some next → after job (n + 1) ≡ Some next
reached_next job n run next reached turn =
    ap (after job) (add-one n) ∙ ap (λ (o : Option RunOf). o >>= one_turn job.program) reached ∙ turn

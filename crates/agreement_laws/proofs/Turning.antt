-- Contents that begin, and turns.
use Rattle.std.proofs.Common.{◌≡◌, ℕ, ℤ, ◌+◌, ◌<◌, ◌≤◌, Bool, true, false, cond, nat_lt, if◌then◌else◌, List, [], ◌∷◌, length, Option, Some, None, refl, sym, ap}
use Rattle.std.specs.Ordering.{is_eq}
use Rattle.std.proofs.lemmas.Bool.{ltb-true, ltb-false}
use Rattle.ids.specs.Named.{name_cmp}
use Rattle.ids.specs.Naming.{name_of_frame}
use Rattle.ids.specs.Ordered.{AreInOrder}
use Rattle.ids.specs.declared.outcome.Outcome.TheVariants.{TooDeep}
use Rattle.ids.specs.declared.work.Frame.{Frame}
use Rattle.ids.specs.declared.work.Record.{Record}
use Rattle.ids.specs.declared.work.Task.{Task}
use Rattle.task_tree.specs.declared.tree.Program.{Program}
use Rattle.kind_check.specs.declared.turn.Slot.{Slot}
use Rattle.kind_check.specs.declared.turn.Turn.{Turn}
use Rattle.kind_check.specs.declared.turn.Turn.TheVariants.{Sends, Joins}
use Rattle.kind_check.specs.Turns.{turn_of}
use Rattle.kind_check.specs.Total.{IsAccepted, Takes, TurnFits}
use Rattle.serial_meaning.specs.Serial.{serial}
use Rattle.serial_meaning.specs.Places.{room, value_within, value_at, outcome_of}
use Rattle.serial_meaning.specs.Job.{JobOf}
use Rattle.serial_meaning.specs.Agrees.{numbers_in}
use Rattle.serial_meaning.proofs.FrameLaws.{sent_value, last_value, call_of}
use Rattle.frames.specs.Frames.{frame_in, without_frame}
use Rattle.sub_rules.specs.declared.content.Content.{Content}
use Rattle.sub_rules.specs.Content.{first_frame, granted_content}
use Rattle.sub_rules.specs.Changes.{turned, replaced, joined, ends}
use Rattle.sub_rules.specs.Debts.{IsSound}
use Rattle.sub_rules.proofs.Sums.{all_filtered}
use Rattle.sub_rules.proofs.Slots.{numbers_full}
use Rattle.sub_rules.specs.Resuming.{Known, resumed, resumed_slots}
use Rattle.agreement_laws.specs.Agreement.{TaskAgrees, FrameHolds, ContentAgrees, KnownAgrees}
use Rattle.agreement_laws.proofs.Places.{none_at_root}
use Rattle.agreement_laws.proofs.Tasks.{task_holds, frame_task}
use Rattle.agreement_laws.proofs.Leaving.{Unowed, ready_unowed, left_agrees, left_owes}
use Rattle.agreement_laws.proofs.Arriving.{ChangeAgrees, end_agrees, arrival_agrees}
use Rattle.agreement_laws.proofs.Resuming.{known_stand}
use Rattle.agreement_laws.proofs.Joining.{join_agrees}

-- the content with which a task begins
pub granted_agrees : (job : JobOf) (host : ℕ) (task : Task) → TaskAgrees job task
    → ContentAgrees job (granted_content host task)
granted_agrees job host task agrees = record {
  task = agrees;
  frames = λ n f at. rw (only f (is_eq (name_cmp (n, 0) (0, 0))) at) first;
  records = λ g r at. absurd (no_record r at);
  outcome = tt;
}
  where
    first : FrameHolds job task.place (first_frame task ∷ []) (first_frame task)
    first = task_holds job task.place (first_frame task ∷ []) (first_frame task) task agrees refl refl refl
        (record { steps = []; is = refl }) refl

    only : (f : Frame) (b : Bool) → cond b (Some (first_frame task)) None ≡ Some f → f ≡ first_frame task
    only f true at = cc
    only f false at = cc

    no_record : (r : Record) → None ≡ Some r → ⊥
    no_record r at = cc

-- an accepted program's turns fit
turn_fits : (p : Program) (t : ℕ) (numbers : List ℤ) (turn : Turn) → IsAccepted p → Takes p t (length numbers)
    → turn_of p t numbers ≡ Some turn → TurnFits p turn
turn_fits p t numbers turn accepted takes is =
    let reaches = accepted.total.each t numbers takes in
    let same : reaches.turn ≡ turn = same_turn (turn_of p t numbers) reaches.turn reaches.reached is in
    rw same at reaches.fits
  where
    same_turn : (o : Option Turn) (a : Turn) → o ≡ Some a → o ≡ Some turn → a ≡ turn
    same_turn o a x y = cc

-- a ready frame of a content that agrees, and its turn
pub record Turns (job : JobOf) (c : Content) (f : Frame) (numbers : List ℤ) (turn : Turn) : Type 0 where
  pub sound : IsSound c
  pub agrees : ContentAgrees job c
  pub there : frame_in f.number c.frames ≡ Some f
  pub unowed : Unowed c f.number
  pub task : TaskAgrees job (record { place = f.place; thread = f.thread; numbers = numbers })
  pub turn_is : turn_of job.program f.thread numbers ≡ Some turn
  pub fits : TurnFits job.program turn

-- a frame that joins where no place is below makes the whole too deep
deep_agrees : (job : JobOf) (c : Content) (f : Frame) (numbers : List ℤ) (t : ℕ) (slots : List Slot)
    → Turns job c f numbers (Joins t slots) → 1024 ≤ length f.place → ChangeAgrees job (ends TooDeep c)
deep_agrees job c f numbers t slots turns long =
    let holds = turns.agrees.frames f.number f turns.there in
    let none = last_value job.program job.input f.place f.thread numbers t slots long turns.task.at turns.turn_is in
    end_agrees job TooDeep c turns.agrees.task
    (sym (ap outcome_of (none_at_root job.program job.input c.task.place f.place
    (call_of f.thread numbers) holds.below turns.task.short turns.task.at none)))

-- a frame that joins above has the frames of its join in its place, by what is known of its kids'
-- values
replaced_agrees : (job : JobOf) (known : Known) (c : Content) (f : Frame) (numbers : List ℤ) (t : ℕ) (slots : List Slot)
    → KnownAgrees job known → Turns job c f numbers (Joins t slots) → length f.place < 1024
    → ChangeAgrees job (replaced f.number (joined f t (resumed_slots known f.place slots) c.next) c)
replaced_agrees job known c f numbers t slots right turns short =
    let holds = turns.agrees.frames f.number f turns.there in
    let rest = without_frame f.number c.frames in
    let xs = resumed_slots known f.place slots in
    record {
      content = join_agrees job c rest f numbers t slots xs (c.next + length (joined f t xs c.next))
          (left_agrees job c f.number turns.unowed turns.agrees)
          (all_filtered (λ x. x.number < c.next) _ c.frames turns.sound.below)
          (record {
            task = turns.task.at;
            turn = turns.turn_is;
            takes = turns.fits.0;
            fits = turns.fits.1;
            below = holds.below;
            short = short;
            stand = known_stand job known f.place f.thread numbers t slots right turns.task.at turns.turn_is;
          })
          (left_owes job c f turns.unowed turns.there turns.agrees);
      fill = tt;
    }

turn_of_kind : (job : JobOf) (known : Known) (c : Content) (f : Frame) (numbers : List ℤ) (turn : Turn)
    → KnownAgrees job known → Turns job c f numbers turn → ChangeAgrees job (turned f (resumed known f.place turn) c)
turn_of_kind job known c f numbers (Sends v) right turns =
    arrival_agrees job (record c { frames = without_frame f.number c.frames }) f.place f.returns v
    (left_agrees job c f.number turns.unowed turns.agrees)
    (left_owes job c f turns.unowed turns.there turns.agrees)
    (sent_value job.program job.input f.place f.thread numbers v turns.task.at turns.turn_is)
turn_of_kind job known c f numbers (Joins t slots) right turns = by_depth (nat_lt (length f.place) 1024) refl
  where
    by_depth : (b : Bool) → nat_lt (length f.place) 1024 ≡ b
        → ChangeAgrees job (if b then replaced f.number
        (joined f t (resumed_slots known f.place slots) c.next) c else ends TooDeep c)
    by_depth true is = replaced_agrees job known c f numbers t slots right turns (ltb-true (length f.place) 1024 is)
    by_depth false is = deep_agrees job c f numbers t slots turns (ltb-false (length f.place) 1024 is)

-- what the task at a place gives is the value there
given_value : (job : JobOf) (task : Task) (v : ℤ) → TaskAgrees job task
    → serial job.program (room task.place) task.thread task.numbers ≡ Some v
    → value_at job.program job.input task.place ≡ Some v
unfolding value_within
given_value job task v agrees is = rw (agrees.at) is

-- a ready frame that sends what its task gives, in the room below its place, keeps agreement
pub given_agrees : (job : JobOf) (c : Content) (f : Frame) (numbers : List ℤ) (v : ℤ) → IsSound c
    → AreInOrder name_of_frame c.frames → ContentAgrees job c → frame_in f.number c.frames ≡ Some f
    → numbers_in f.slots ≡ Some numbers → serial job.program (room f.place) f.thread numbers ≡ Some v
    → ChangeAgrees job (turned f (Sends v) c)
given_agrees job c f numbers v sound order agrees there full is =
    let task = frame_task job c.task.place c.frames f numbers (agrees.frames f.number f there) full in
    let unowed = ready_unowed c f sound order there (numbers_full f.slots numbers full) in
    arrival_agrees job (record c { frames = without_frame f.number c.frames }) f.place f.returns v
    (left_agrees job c f.number unowed agrees)
    (left_owes job c f unowed there agrees)
    (given_value job (record { place = f.place; thread = f.thread; numbers = numbers }) v task is)

-- a turn keeps agreement
pub turn_agrees : (job : JobOf) (known : Known) (c : Content) (f : Frame) (numbers : List ℤ) (turn : Turn)
    → IsAccepted job.program → KnownAgrees job known → IsSound c → AreInOrder name_of_frame c.frames
    → ContentAgrees job c → frame_in f.number c.frames ≡ Some f → numbers_in f.slots ≡ Some numbers
    → turn_of job.program f.thread numbers ≡ Some turn → ChangeAgrees job (turned f (resumed known f.place turn) c)
turn_agrees job known c f numbers turn accepted right sound order agrees there full is =
    let task = frame_task job c.task.place c.frames f numbers (agrees.frames f.number f there) full in
    turn_of_kind job known c f numbers turn right (record {
      sound = sound;
      agrees = agrees;
      there = there;
      unowed = ready_unowed c f sound order there (numbers_full f.slots numbers full);
      task = task;
      turn_is = is;
      fits = turn_fits job.program f.thread numbers turn accepted task.takes is;
    })

-- The frames that a join makes hold what the serial meaning says of their places.
use Rattle.std.proofs.Common.{◌≡◌, ℕ, ℤ, ◌+◌, ◌<◌, zero, suc, cond, List, [], ◌∷◌, ◌++◌, map, length, Some, inl, inr, refl, sym, ap, ◌∙◌, arith, add-zero}
use Rattle.std.specs.List.{AllByRecursion, slice_get}
use Rattle.std.specs.Ordering.{is_eq}
use Rattle.task_tree.specs.declared.tree.Program.{Program}
use Rattle.kind_check.specs.declared.turn.Kid.{Kid}
use Rattle.kind_check.specs.declared.turn.Slot.{Slot}
use Rattle.kind_check.specs.declared.turn.Slot.TheVariants.{Filled, Awaits}
use Rattle.kind_check.specs.declared.turn.Turn.TheVariants.{Joins}
use Rattle.kind_check.specs.Turns.{given_of, turn_of}
use Rattle.kind_check.specs.Total.{Takes, SlotsFit}
use Rattle.ids.specs.Naming.{name_of_frame}
use Rattle.ids.specs.declared.returns.Return.{Return}
use Rattle.ids.specs.declared.returns.Return.TheVariants.{Whole, Local}
use Rattle.ids.specs.declared.work.Frame.{Frame}
use Rattle.serial_meaning.specs.Serial.{serial}
use Rattle.serial_meaning.specs.Places.{task_at, value_at, room}
use Rattle.serial_meaning.specs.Job.{JobOf}
use Rattle.serial_meaning.proofs.FrameLaws.{call_of, joined_value, kid_value, kid_task}
use Rattle.frames.specs.Frames.{frame_in, AreBelow}
use Rattle.sub_rules.specs.declared.content.Content.{Content}
use Rattle.sub_rules.specs.Changes.{successor, kids, joined}
use Rattle.sub_rules.proofs.Sums.{all_found, equal_to_itself}
use Rattle.sub_rules.proofs.Numbers.{absent, below_none}
use Rattle.agreement_laws.specs.Agreement.{IsBelow, IsOwed, FrameHolds, TaskAgrees, ContentAgrees}
use Rattle.agreement_laws.proofs.Resuming.{SlotsStand, stand_agree, stand_length, stand_awaits}
use Rattle.agreement_laws.proofs.Finding.{behind, before, before_or_behind}
use Rattle.agreement_laws.proofs.Tasks.{task_holds}
use Rattle.agreement_laws.proofs.Owing.{Keeps, still_owed, still_holds, record_still_holds}

-- a full frame whose task joins, and what stands for its slots
pub record IsJoining (job : JobOf) (root : List ℕ) (f : Frame) (numbers : List ℤ) (t : ℕ)
    (slots xs : List Slot) : Type 0 where
  pub task : task_at job.program job.input f.place ≡ Some (call_of f.thread numbers)
  pub turn : turn_of job.program f.thread numbers ≡ Some (Joins t slots)
  pub takes : Takes job.program t (length slots)
  pub fits : SlotsFit job.program slots
  pub below : IsBelow root f.place
  pub short : length f.place < 1024
  pub stand : SlotsStand (serial job.program (room (zero ∷ f.place))) slots xs

step_below : (root place : List ℕ) (i : ℕ) → IsBelow root place → IsBelow root (i ∷ place)
step_below root place i below = record { steps = i ∷ below.steps; is = ap (λ q. i ∷ q) below.is }

length_slots : (slots : List Slot) → length (map given_of slots) ≡ length slots
length_slots [] = refl
length_slots (slot ∷ slots) = ap suc (length_slots slots)

-- what a task owes, its successor owes
successor_owed : (job : JobOf) (root : List ℕ) (frames : List Frame) (q : List ℕ) (r : Return)
    → value_at job.program job.input q ≡ value_at job.program job.input (zero ∷ q) → IsOwed job root frames q r
    → IsOwed job root frames (zero ∷ q) r
successor_owed job root frames q Whole same owed = sym same ∙ owed
successor_owed job root frames q (Local n j) same owed = record {
  parent = owed.parent;
  before = owed.before;
  there = owed.there;
  successor = owed.successor;
  value = sym same ∙ owed.value;
}

-- the successor holds
successor_holds : (job : JobOf) (root : List ℕ) (frames : List Frame) (f : Frame) (numbers : List ℤ) (t : ℕ)
    (slots xs : List Slot) (n : ℕ) → IsJoining job root f numbers t slots xs → IsOwed job root frames f.place f.returns
    → FrameHolds job root frames (successor f t xs n)
successor_holds job root frames f numbers t slots xs n joins owed = record {
  takes = rw (length_slots xs, stand_length (serial job.program (room (zero ∷ f.place))) slots xs joins.stand)
      joins.takes;
  agrees = record {
    before = call_of f.thread numbers;
    joined = slots;
    at = joins.task;
    turn = joins.turn;
    filled = stand_agree (serial job.program (room (zero ∷ f.place))) slots xs joins.stand;
  };
  short = let short = joins.short in omega arith;
  below = step_below root f.place zero joins.below;
  owed = successor_owed job root frames f.place f.returns
      (joined_value job.program job.input f.place f.thread numbers t slots joins.short joins.task joins.turn) owed;
}

-- what a kid takes
kid_takes : (p : Program) (slots : List Slot) (j : ℕ) (kid : Kid) → SlotsFit p slots
    → slice_get slots j ≡ Some (Awaits kid) → Takes p kid.thread (length kid.arguments)
kid_takes p [] j kid fits at = cc
kid_takes p (Filled v ∷ slots) zero kid fits at = cc
kid_takes p (Awaits k ∷ slots) zero kid fits at = let same : k ≡ kid = cc in rw same at fits.0
kid_takes p (slot ∷ slots) (suc j) kid fits at = kid_takes p slots j kid fits.1 at

-- the kid of a slot, as frame m, which fills slot j of frame n
abbrev kid_frame : List ℕ → ℕ → ℕ → ℕ → Kid → Frame
kid_frame place n j m kid = record {
  number = m;
  place = kid.hole ∷ place;
  thread = kid.thread;
  slots = map Some kid.arguments;
  returns = Local n j;
}

kid_holds : (job : JobOf) (root : List ℕ) (frames : List Frame) (f : Frame) (numbers : List ℤ) (t : ℕ)
    (slots xs : List Slot) (n j m : ℕ) (kid : Kid) → IsJoining job root f numbers t slots xs
    → frame_in n frames ≡ Some (successor f t xs n) → slice_get slots j ≡ Some (Awaits kid)
    → FrameHolds job root frames (kid_frame f.place n j m kid)
kid_holds job root frames f numbers t slots xs n j m kid joins there at =
    let task : TaskAgrees job (record { place = kid.hole ∷ f.place; thread = kid.thread; numbers = kid.arguments }) =
    record {
      takes = kid_takes job.program slots j kid joins.fits at;
      at = kid_task job.program job.input f.place f.thread numbers t slots j kid joins.task joins.turn at;
      short = let short = joins.short in omega arith;
    } in
    task_holds job root frames (kid_frame f.place n j m kid)
    (record { place = kid.hole ∷ f.place; thread = kid.thread; numbers = kid.arguments }) task refl refl refl
    (step_below root f.place kid.hole joins.below)
    (record {
      parent = successor f t xs n;
      before = f.place;
      there = there;
      successor = refl;
      value = kid_value job.program job.input f.place f.thread numbers t slots j kid joins.task joins.turn at;
    })

-- the kids of the slots from slot j on hold
kids_hold : (job : JobOf) (root : List ℕ) (frames : List Frame) (f : Frame) (numbers : List ℤ) (t : ℕ)
    (slots xs : List Slot) (n j m : ℕ) (rest : List Slot) → IsJoining job root f numbers t slots xs
    → frame_in n frames ≡ Some (successor f t xs n) → ((i : ℕ) → slice_get rest i ≡ slice_get xs (j + i))
    → AllByRecursion (FrameHolds job root frames) (kids f.place n j m rest)
kids_hold job root frames f numbers t slots xs n j m [] joins there at = tt
kids_hold job root frames f numbers t slots xs n j m (Filled v ∷ rest) joins there at =
    kids_hold job root frames f numbers t slots xs n (j + 1) m rest joins there
    (λ i. let shift : j + 1 + i ≡ j + suc i = omega arith in rw shift (at (suc i)))
kids_hold job root frames f numbers t slots xs n j m (Awaits kid ∷ rest) joins there at =
    let stands : slice_get xs j ≡ Some (Awaits kid) = sym (rw add-zero at (at 0)) in
    let here : slice_get slots j ≡ Some (Awaits kid) =
    stand_awaits (serial job.program (room (zero ∷ f.place))) slots xs j kid joins.stand stands in (
      kid_holds job root frames f numbers t slots xs n j m kid joins there here,
      kids_hold job root frames f numbers t slots xs n (j + 1) (m + 1) rest joins there
          (λ i. let shift : j + 1 + i ≡ j + suc i = omega arith in rw shift (at (suc i))),
    )

-- the frames that a join makes hold
made_hold : (job : JobOf) (root : List ℕ) (frames : List Frame) (f : Frame) (numbers : List ℤ) (t : ℕ)
    (slots xs : List Slot) (n : ℕ) → IsJoining job root f numbers t slots xs
    → frame_in n frames ≡ Some (successor f t xs n) → IsOwed job root frames f.place f.returns
    → AllByRecursion (FrameHolds job root frames) (joined f t xs n)
made_hold job root frames f numbers t slots xs n joins there owed = (
  successor_holds job root frames f numbers t slots xs n joins owed,
  kids_hold job root frames f numbers t slots xs n 0 (n + 1) xs joins there (λ i. let same : 0 + i ≡ i =
      omega arith in rw same refl),
)

-- frames stay where others are added behind them
keeps_added : (frames made : List Frame) (r : Return) → Keeps frames (frames ++ made) r
keeps_added frames made r n j f is there =
    record { frame = f; there = before name_of_frame (n, 0) f frames made there; at = refl }

-- the successor is found behind frames below its number
successor_found : (frames : List Frame) (f : Frame) (t : ℕ) (slots : List Slot) (n : ℕ) → AreBelow n frames
    → frame_in n (frames ++ joined f t slots n) ≡ Some (successor f t slots n)
successor_found frames f t slots n below =
    behind name_of_frame (n, 0) frames (joined f t slots n)
    (absent n frames (below_none n n frames below (omega arith)))
    ∙ ap (λ r. cond (is_eq r) (Some (successor f t slots n)) (frame_in n (kids f.place n 0 (n + 1) slots)))
    (equal_to_itself (n, 0))

-- a content agrees after the frames of a join come behind those that are left
pub join_agrees : (job : JobOf) (c : Content) (frames : List Frame) (f : Frame) (numbers : List ℤ) (t : ℕ)
    (slots xs : List Slot) (next : ℕ) → ContentAgrees job (record c { frames = frames }) → AreBelow c.next frames
    → IsJoining job c.task.place f numbers t slots xs → IsOwed job c.task.place frames f.place f.returns
    → ContentAgrees job (record c { next = next; frames = frames ++ joined f t xs c.next })
join_agrees job c frames f numbers t slots xs next agrees below joins owed = record {
  task = agrees.task;
  frames = λ n g at. elim (before_or_behind name_of_frame (n, 0) g frames made at) [
    | inl was ↦ still_holds job root frames (frames ++ made) g (keeps_added frames made g.returns)
        (agrees.frames n g was)
    | inr new ↦ all_found name_of_frame (FrameHolds job root (frames ++ made)) (n, 0) g made all new
  ];
  records = λ g r at. record_still_holds job root frames (frames ++ made) r (keeps_added frames made r.returns)
      (agrees.records g r at);
  outcome = agrees.outcome;
}
  where
    root : List ℕ
    root = c.task.place

    made : List Frame
    made = joined f t xs c.next

    all : AllByRecursion (FrameHolds job c.task.place (frames ++ joined f t xs c.next)) (joined f t xs c.next)
    all = made_hold job c.task.place (frames ++ joined f t xs c.next) f numbers t slots xs c.next joins
        (successor_found frames f t xs c.next below)
        (still_owed job c.task.place frames (frames ++ joined f t xs c.next) f.place f.returns
        (keeps_added frames (joined f t xs c.next) f.returns) owed)

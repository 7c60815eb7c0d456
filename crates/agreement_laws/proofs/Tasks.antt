-- Frames whose slots are all full hold tasks, and tasks stand in such frames.
use Rattle.std.proofs.Common.{◌≡◌, ℕ, ℤ, zero, suc, List, [], ◌∷◌, length, map, Option, Some, None, refl, ap, ◌∙◌}
use Rattle.ids.specs.declared.work.Frame.{Frame}
use Rattle.ids.specs.declared.work.Task.{Task}
use Rattle.task_tree.specs.declared.tree.Program.{Program}
use Rattle.kind_check.specs.declared.turn.Slot.{Slot}
use Rattle.kind_check.specs.Turns.{◌>>=◌}
use Rattle.serial_meaning.specs.Serial.{TaskValue, slot_value, slot_values, serial}
use Rattle.serial_meaning.specs.Places.{Call, room, task_at}
use Rattle.serial_meaning.specs.Job.{JobOf}
use Rattle.serial_meaning.specs.Agrees.{numbers_in, SlotsAgree, NextAgrees, FrameAgrees}
use Rattle.serial_meaning.proofs.FrameLaws.{JoinedBefore, bound_at, call_of, ready_task}
use Rattle.agreement_laws.specs.Agreement.{IsOwed, TaskAgrees, FrameHolds, IsBelow}
use Rattle.agreement_laws.proofs.Places.{joined_before}

pub numbers_given : (vs : List ℤ) → numbers_in (map Some vs) ≡ Some vs
numbers_given [] = refl
numbers_given (v ∷ vs) = rw (numbers_given vs) refl

pub length_given : (vs : List ℤ) → length (map Some vs) ≡ length vs
length_given [] = refl
length_given (v ∷ vs) = ap suc (length_given vs)

length_numbers : (slots : List (Option ℤ)) (numbers : List ℤ) → numbers_in slots ≡ Some numbers
    → length numbers ≡ length slots
length_numbers [] numbers e = let same : numbers ≡ [] = cc in rw same refl
length_numbers (None ∷ slots) numbers e = cc
length_numbers (Some v ∷ slots) numbers e =
    let b = bound_at (numbers_in slots) (λ (vs : List ℤ). Some (v ∷ vs)) numbers e in
    let same : numbers ≡ v ∷ b.first = cc in
    rw same (ap suc (length_numbers slots b.first b.is))

-- the values of a join's slots, as slots that are full, agree with it
values_agree : (f : TaskValue) (slots : List Slot) (vs : List ℤ) → slot_values f slots ≡ Some vs
    → SlotsAgree f slots (map Some vs)
values_agree f [] vs e = let same : vs ≡ [] = cc in rw same tt
values_agree f (slot ∷ slots) vs e =
    let b = bound_at (slot_value f slot) (λ (w : ℤ). slot_values f slots >>= λ (ws : List ℤ). Some (w ∷ ws)) vs e in
    let b2 = bound_at (slot_values f slots) (λ (ws : List ℤ). Some (b.first ∷ ws)) vs b.next in
    let same : vs ≡ b.first ∷ b2.first = cc in
    rw same (b.is, values_agree f slots b2.first b2.is)

same_call : (s t : ℕ) (vs ns : List ℤ) → Some (call_of s vs) ≡ Some (call_of t ns) → (s ≡ t) × (vs ≡ ns)
same_call s t vs ns e =
    let same : call_of s vs ≡ call_of t ns = cc in
    (ap (λ (call : Call). call.thread) same, ap (λ (call : Call). call.numbers) same)

next_full : (p : Program) (input : List ℤ) (q : List ℕ) (t : ℕ) (numbers : List ℤ)
    → JoinedBefore p input zero q (call_of t numbers) → NextAgrees p input q t (map Some numbers)
next_full p input q t numbers j =
    let f = serial p (room (zero ∷ q)) in
    let b = bound_at (slot_values f j.slots) (λ (vs : List ℤ). Some (call_of j.successor vs))
    (call_of t numbers) j.step in
    let same = same_call j.successor t b.first numbers b.next in
    let thread : j.successor ≡ t = same.0 in
    let given : slot_values f j.slots ≡ Some numbers = b.is ∙ ap Some same.1 in
    record {
      before = j.before;
      joined = j.slots;
      at = j.at;
      turn = rw thread at j.turn;
      filled = values_agree f j.slots numbers given;
    }

-- a frame that is full agrees where it holds the task of its place
pub full_agrees : (p : Program) (input : List ℤ) (place : List ℕ) (t : ℕ) (numbers : List ℤ)
    → task_at p input place ≡ Some (call_of t numbers) → FrameAgrees p input place t (map Some numbers)
full_agrees p input [] t numbers e = record { numbers = numbers; given = numbers_given numbers; task = e }
full_agrees p input (suc i ∷ q) t numbers e = record { numbers = numbers; given = numbers_given numbers; task = e }
full_agrees p input (zero ∷ q) t numbers e =
    next_full p input q t numbers (joined_before p input zero q (call_of t numbers) e)

-- the frame in which a task stands holds
pub task_holds : (job : JobOf) (root : List ℕ) (frames : List Frame) (f : Frame) (task : Task) → TaskAgrees job task
    → f.place ≡ task.place → f.thread ≡ task.thread → f.slots ≡ map Some task.numbers → IsBelow root f.place
    → IsOwed job root frames f.place f.returns → FrameHolds job root frames f
task_holds job root frames f task agrees place thread slots below owed = record {
  takes = rw (thread, slots, length_given) agrees.takes;
  agrees = rw (place, thread, slots) (full_agrees job.program job.input task.place task.thread task.numbers agrees.at);
  short = rw place agrees.short;
  below = below;
  owed = owed;
}

-- the task of a frame that is full
pub frame_task : (job : JobOf) (root : List ℕ) (frames : List Frame) (f : Frame) (numbers : List ℤ)
    → FrameHolds job root frames f → numbers_in f.slots ≡ Some numbers
    → TaskAgrees job (record { place = f.place; thread = f.thread; numbers = numbers })
frame_task job root frames f numbers holds full = record {
  takes = rw (length_numbers f.slots numbers full) holds.takes;
  at = ready_task job.program job.input f.place f.thread f.slots numbers holds.agrees full;
  short = holds.short;
}

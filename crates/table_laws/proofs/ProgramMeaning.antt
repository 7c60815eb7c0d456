-- The meaning of a program has what is used of it: by the laws of the serial meaning.
use Rattle.std.proofs.Common.{◌≡◌, ℕ, ℤ, ◌<◌, suc, zero, List, [], ◌∷◌, map, Option, Some, None, slice_get, refl, sym, arith, ap, ◌∙◌}
use Rattle.task_tree.specs.declared.tree.Program.{Program}
use Rattle.kind_check.specs.declared.turn.Kid.{Kid as SpawnedKid}
use Rattle.kind_check.specs.declared.turn.Slot.{Slot as JoinSlot}
use Rattle.kind_check.specs.declared.turn.Slot.TheVariants.{Filled, Awaits}
use Rattle.kind_check.specs.declared.turn.Turn.{Turn}
use Rattle.kind_check.specs.declared.turn.Turn.TheVariants.{Sends as TurnSends, Joins as TurnJoins}
use Rattle.kind_check.specs.Turns.{◌>>=◌, turn_of}
use Rattle.serial_meaning.specs.Serial.{TaskValue, slot_value, slot_values, serial}
use Rattle.serial_meaning.specs.Places.{Call, room, after_step, task_at, turn_at, value_within, value_at}
use Rattle.serial_meaning.proofs.FrameLaws.{call_of, joined_value, last_value, kid_small, kid_task}
use Rattle.table_laws.specs.Content.{given}
use Rattle.table_laws.specs.Meaning.{Part, Kid, Joins, begun, SlotFits, FitsMeaning, Runs, IsSerial}
use Rattle.table_laws.specs.Program.{part_of, end_of, gives_at, next_thread, next_slot, number_slot, frame_slot, program_meaning}
use Rattle.table_laws.proofs.Lists.{some_same}

-- numbers fit their own slots, and no others
pub numbers_fit : (numbers : List ℤ) (j : ℕ) → SlotFits (number_slot j numbers) (given numbers j)
numbers_fit [] j = tt
numbers_fit (v ∷ numbers) zero = refl
numbers_fit (v ∷ numbers) (suc j) = numbers_fit numbers j

same_numbers : (xs ys : List ℤ) → ((j : ℕ) → SlotFits (number_slot j xs) (given ys j)) → xs ≡ ys
same_numbers [] [] fits = refl
same_numbers [] (y ∷ ys) fits = absurd (fits 0)
same_numbers (x ∷ xs) [] fits = absurd (fits 0)
same_numbers (x ∷ xs) (y ∷ ys) fits = rw (some_same (fits 0), same_numbers xs ys (λ j. fits (suc j))) refl

-- where numbers fit a successor's slots, they are the values of these
slots_filled : (f : TaskValue) (slots : List JoinSlot) (ys : List ℤ) (s : ℕ)
    → ((j : ℕ) → SlotFits (next_slot f j (TurnJoins s slots)) (given ys j)) → slot_values f slots ≡ Some ys
slots_filled f [] [] s fits = refl
slots_filled f [] (y ∷ ys) s fits = absurd (fits 0)
slots_filled f (slot ∷ slots) [] s fits = absurd (fits 0)
slots_filled f (slot ∷ slots) (y ∷ ys) s fits = let first : slot_value f slot ≡ Some y = fits 0 in let rest =
    slots_filled f slots ys s (λ j. fits (suc j)) in rw (first, rest) refl

-- a frame with no empty slot that fits holds the task of its place
called : (o : Option Call) (t : ℕ) (numbers : List ℤ) → (o >>= λ (call : Call). Some call.thread) ≡ Some t
    → ((j : ℕ) → SlotFits (o >>= λ (call : Call). number_slot j call.numbers) (given numbers j))
    → o ≡ Some (call_of t numbers)
called None t numbers e fits = cc
called (Some call) t numbers e fits = let thread : call.thread ≡ t = cc in let own =
    same_numbers call.numbers numbers fits in rw (thread, own) refl

succeeded : (f : TaskValue) (o : Option Turn) (t : ℕ) (numbers : List ℤ) → (o >>= next_thread) ≡ Some t
    → ((j : ℕ) → SlotFits (o >>= λ (turn : Turn). next_slot f j turn) (given numbers j))
    → (o >>= λ (turn : Turn). after_step f 0 turn) ≡ Some (call_of t numbers)
succeeded f None t numbers e fits = cc
succeeded f (Some (TurnSends v)) t numbers e fits = cc
succeeded f (Some (TurnJoins s slots)) t numbers e fits = let thread : s ≡ t = cc in let values =
    slots_filled f slots numbers s fits in rw (thread, values) refl

then_again : {A B C : Type 0} (o : Option A) (f : A → Option B) (g : B → Option C)
    → ((o >>= f) >>= g) ≡ (o >>= λ (a : A). f a >>= g)
then_again None f g = refl
then_again (Some a) f g = refl

held : (p : Program) (input : List ℤ) (place : List ℕ) (t : ℕ) (numbers : List ℤ)
    → FitsMeaning (program_meaning p input) place t (λ j. given numbers j)
    → task_at p input place ≡ Some (call_of t numbers)
held p input [] t numbers fits = called (task_at p input []) t numbers fits.thread fits.slots
held p input (zero ∷ q) t numbers fits =
    let f = serial p (room (zero ∷ q)) in
    sym (then_again (task_at p input q) (λ (call : Call). turn_of p call.thread call.numbers)
    (λ (turn : Turn). after_step f 0 turn)) ∙ succeeded f (turn_at p input q) t numbers fits.thread fits.slots
held p input (suc i ∷ q) t numbers fits = called (task_at p input (suc i ∷ q)) t numbers fits.thread fits.slots

-- a turn that ends by joining
record JoinTurn (o : Option Turn) (u : ℕ) (parts : List Part) : Type 0 where
  slots : List JoinSlot
  turn : o ≡ Some (TurnJoins u slots)
  parts_are : parts ≡ map part_of slots

joins_turn : (o : Option Turn) (u : ℕ) (parts : List Part)
    → (o >>= λ (turn : Turn). Some (end_of turn)) ≡ Some (Joins u parts) → JoinTurn o u parts
joins_turn None u parts e = cc
joins_turn (Some (TurnSends w)) u parts e = cc
joins_turn (Some (TurnJoins s slots)) u parts e =
    let thread : s ≡ u = cc in
    let all : map part_of slots ≡ parts = cc in
    record { slots = slots; turn = rw thread refl; parts_are = sym all }

-- the slots of a new successor
successor_fits : (f : TaskValue) (s : ℕ) (slots : List JoinSlot) (j : ℕ)
    → SlotFits (next_slot f j (TurnJoins s slots)) (begun (map part_of slots) j)
successor_fits f s [] j = tt
successor_fits f s (Filled v ∷ slots) zero = refl
successor_fits f s (Awaits kid ∷ slots) zero = tt
successor_fits f s (Filled v ∷ slots) (suc j) = successor_fits f s slots j
successor_fits f s (Awaits kid ∷ slots) (suc j) = successor_fits f s slots j

-- the kid that a part names
record KidOf (slots : List JoinSlot) (j hole t : ℕ) (own : List ℤ) : Type 0 where
  kid : SpawnedKid
  there : slice_get slots j ≡ Some (Awaits kid)
  hole_is : kid.hole ≡ hole
  thread : kid.thread ≡ t
  numbers : kid.arguments ≡ own

kid_named : (slots : List JoinSlot) (j hole t : ℕ) (own : List ℤ)
    → slice_get (map part_of slots) j ≡ Some (Kid hole t own) → KidOf slots j hole t own
kid_named [] j hole t own e = cc
kid_named (Filled v ∷ slots) zero hole t own e = cc
kid_named (Awaits kid ∷ slots) zero hole t own e =
    record { kid = kid; there = refl; hole_is = cc; thread = cc; numbers = cc }
kid_named (Filled v ∷ slots) (suc j) hole t own e = let rest =
    kid_named slots j hole t own e in record {
      kid = rest.kid;
      there = rest.there;
      hole_is = rest.hole_is;
      thread = rest.thread;
      numbers = rest.numbers;
    }
kid_named (Awaits other ∷ slots) (suc j) hole t own e = let rest =
    kid_named slots j hole t own e in record {
      kid = rest.kid;
      there = rest.there;
      hole_is = rest.hole_is;
      thread = rest.thread;
      numbers = rest.numbers;
    }

-- a frame that begins with its task's numbers fits, after a step to a kid
kid_fits : (p : Program) (input : List ℤ) (place : List ℕ) (hole t : ℕ) (own : List ℤ) → 0 < hole
    → task_at p input (hole ∷ place) ≡ Some (call_of t own)
    → FitsMeaning (program_meaning p input) (hole ∷ place) t (λ l. given own l)
kid_fits p input place zero t own first e = absurd (omega (arith, first))
kid_fits p input place (suc i) t own first e = record { thread = rw e refl; slots = λ l. rw e (numbers_fit own l) }

-- a slot without a value
slot_lacks : (f : TaskValue) (slots : List JoinSlot) (s j : ℕ) → next_slot f j (TurnJoins s slots) ≡ Some None
    → slot_values f slots ≡ None
slot_lacks f [] s j e = cc
slot_lacks f (slot ∷ slots) s zero e = let none : slot_value f slot ≡ None = cc in rw none refl
slot_lacks f (slot ∷ slots) s (suc j) e = let rest = slot_lacks f slots s j e in first_or (slot_value f slot) rest
  where
    first_or : (o : Option ℤ) → slot_values f slots ≡ None
        → (o >>= λ (v : ℤ). slot_values f slots >>= λ (vs : List ℤ). Some (v ∷ vs)) ≡ None
    first_or None rest = refl
    first_or (Some v) rest = rw rest refl

number_there : (o : Option Call) (j : ℕ) → (o >>= λ (call : Call). number_slot j call.numbers) ≡ Some None → ⊥
number_there None j e = cc
number_there (Some call) j e = at (slice_get call.numbers j) e
  where
    at : (o : Option ℤ) → (o >>= λ (v : ℤ). Some (Some v)) ≡ Some None → ⊥
    at None e = cc
    at (Some v) e = cc

next_lacks : (f : TaskValue) (o : Option Turn) (j : ℕ) → (o >>= λ (turn : Turn). next_slot f j turn) ≡ Some None
    → (o >>= λ (turn : Turn). after_step f 0 turn) ≡ None
next_lacks f None j e = refl
next_lacks f (Some (TurnSends v)) j e = cc
next_lacks f (Some (TurnJoins s slots)) j e = let none = slot_lacks f slots s j e in rw none refl

lacking : (p : Program) (input : List ℤ) (place : List ℕ) (j : ℕ) → frame_slot p input place j ≡ Some None
    → value_at p input place ≡ None
lacking p input [] j e = absurd (number_there (task_at p input []) j e)
lacking p input (zero ∷ q) j e =
    let f = serial p (room (zero ∷ q)) in
    let none : task_at p input (zero ∷ q) ≡ None =
    sym (then_again (task_at p input q) (λ (call : Call). turn_of p call.thread call.numbers)
    (λ (turn : Turn). after_step f 0 turn)) ∙ next_lacks f (turn_at p input q) j e in
    rw none refl
lacking p input (suc i ∷ q) j e = absurd (number_there (task_at p input (suc i ∷ q)) j e)

-- the successor of a join fits at its place
next_fits : (p : Program) (input : List ℤ) (place : List ℕ) (t u : ℕ) (numbers : List ℤ) (slots : List JoinSlot)
    (parts : List Part) → task_at p input place ≡ Some (call_of t numbers)
    → turn_of p t numbers ≡ Some (TurnJoins u slots) → parts ≡ map part_of slots
    → FitsMeaning (program_meaning p input) (0 ∷ place) u (λ j. begun parts j)
next_fits p input place t u numbers slots parts task turn all = record {
  thread = rw (task, turn) refl;
  slots = λ j. rw (task, turn, all) (successor_fits (serial p (room (0 ∷ place))) u slots j);
}

-- the task at a kid's place, by the names of its part
renamed : (p : Program) (input : List ℤ) (place : List ℕ) (h hole y x : ℕ) (arguments own : List ℤ) → h ≡ hole → y ≡ x
    → arguments ≡ own → task_at p input (h ∷ place) ≡ Some (call_of y arguments)
    → task_at p input (hole ∷ place) ≡ Some (call_of x own)
renamed p input place h hole y x arguments own e f g is = rw (← e, ← f, ← g) is

-- a kid's slot gets its value
slot_gets : (p : Program) (input : List ℤ) (place : List ℕ) (t u : ℕ) (numbers : List ℤ) (slots : List JoinSlot)
    (j hole x : ℕ) (own : List ℤ) (kid : SpawnedKid) → task_at p input place ≡ Some (call_of t numbers)
    → turn_of p t numbers ≡ Some (TurnJoins u slots)
    → slice_get slots j ≡ Some (Awaits kid) → kid.thread ≡ x → kid.arguments ≡ own
    → task_at p input (hole ∷ place) ≡ Some (call_of x own)
    → frame_slot p input (0 ∷ place) j ≡ Some (value_at p input (hole ∷ place))
unfolding value_within
slot_gets p input place t u numbers slots j hole x own kid task turn there thread arguments next =
    rw (next, task, turn, there, thread, arguments) refl

-- what a frame's turn joins
module _ (p : Program) (input : List ℤ) (place : List ℕ) (t u : ℕ) (numbers : List ℤ) (parts : List Part)
    (run : Runs (program_meaning p input) place t numbers (Joins u parts)) where
  task : task_at p input place ≡ Some (call_of t numbers)
  task = held p input place t numbers run.fits

  turn : JoinTurn (turn_of p t numbers) u parts
  turn = joins_turn (turn_of p t numbers) u parts run.ends

  next_there : FitsMeaning (program_meaning p input) (0 ∷ place) u (λ j. begun parts j)
  next_there = next_fits p input place t u numbers turn.slots parts task turn.turn turn.parts_are

  named : (j hole x : ℕ) (own : List ℤ) → slice_get parts j ≡ Some (Kid hole x own) → KidOf turn.slots j hole x own
  named j hole x own e = kid_named turn.slots j hole x own
      (sym (ap (λ (all : List Part). slice_get all j) turn.parts_are) ∙ e)

  task_there : (j hole x : ℕ) (own : List ℤ) → slice_get parts j ≡ Some (Kid hole x own)
      → task_at p input (hole ∷ place) ≡ Some (call_of x own)
  task_there j hole x own e = let kid = named j hole x own e in
      renamed p input place kid.kid.hole hole kid.kid.thread x kid.kid.arguments own kid.hole_is kid.thread kid.numbers
      (kid_task p input place t numbers u turn.slots j kid.kid task turn.turn kid.there)

  first_hole : (j hole x : ℕ) (own : List ℤ) → slice_get parts j ≡ Some (Kid hole x own) → 0 < hole
  first_hole j hole x own e = let kid = named j hole x own e in
      let small = (kid_small p t numbers u turn.slots j kid.kid turn.turn kid.there).0 in let is =
      kid.hole_is in omega (arith, small, is)

  kid_gives : (j hole x : ℕ) (own : List ℤ) → slice_get parts j ≡ Some (Kid hole x own)
      → frame_slot p input (0 ∷ place) j ≡ Some (value_at p input (hole ∷ place))
  kid_gives j hole x own e = let kid = named j hole x own e in
      slot_gets p input place t u numbers turn.slots j hole x own kid.kid task turn.turn kid.there kid.thread
      kid.numbers (task_there j hole x own e)

-- what the task at a place gives is the value there
given_value : (p : Program) (input : List ℤ) (place : List ℕ) (t : ℕ) (numbers : List ℤ) (v : ℤ)
    → task_at p input place ≡ Some (call_of t numbers) → gives_at p place t numbers ≡ Some v
    → value_at p input place ≡ Some v
unfolding value_within
given_value p input place t numbers v task gives = rw task gives

pub program_serial : (p : Program) (input : List ℤ) → IsSerial (program_meaning p input)
program_serial p input = record {
  gives = λ place t numbers v from. given_value p input place t numbers v
      (held p input place t numbers from.fits) from.gives;
  joined = λ place t u numbers parts run short. let turn = joins_turn (turn_of p t numbers) u parts run.ends in
      joined_value p input place t numbers u turn.slots short (held p input place t numbers run.fits) turn.turn;
  deep = λ place t u numbers parts run long. let turn = joins_turn (turn_of p t numbers) u parts run.ends in
      last_value p input place t numbers u turn.slots long (held p input place t numbers run.fits) turn.turn;
  successor = λ place t u numbers parts run short. next_there p input place t u numbers parts run;
  kid = λ place t u numbers parts j hole x own run short e.
      kid_fits p input place hole x own (first_hole p input place t u numbers parts run j hole x own e)
      (task_there p input place t u numbers parts run j hole x own e);
  kid_value = λ place t u numbers parts j hole x own run short e.
      kid_gives p input place t u numbers parts run j hole x own e;
  lacking = λ place j e. lacking p input place j e;
}

-- The meaning of a program on an input, as runs are compared with it.
use Rattle.std.specs.Prelude.{ℕ, ℤ, zero, suc, List, [], ◌∷◌, map, Option, Some, None, slice_get}
use Rattle.task_tree.specs.declared.tree.Program.{Program}
use Rattle.kind_check.specs.declared.turn.Slot.{Slot}
use Rattle.kind_check.specs.declared.turn.Slot.TheVariants.{Filled, Awaits}
use Rattle.kind_check.specs.declared.turn.Turn.{Turn}
use Rattle.kind_check.specs.declared.turn.Turn.TheVariants.{Sends as TurnSends, Joins as TurnJoins}
use Rattle.kind_check.specs.Turns.{◌>>=◌, turn_of}
use Rattle.serial_meaning.specs.Serial.{TaskValue, slot_value, serial}
use Rattle.serial_meaning.specs.Places.{room, task_at, turn_at, value_at}
use Rattle.table_laws.specs.Meaning.{Part, Given, Kid, End, Sends, Joins, Meaning}

-- a slot of a successor
abbrev pub part_of : Slot → Part
part_of (Filled v) = Given v
part_of (Awaits kid) = Kid kid.hole kid.thread kid.arguments

-- the end of a turn
abbrev pub end_of : Turn → End
end_of (TurnSends v) = Sends v
end_of (TurnJoins s slots) = Joins s (map part_of slots)

-- how a thread's turn ends on numbers
abbrev pub ends_on : Program → ℕ → List ℤ → Option End
ends_on p t numbers = do
  turn ← turn_of p t numbers
  Some (end_of turn)

-- the thread of the successor
abbrev pub next_thread : Turn → Option ℕ
next_thread (TurnSends v) = None
next_thread (TurnJoins s slots) = Some s

-- slot j of the successor, and what it gets
abbrev pub next_slot : TaskValue → ℕ → Turn → Option (Option ℤ)
next_slot task j (TurnSends v) = None
next_slot task j (TurnJoins s slots) = do
  slot ← slice_get slots j
  Some (slot_value task slot)

-- slot j of a frame that begins with numbers
abbrev pub number_slot : ℕ → List ℤ → Option (Option ℤ)
number_slot j numbers = do
  v ← slice_get numbers j
  Some (Some v)

-- the thread at a place: after a step 0 it is the successor's, and else that of the task there
abbrev pub thread_at : Program → List ℤ → List ℕ → Option ℕ
thread_at p input [] = do
  call ← task_at p input []
  Some call.thread
thread_at p input (zero ∷ place) = do
  turn ← turn_at p input place
  next_thread turn
thread_at p input (suc i ∷ place) = do
  call ← task_at p input (suc i ∷ place)
  Some call.thread

-- slot j of the frame at a place
abbrev pub frame_slot : Program → List ℤ → List ℕ → ℕ → Option (Option ℤ)
frame_slot p input [] j = do
  call ← task_at p input []
  number_slot j call.numbers
frame_slot p input (zero ∷ place) j = do
  turn ← turn_at p input place
  next_slot (serial p (room (zero ∷ place))) j turn
frame_slot p input (suc i ∷ place) j = do
  call ← task_at p input (suc i ∷ place)
  number_slot j call.numbers

-- what a thread gives on numbers, in the room below a place
abbrev pub gives_at : Program → List ℕ → ℕ → List ℤ → Option ℤ
gives_at p place t numbers = serial p (room place) t numbers

-- the meaning of a program on an input
abbrev pub program_meaning : Program → List ℤ → Meaning
program_meaning p input = record { thread = thread_at p input; slot = frame_slot p input; value = value_at p input; ends = ends_on p; gives = gives_at p }

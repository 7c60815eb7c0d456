-- A program whose bodies are never stuck: an accepted one.
use Rattle.std.specs.Prelude.{◌≡◌, ℕ, ℤ, ◌<◌, ◌≤◌, List, [], ◌∷◌, length, Option, Some, slice_get}
use Rattle.task_tree.specs.declared.tree.Program.{Program}
use Rattle.kind_check.specs.declared.turn.Slot.{Slot}
use Rattle.kind_check.specs.declared.turn.Slot.TheVariants.{Filled, Awaits}
use Rattle.kind_check.specs.declared.turn.Turn.{Turn}
use Rattle.kind_check.specs.declared.turn.Turn.TheVariants.{Sends, Joins}
use Rattle.kind_check.specs.Turns.{◌>>=◌, turn_of}
use Rattle.kind_check.specs.Faults.{faults}

-- how many numbers a thread takes
abbrev pub arity_of : Program → ℕ → Option ℕ
arity_of p t = do
  thread ← slice_get p.threads t
  Some (length thread.numbers)

-- the thread is there and takes so many numbers
pub record Takes (p : Program) (t count : ℕ) : Type 0 where
  pub arity : arity_of p t ≡ Some count

-- a kid is a task of the program
abbrev pub SlotFits : Program → Slot → Type 0
SlotFits p (Filled v) = Unit {0}
SlotFits p (Awaits kid) = Takes p kid.thread (length kid.arguments)

abbrev pub SlotsFit : Program → List Slot → Type 0
SlotsFit p [] = Unit {0}
SlotsFit p (slot ∷ slots) = SlotFits p slot × SlotsFit p slots

-- the hole of a kid is one of 8
abbrev pub HoleFits : Slot → Type 0
HoleFits (Filled v) = Unit {0}
HoleFits (Awaits kid) = (1 ≤ kid.hole) × (kid.hole ≤ 8)

-- the threads that an end names are there, and get as many numbers as they take
abbrev pub TurnFits : Program → Turn → Type 0
TurnFits p (Sends v) = Unit {0}
TurnFits p (Joins s slots) = Takes p s (length slots) × SlotsFit p slots

-- the body of thread t reaches an end on these numbers
pub record Reaches (p : Program) (t : ℕ) (numbers : List ℤ) : Type 0 where
  pub turn : Turn
  pub reached : turn_of p t numbers ≡ Some turn
  pub fits : TurnFits p turn

-- there are at most 64 threads, and each reaches an end on any numbers, as many as it takes
pub record IsTotal (p : Program) : Type 0 where
  pub few : length p.threads < 65
  pub each : (t : ℕ) (numbers : List ℤ) → Takes p t (length numbers) → Reaches p t numbers

-- what is kept of an accepted program
pub record IsAccepted (p : Program) : Type 0 where
  pub faultless : faults p ≡ []
  pub total : IsTotal p

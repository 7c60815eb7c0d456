-- What the values of a run are compared with: the serial meaning of a job, by places. It comes in
-- as a few functions and the facts about them that the proof uses; each fact names the law of the
-- crate serial_meaning that gives it.
use Rattle.std.specs.Prelude.{◌≡◌, ◌<◌, ◌≤◌, ℕ, ℤ, suc, zero, List, [], ◌∷◌, length, Option, Some, None, slice_get}
use Rattle.table_laws.specs.Content.{Slot, Absent, Empty, Full, given}

-- a slot of the successor that a join names: it is given a number, or a kid fills it: the hole,
-- which is the step to its place, its thread, and its numbers
pub data Part : Type 0 where
  Given : ℤ → Part
  Kid : ℕ → ℕ → List ℤ → Part

-- how a frame's turn ends: it sends a number, or joins a successor thread
pub data End : Type 0 where
  Sends : ℤ → End
  Joins : ℕ → List Part → End

-- the slots of a new successor
abbrev pub begun : List Part → ℕ → Slot
begun [] j = Absent
begun (Given v ∷ parts) zero = Full v
begun (Kid hole t numbers ∷ parts) zero = Empty
begun (part ∷ parts) (suc j) = begun parts j

pub record Meaning : Type 0 where
  -- the thread at a place
  pub thread : List ℕ → Option ℕ
  -- slot j of the frame at a place: none where it has no such slot; else the value that the slot
  -- gets, if there is one
  pub slot : List ℕ → ℕ → Option (Option ℤ)
  -- the value of the task at a place; none where it is too deep, or there is no task
  pub value : List ℕ → Option ℤ
  -- how a thread's turn ends on numbers
  pub ends : ℕ → List ℤ → Option End
  -- what a thread gives on numbers at a place, with all that comes of it below; none where that is
  -- too deep
  pub gives : List ℕ → ℕ → List ℤ → Option ℤ

-- a slot is one of the frame that the meaning has there, and is empty or has its value
abbrev pub SlotFits : Option (Option ℤ) → Slot → Type 0
SlotFits None Absent = Unit {0}
SlotFits None Empty = ⊥
SlotFits None (Full v) = ⊥
SlotFits (Some value) Absent = ⊥
SlotFits (Some value) Empty = Unit {0}
SlotFits (Some value) (Full v) = value ≡ Some v

-- a frame of thread t with this row of slots is the one that the meaning has at the place
pub record FitsMeaning (m : Meaning) (place : List ℕ) (t : ℕ) (row : ℕ → Slot) : Type 0 where
  pub thread : m.thread place ≡ Some t
  pub slots : (j : ℕ) → SlotFits (m.slot place j) (row j)

-- a thread whose frame at a place fits, holding these numbers, and whose turn on them ends so
pub record Runs (m : Meaning) (place : List ℕ) (t : ℕ) (numbers : List ℤ) (end : End) : Type 0 where
  pub fits : FitsMeaning m place t (λ j. given numbers j)
  pub ends : m.ends t numbers ≡ Some end

-- a thread whose frame at a place fits, holding these numbers, and which gives that number on them
pub record Gives (m : Meaning) (place : List ℕ) (t : ℕ) (numbers : List ℤ) (v : ℤ) : Type 0 where
  pub fits : FitsMeaning m place t (λ j. given numbers j)
  pub gives : m.gives place t numbers ≡ Some v

-- what is used of the serial meaning
pub record IsSerial (m : Meaning) : Type 0 where
  -- what the thread of a place gives on its numbers is the value there
  -- (`full_frame_holds_its_task`); of who sends a number it is that number
  pub gives : (place : List ℕ) (t : ℕ) (numbers : List ℤ) (v : ℤ) → Gives m place t numbers v → m.value place ≡ Some v
  -- who joins has the value of its successor; at the last place it has none
  -- (`join_has_its_successors_value`)
  pub joined : (place : List ℕ) (t u : ℕ) (numbers : List ℤ) (parts : List Part) → Runs m place t numbers (Joins u parts) → length place < 1024 → m.value place ≡ m.value (0 ∷ place)
  pub deep : (place : List ℕ) (t u : ℕ) (numbers : List ℤ) (parts : List Part) → Runs m place t numbers (Joins u parts) → 1024 ≤ length place → m.value place ≡ None
  -- the new successor is the frame at its place (`successor_agrees`, new)
  pub successor : (place : List ℕ) (t u : ℕ) (numbers : List ℤ) (parts : List Part) → Runs m place t numbers (Joins u parts) → length place < 1024 → FitsMeaning m (0 ∷ place) u (λ j. begun parts j)
  -- a kid is the frame at its place, and its value is what its slot gets
  -- (`kids_value_fills_its_slot`, task and value)
  pub kid : (place : List ℕ) (t u : ℕ) (numbers : List ℤ) (parts : List Part) (j hole x : ℕ) (given_kid : List ℤ) → Runs m place t numbers (Joins u parts) → length place < 1024 → slice_get parts j ≡ Some (Kid hole x given_kid) → FitsMeaning m (hole ∷ place) x (λ l. given given_kid l)
  pub kid_value : (place : List ℕ) (t u : ℕ) (numbers : List ℤ) (parts : List Part) (j hole x : ℕ) (given_kid : List ℤ) → Runs m place t numbers (Joins u parts) → length place < 1024 → slice_get parts j ≡ Some (Kid hole x given_kid) → m.slot (0 ∷ place) j ≡ Some (m.value (hole ∷ place))
  -- where a slot gets no value, its frame's task has none (the definition of `task_at`: a
  -- successor's task is on the values of all its slots)
  pub lacking : (place : List ℕ) (j : ℕ) → m.slot place j ≡ Some None → m.value place ≡ None

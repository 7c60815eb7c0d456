-- The content of a subcomputation: what a Grant or an Offer hands on, as tables by frame number.
use Rattle.std.specs.Prelude.{◌≡◌, ℕ, ℤ, ◌<◌, suc, zero, List, [], ◌∷◌, Option, Some, None}
use Rattle.ids.specs.Names.{Grant}
use Rattle.table_laws.specs.Tables.{put}

-- where the value of a frame goes: it is the value of the whole subcomputation, or it fills a slot
-- of another frame
pub data Return : Type 0 where
  Whole : Return
  Local : ℕ → ℕ → Return

-- a slot that a frame hasn't, one that awaits its value, and one that has it
pub data Slot : Type 0 where
  Absent Empty : Slot
  Full : ℤ → Slot

-- the slots of a frame that holds these numbers and no others
abbrev pub given : List ℤ → ℕ → Slot
given [] j = Absent
given (v ∷ numbers) zero = Full v
given (v ∷ numbers) (suc j) = given numbers j

-- A task: a thread at a place, on numbers. A place is the list of its steps from the root, the last
-- one first: 0 to a successor, 1 to 8 to the kid of a hole.
pub record Task : Type 0 where
  pub place : List ℕ
  pub thread : ℕ
  pub numbers : List ℤ

-- Frames and open records share their numbers: a record is a frame that was granted to a thief, its
-- slots are its arguments.
pub record Content : Type 0 where
  -- the parent host: to whom the outcome goes
  pub host : ℕ
  -- the task with which it began
  pub task : Task
  -- the number of the next frame
  pub next : ℕ
  -- the place of the frame or record of a number, and its thread
  pub place : ℕ → List ℕ
  pub thread : ℕ → ℕ
  -- where the frame or record of a number returns, if there is one
  pub returns : ℕ → Option Return
  -- the slots, by frame number and slot
  pub slots : ℕ → ℕ → Slot
  -- the grant of the record of a number, if it is a record
  pub granted : ℕ → Option Grant
  -- the outcome of a finished subcomputation: a number, or none for one that was too deep
  pub outcome : Option (Option ℤ)

-- the frame or record of a number holds that task
pub record HoldsTask (c : Content) (n : ℕ) (t : Task) : Type 0 where
  pub place : c.place n ≡ t.place
  pub thread : c.thread n ≡ t.thread
  pub numbers : (j : ℕ) → c.slots n j ≡ given t.numbers j

-- a number stands for the same in two contents: at one place, with one thread and the same slots
pub record SameWork (c d : Content) (n : ℕ) : Type 0 where
  pub place : d.place n ≡ c.place n
  pub thread : d.thread n ≡ c.thread n
  pub slots : (j : ℕ) → d.slots n j ≡ c.slots n j

-- some frame or record returns there
pub record Debtor (returns : ℕ → Option Return) (to : Return) : Type 0 where
  pub number : ℕ
  pub owes : returns number ≡ Some to

-- each empty slot, and the whole, has exactly one debtor
pub record Sound (c : Content) : Type 0 where
  -- numbers in use are below the next
  pub below : (n : ℕ) (r : Return) → c.returns n ≡ Some r → n < c.next
  -- what an empty slot awaits is there
  pub debtor : (f j : ℕ) → c.slots f j ≡ Empty → Debtor c.returns (Local f j)
  -- no two return to the same place
  pub one : (n m : ℕ) (r : Return) → c.returns n ≡ Some r → c.returns m ≡ Some r → n ≡ m
  -- a return names an empty slot
  pub empty : (n f j : ℕ) → c.returns n ≡ Some (Local f j) → c.slots f j ≡ Empty
  -- a return leads to a smaller number
  pub later : (n f j : ℕ) → c.returns n ≡ Some (Local f j) → f < n
  -- who is active has a debtor of the whole
  pub whole : c.outcome ≡ None → Debtor c.returns Whole
  -- who is finished has no frames and no records
  pub over : (o : Option ℤ) (n : ℕ) → c.outcome ≡ Some o → c.returns n ≡ None
  -- a number that isn't in use has no slots
  pub bare : (n j : ℕ) → c.returns n ≡ None → c.slots n j ≡ Absent

abbrev pub IsFull : Slot → Type 0
IsFull Absent = ⊥
IsFull Empty = ⊥
IsFull (Full v) = Unit {0}

-- slot j of frame f takes no value any more: its frame is gone, or it is full
pub record Closed (c : Content) (f j : ℕ) : Type 0 where
  pub old : f < c.next
  pub full : (r : Return) → c.returns f ≡ Some r → IsFull (c.slots f j)

-- a value was put into slot `slot` of frame `frame`, at place `place`, of the subcomputation of
-- `grant`
pub record Fill : Type 0 where
  pub grant : Grant
  pub frame : ℕ
  pub slot : ℕ
  pub place : List ℕ
  pub value : ℤ

-- the fill of a call, if it made one, before those so far
abbrev pub filled : Option Fill → List Fill → List Fill
filled None fills = fills
filled (Some x) fills = x ∷ fills

-- what a call on a subcomputation of g promises of its slots
pub record Changes (g : Grant) (c d : Content) (fill : Option Fill) : Type 0 where
  -- each empty slot keeps exactly one debtor
  pub sound : Sound c → Sound d
  -- what was closed stays closed
  pub closed : Sound c → (f j : ℕ) → Closed c f j → Closed d f j
  -- its fill is of its own subcomputation
  pub own : (x : Fill) → fill ≡ Some x → x.grant ≡ g
  -- it closes what it fills
  pub closes : Sound c → (x : Fill) → fill ≡ Some x → Closed d x.frame x.slot
  -- it fills only what wasn't closed
  pub fresh : Sound c → (x : Fill) → fill ≡ Some x → Closed c x.frame x.slot → ⊥

-- with frame n as the record of a grant, or a record as its frame again
abbrev pub regrant : Content → ℕ → Option Grant → Content
regrant c n k = record c { granted = put c.granted n k }

-- with another parent host
abbrev pub rehost : Content → ℕ → Content
rehost c i = record c { host = i }

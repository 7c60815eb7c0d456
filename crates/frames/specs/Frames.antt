-- The frames of a subcomputation, by rising number, and how they change.
use Rattle.std.specs.Prelude.{◌≡◌, ◌<◌, ◌+◌, ℕ, ℤ, ◌==◌, Bool, true, false, if◌then◌else◌, List, [], ◌∷◌, Option, Some, None, is_none, count_by, slice_get, slice_set}
use Rattle.std.specs.List.{AllByRecursion}
use Rattle.ids.specs.Place.{level_of}
use Rattle.ids.specs.Named.{item_in, put_in, without_in}
use Rattle.ids.specs.Naming.{name_of_frame}
use Rattle.ids.specs.declared.work.Frame.{Frame}
use Rattle.frames.specs.declared.store.Filled.{Filled}
use Rattle.frames.specs.declared.store.Filled.TheVariants.{Still, Ready}

-- the frame of a number
abbrev pub frame_in : ℕ → List Frame → Option Frame
frame_in number frames = item_in name_of_frame (number, 0) frames

-- with a frame in its place
abbrev pub put_frame : Frame → List Frame → List Frame
put_frame f frames = put_in name_of_frame f frames

-- without the frame of a number
abbrev pub without_frame : ℕ → List Frame → List Frame
without_frame number frames = without_in name_of_frame (number, 0) frames

-- the numbers are below a number
abbrev pub AreBelow : ℕ → List Frame → Type 0
AreBelow number frames = AllByRecursion (λ f. f.number < number) frames

-- the frames are numbered from a number on
abbrev pub AreNumbered : ℕ → List Frame → Type 0
AreNumbered number [] = Unit {0}
AreNumbered number (f ∷ fs) = (f.number ≡ number) × AreNumbered (number + 1) fs

-- how many slots are empty
abbrev pub missing_in : List (Option ℤ) → ℕ
missing_in slots = count_by is_none slots

-- how many slots of a frame are empty; 0 where it isn't there
abbrev pub missing_of : Option Frame → ℕ
missing_of None = 0
missing_of (Some f) = missing_in f.slots

-- whether a slot is there and empty
abbrev pub is_vacant : Option (Option ℤ) → Bool
is_vacant None = false
is_vacant (Some None) = true
is_vacant (Some (Some v)) = false

-- whether a frame is there with that slot empty
abbrev pub is_empty_of : Option Frame → ℕ → Bool
is_empty_of None slot = false
is_empty_of (Some f) slot = is_vacant (slice_get f.slots slot)

-- a frame with a slot filled
abbrev pub with_slot : ℕ → ℤ → Frame → Frame
with_slot slot v f = record f { slots = slice_set f.slots slot (Some v) }

-- a slot of a frame is filled, if the frame is there
abbrev pub fill_of : ℕ → ℤ → List Frame → Option Frame → List Frame
fill_of slot v frames None = frames
fill_of slot v frames (Some f) = put_frame (with_slot slot v f) frames

-- a frame without an empty slot is ready, at the level of its place
abbrev pub readiness : Frame → Filled
readiness f = if missing_in f.slots == 0 then Ready (level_of f.place) else Still

-- the same of a frame that may be there
abbrev pub readiness_of : Option Frame → Filled
readiness_of None = Still
readiness_of (Some f) = readiness f

-- how a frame stands once a slot of it is filled
abbrev pub filling : Option Frame → ℕ → ℤ → Filled
filling None slot v = Still
filling (Some f) slot v = readiness (with_slot slot v f)

-- a frame that is ready
abbrev pub if_ready : Option Frame → Option Frame
if_ready None = None
if_ready (Some f) = if missing_in f.slots == 0 then Some f else None

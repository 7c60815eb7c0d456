-- What is kept under the lock: a history, and the world that it reaches.
use Rattle.std.specs.Prelude.{◌≡◌, ◌⊎◌, Bool, MatchBool, List}
use Rattle.disk.specs.Device.{Device}
use Rattle.serial_meaning.specs.Job.{JobOf, IsJob}
use Rattle.event_script.specs.declared.event.Event.{Event}
use Rattle.world_steps.specs.Answers.{StepResult}
use Rattle.world_steps.specs.Calls.{IsOutOfMemory, WorldOn}
use Rattle.world_steps.specs.World.{WorldOf}
use Rattle.chronicle.specs.declared.kept.Entry.{Entry}
use Rattle.chronicle.specs.History.{IsHistory, IsSafeHistory, reached}

-- a world, the disk with which its run began, the history that led to it, and whether an event
-- found no memory
pub record KeptOf : Type 0 where
  pub on : WorldOn
  pub first : Device
  pub entries : List Entry
  pub out_of_memory : Bool

-- what an event that found no memory makes of a world
pub record OutOfMemoryBy (job : JobOf) (w v : WorldOf) : Type 0 where
  pub event : Event
  pub was_placed : Bool
  pub is_placed : Bool
  pub after : StepResult
  pub out_of_memory : IsOutOfMemory event (record { job = job; world = w; is_placed = was_placed }) is_placed after
  pub left : v ≡ after.world

-- a world is the one that was reached; where an event found no memory, it differs from that at most
-- in what this event left
abbrev pub Stands : JobOf → Bool → (reached world : WorldOf) → Type 0
Stands job out_of_memory w v = MatchBool out_of_memory ((v ≡ w) ⊎ OutOfMemoryBy job w v) (v ≡ w)

-- a history of a job over a disk reaches a world
pub record Reaches (job : JobOf) (first : Device) (entries : List Entry) (world : WorldOf) (out_of_memory : Bool) : Type 0 where
  pub own : IsJob job
  pub history : IsHistory job first entries
  pub here : Stands job out_of_memory (reached history) world

-- a history of a job over a disk leaves this disk: that of the world that it reaches
pub record IsLeftBy (job : JobOf) (first : Device) (entries : List Entry) (out_of_memory : Bool) (disk : Device) : Type 0 where
  pub safe : IsSafeHistory job first entries
  pub world : WorldOf
  pub here : Stands job out_of_memory (reached safe.history) world
  pub left : disk ≡ world.disk

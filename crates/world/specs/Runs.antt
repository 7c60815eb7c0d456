-- Runs from a first world on, by lists of events and by scripts, and what is promised of them.
use Rattle.std.specs.Prelude.{false, ◌∷◌, ◌≡◌, ◌⊎◌, ℕ, List, length, map, take, Option, None, Some, IsTrue, slice_get}
use Rattle.disk.specs.Device.{Device}
use Rattle.table_laws.specs.Tables.{◌∈◌}
use Rattle.serial_meaning.specs.Job.{JobOf}
use Rattle.event_script.specs.Left.{is_cut}
use Rattle.event_script.specs.declared.event.Event.{Event}
use Rattle.world_steps.specs.Answers.{StepResult}
use Rattle.world_steps.specs.Runs.{Entry, IsFormattedFor, Runs, last_of}
use Rattle.world_steps.specs.Steps.{LacksMemory}
use Rattle.world_steps.specs.World.{WorldOf, first_over}
use Rattle.world_steps.specs.declared.parts.NoMemory.{NoMemory}
use Rattle.world_steps.specs.Calls.{LacksMemoryBehind, WorldOn}
use Rattle.world_steps.specs.Safe.{SafeWorld}
use Rattle.run_laws.specs.Openings.{OpeningFinds}
use Rattle.run_laws.specs.Promises.{AllSafe}

-- an event of a run finds no memory: the world is as it was, but a clearinghouse that was to answer
-- is stopped. An event that takes none by itself does so only for what was sent and put into slots
-- before, and then not all of that has its place in the end
abbrev pub StopsIn : JobOf → Event → (last : WorldOf) → (on : WorldOn) → Type 0
StopsIn job e last on = (o : StepResult) × (LacksMemory job e last o ⊎ ((on.is_placed ≡ false) × LacksMemoryBehind e last o)) × (on.world ≡ o.world)

-- in a replay a Cut may find none too, before the Cut is an event of the world: then nothing
-- changes
abbrev pub StopsReading : JobOf → Event → (last : WorldOf) → (on : WorldOn) → Type 0
StopsReading job e last on = StopsIn job e last on ⊎ (IsTrue (is_cut e) × (on.world ≡ last))

-- where a run ends: where its events are over, or one of them stops it
abbrev pub EndsIn : (Event → (last : WorldOf) → (on : WorldOn) → Type 0) → List Event → ℕ → Option NoMemory → (last : WorldOf) → (on : WorldOn) → Type 0
EndsIn Stops events done None last on = (done ≡ length events) × (on.world ≡ last)
EndsIn Stops events done (Some lacks) last on = (e : Event) × (slice_get events done ≡ Some e) × Stops e last on

-- so many of the events, the first ones, were carried out from a first world on, over a formatted
-- disk, and led to this one
pub record IsRunTo (Stops : Event → (last : WorldOf) → (on : WorldOn) → Type 0) (job : JobOf) (events : List Event) (done : ℕ) (stopped : Option NoMemory) (on : WorldOn) : Type 0 where
  pub disk : Device
  pub formatted : IsFormattedFor job disk
  pub entries : List Entry
  pub worlds : List WorldOf
  pub runs : Runs job (first_over disk) entries worlds
  pub carried : map (λ e. e.event) entries ≡ take done events
  pub ends : EndsIn Stops events done stopped (last_of (first_over disk) worlds) on

-- so it was, and all its worlds are safe, agree with the serial meaning and have lost nothing
pub record IsSafeRunTo (Stops : Event → (last : WorldOf) → (on : WorldOn) → Type 0) (job : JobOf) (events : List Event) (done : ℕ) (stopped : Option NoMemory) (on : WorldOn) : Type 0 where
  pub run : IsRunTo Stops job events done stopped on
  pub safe : AllSafe job (first_over run.disk ∷ run.worlds)
  -- and so is the one in which it ended, also where that was when out of memory
  pub last : SafeWorld job on.world
  -- and each opening of the clearinghouse found the job's store on its disk
  pub openings : (x : Entry) → x ∈ run.entries → OpeningFinds x.event x.answer

abbrev pub IsRun : JobOf → List Event → ℕ → Option NoMemory → WorldOn → Type 0
IsRun job = IsSafeRunTo (StopsIn job) job

abbrev pub IsReplay : JobOf → List Event → ℕ → Option NoMemory → WorldOn → Type 0
IsReplay job = IsSafeRunTo (StopsReading job) job

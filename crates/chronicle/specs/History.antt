-- Histories: events with what was told of each.
use Rattle.std.specs.Prelude.{◌≡◌, ℕ, ◌+◌, List, [], ◌∷◌, map, Option, None, Some}
use Rattle.ids.specs.declared.outcome.Outcome.{Outcome}
use Rattle.disk.specs.Device.{Device}
use Rattle.serial_meaning.specs.Job.{JobOf, meaning_of}
use Rattle.event_script.specs.declared.event.Event.{Event}
use Rattle.event_script.specs.declared.event.Event.TheVariants.{Start, AtNode, Crash, AtHouse, HouseCrash, Cut}
use Rattle.world_steps.specs.declared.parts.EventAnswer.{EventAnswer}
use Rattle.world_steps.specs.declared.parts.EventAnswer.TheVariants as told
use Rattle.world_steps.specs.Agrees.{StoredAgree}
use Rattle.world_steps.specs.Answers.{StepResult}
use Rattle.world_steps.specs.Calls.{told_of}
use Rattle.world_steps.specs.First.{IsFirst}
use Rattle.world_steps.specs.Runs.{Runs, last_of}
use Rattle.world_steps.specs.Runs.{Entry as RunEntry}
use Rattle.world_steps.specs.Steps.{Step}
use Rattle.world_steps.specs.World.{WorldOf, first_over}
use Rattle.run_laws.specs.Promises.{AllSafe}
use Rattle.chronicle.specs.declared.kept.Entry.{Entry}

-- whose event it is: the clearinghouse is actor 0, and the node of place p is actor p + 1
abbrev pub actor_number : Event → ℕ
actor_number (Start p word) = p + 1
actor_number (AtNode p e) = p + 1
actor_number (Crash p) = p + 1
actor_number (AtHouse e) = 0
actor_number HouseCrash = 0
actor_number (Cut c) = 0

abbrev pub actor_of : Entry → ℕ
actor_of e = actor_number e.event

abbrev pub entry : Event → EventAnswer → Entry
entry event told = record { event = event; told = told }

-- the outcome that is told: of an event of the clearinghouse the one that is recorded after it, if
-- one is
abbrev pub outcome_told : EventAnswer → Option Outcome
outcome_told told.Unfit = None
outcome_told told.Ignored = None
outcome_told (told.Refused e) = None
outcome_told (told.Did sent fills) = None
outcome_told (told.House e sent outcome) = outcome

-- the first outcome that is told
abbrev pub or_later : Option Outcome → Option Outcome → Option Outcome
or_later None later = later
or_later (Some o) later = Some o

abbrev pub first_outcome : List Entry → Option Outcome
first_outcome [] = None
first_outcome (e ∷ es) = or_later (outcome_told e.told) (first_outcome es)

-- an outcome that is told is the job's meaning, where what is saved on the disk agrees with which
-- the history begins
abbrev pub TellsMeaning : JobOf → Device → EventAnswer → Type 0
TellsMeaning job disk told = StoredAgree job disk → (o : Outcome) → outcome_told told ≡ Some o → o ≡ meaning_of job

-- what is told is told of a step of some world by an event
abbrev pub TellsStep : JobOf → Event → EventAnswer → Type 0
TellsStep job event told = (w : WorldOf) × (o : StepResult) × Step job event w o × (told ≡ told_of o.answer)

-- an event of a run, with what is told of its answer
abbrev pub told_entry : RunEntry → Entry
told_entry e = entry e.event (told_of e.answer)

-- with what a history begins: a job, and the disk over which its clearinghouse stands
pub record BeginningOf : Type 0 where
  pub job : JobOf
  pub disk : Device

abbrev pub beginning : JobOf → Device → BeginningOf
beginning job disk = record { job = job; disk = disk }

-- a list of entries is a history of a job over a disk: a run begins with that disk, on which no
-- outcome stands, it has these events, and its answers are told so
pub record IsHistory (job : JobOf) (disk : Device) (entries : List Entry) : Type 0 where
  pub first : IsFirst job disk
  pub steps : List RunEntry
  pub worlds : List WorldOf
  pub runs : Runs job (first_over disk) steps worlds
  pub told : map told_entry steps ≡ entries

-- and where the values agree that are saved on the disk, all worlds of the run are safe, agree with
-- the serial meaning, and have lost nothing; on a disk that was formatted for the job no value is
-- saved
pub record IsSafeHistory (job : JobOf) (disk : Device) (entries : List Entry) : Type 0 where
  pub history : IsHistory job disk entries
  pub safe : StoredAgree job disk → AllSafe job (first_over disk ∷ history.worlds)

-- the world that it reaches
abbrev pub reached : {job : JobOf} {disk : Device} {entries : List Entry} → IsHistory job disk entries → WorldOf
reached {disk = disk} h = last_of (first_over disk) h.worlds

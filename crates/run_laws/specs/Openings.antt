-- What an opening of the clearinghouse finds on its disk.
use Rattle.std.specs.Prelude.{◌≡◌, Bool, true, false, Option, None, Some}
use Rattle.clearinghouse.specs.declared.error.HouseError.{HouseError}
use Rattle.clearinghouse.specs.declared.error.HouseError.TheVariants as error
use Rattle.event_script.specs.declared.event.Event.{Event}
use Rattle.event_script.specs.declared.event.Event.TheVariants.{Start, AtNode, Crash, AtHouse, HouseCrash, Cut}
use Rattle.event_script.specs.declared.event.HouseEvent.{HouseEvent}
use Rattle.event_script.specs.declared.event.HouseEvent.TheVariants.{Deliver, Tick, Restart}
use Rattle.world_steps.specs.Answers.{WorldAnswer, Unfit, Ignored, Refused, Did, House}

-- whether a refusal says that the disk keeps no store of the job: another job's (E70), none (E71),
-- or one of another version (E73)
abbrev pub finds_none : Option HouseError → Bool
finds_none None = false
finds_none (Some (error.Bytes f)) = false
finds_none (Some error.Spent) = false
finds_none (Some error.JobMismatch) = true
finds_none (Some error.Damaged) = true
finds_none (Some error.Device) = false
finds_none (Some error.Version) = true
finds_none (Some error.RosterFull) = false
finds_none (Some error.Memory) = false

-- an answer of the clearinghouse doesn't say so
abbrev pub FindsItsStore : WorldAnswer → Type 0
FindsItsStore Unfit = Unit {0}
FindsItsStore Ignored = Unit {0}
FindsItsStore (Refused e) = Unit {0}
FindsItsStore (Did sent fills) = Unit {0}
FindsItsStore (House e sent outcome) = finds_none e ≡ false

abbrev pub FindsAt : HouseEvent → WorldAnswer → Type 0
FindsAt (Deliver i) a = Unit {0}
FindsAt (Tick now) a = Unit {0}
FindsAt Restart a = FindsItsStore a

-- where the event is an opening, or a Cut of one, it finds the job's store on its disk
abbrev pub OpeningFinds : Event → WorldAnswer → Type 0
OpeningFinds (Start p word) a = Unit {0}
OpeningFinds (AtNode p e) a = Unit {0}
OpeningFinds (Crash p) a = Unit {0}
OpeningFinds (AtHouse e) a = FindsAt e a
OpeningFinds HouseCrash a = Unit {0}
OpeningFinds (Cut c) a = FindsAt c.event a

-- What a replay comes to, and its refusals.
use Rattle.std.specs.Prelude.{◌≡◌, ℕ, ℤ, List, length, slice_get, None, Some, Ok, Err}
use Rattle.serial_meaning.specs.Job.{JobOf}
use Rattle.jobs.specs.Jobs.{IsJobOf, IsRefusal}
use Rattle.codec.specs.Table.{PacketOf, Spells}
use Rattle.event_script.specs.Scripts.{script}
use Rattle.event_script.specs.declared.event.Event.{Event}
use Rattle.world.specs.Runs.{IsRun}
use Rattle.world_steps.specs.Calls.{WorldOn}
use Rattle.world_steps.specs.World.{recorded}
use Rattle.traces.specs.Names.{name_of, names_in}
use Rattle.replaying.specs.declared.fault.ReplayFault.{ReplayFault}
use Rattle.replaying.specs.declared.fault.ReplayFault.TheVariants as fault
use Rattle.replaying.specs.declared.replayed.Replayed.{Replayed}

-- all events of the script were carried out from a first world of the job on, and led to a world
-- with so many packets and fills, and with this outcome
pub record IsReplayOf (job : JobOf) (text : List ℕ) (r : Replayed) : Type 0 where
  pub events : List Event
  pub read : script text ≡ Ok events
  pub on : WorldOn
  pub run : IsRun job events r.events None on
  pub packets : r.packets ≡ length on.world.net
  pub fills : r.fills ≡ length on.world.fills
  pub outcome : r.outcome ≡ recorded on.world

-- the packet of a number has the name that comes after so many others
abbrev pub IsNamedAt : (names : List (List ℕ)) (net : List PacketOf) → ℕ → Type 0
IsNamedAt names net number = (p : PacketOf) → slice_get net number ≡ Some p
    → (bytes : List ℕ) × Spells bytes p × (slice_get names number ≡ Some (name_of bytes))

-- so have all of them, and there are no other names
pub record AreNamed (names : List (List ℕ)) (net : List PacketOf) : Type 0 where
  pub count : length names ≡ length net
  pub each : (number : ℕ) → IsNamedAt names net number

-- all events of the script were carried out, and the packets that were sent have the names that it
-- tells, in their order

pub record IsNamedReplay (job : JobOf) (text : List ℕ) (r : Replayed) : Type 0 where
  pub replay : IsReplayOf job text r
  pub named : AreNamed (names_in text) replay.on.world.net

-- all lines of a script are events'
abbrev pub AreEvents : List ℕ → Type 0
AreEvents text = (events : List Event) × (script text ≡ Ok events)

-- what a refusal of a script says: its first line that isn't an event's; or all lines are events',
-- and one or the first world found no memory
abbrev pub IsScriptRefusal : List ℕ → ReplayFault → Type 0
IsScriptRefusal text (fault.Line l) = script text ≡ Err l
IsScriptRefusal text fault.Memory = AreEvents text
IsScriptRefusal text (fault.Packet number) = ⊥
IsScriptRefusal text fault.File = ⊥
IsScriptRefusal text (fault.Job e) = ⊥

-- where names are compared, it may also be a packet: all lines are events' then
abbrev pub IsNamedRefusal : List ℕ → ReplayFault → Type 0
IsNamedRefusal text (fault.Line l) = script text ≡ Err l
IsNamedRefusal text fault.Memory = Unit {0}
IsNamedRefusal text (fault.Packet number) = AreEvents text
IsNamedRefusal text fault.File = ⊥
IsNamedRefusal text (fault.Job e) = ⊥

-- and where events are told, one that can't be written
abbrev pub IsToldRefusal : List ℕ → ReplayFault → Type 0
IsToldRefusal text (fault.Line l) = script text ≡ Err l
IsToldRefusal text fault.Memory = Unit {0}
IsToldRefusal text (fault.Packet number) = AreEvents text
IsToldRefusal text fault.File = Unit {0}
IsToldRefusal text (fault.Job e) = ⊥

-- some text and some script, as the files hold them, whose replay on the input comes to this
pub record IsFilesReplay (input : List ℤ) (number : ℕ) (r : Replayed) : Type 0 where
  pub text : List ℕ
  pub script_text : List ℕ
  pub job : JobOf
  pub is : IsJobOf text input number job
  pub replay : IsReplayOf job script_text r

-- and whose packets have the names that the script tells, where that was asked for
pub record IsNamedFiles (input : List ℤ) (number : ℕ) (r : Replayed) : Type 0 where
  pub text : List ℕ
  pub script_text : List ℕ
  pub job : JobOf
  pub is : IsJobOf text input number job
  pub replay : IsNamedReplay job script_text r

-- what a refusal of files says: some text is no job on the input, some script has a line that isn't
-- an event's, or one whose lines all are has a packet of another name
abbrev pub IsFilesRefusal : List ℤ → ReplayFault → Type 0
IsFilesRefusal input (fault.Job e) = (text : List ℕ) × IsRefusal text input e
IsFilesRefusal input (fault.Line l) = (text : List ℕ) × (script text ≡ Err l)
IsFilesRefusal input (fault.Packet number) = (text : List ℕ) × AreEvents text
IsFilesRefusal input fault.Memory = Unit {0}
IsFilesRefusal input fault.File = Unit {0}

-- A step of the open clearinghouse, as moves.
use Rattle.std.specs.Prelude.{◌≡◌, ◌⊎◌, ℕ, Some}
use Rattle.serial_meaning.specs.Job.{JobOf}
use Rattle.clearinghouse.specs.House.{HouseOf, Kept, name_of}
use Rattle.clearinghouse.specs.Steps.{HouseStepOf, HouseAnswer, Ignored, Refused, Does}
use Rattle.table_laws.specs.Tables.{◌∈◌}
use Rattle.table_laws.specs.View.{Transfer, View}
use Rattle.table_laws.specs.Meaning.{Meaning}
use Rattle.table_laws.specs.Program.{program_meaning}
use Rattle.table_laws.specs.Runs.{Run, Leads}
use Rattle.move_laws.specs.Beside.{SameAt, KeepsSent}
use Rattle.actor_laws.specs.node_moves.Steps.{AllShown, IsSent}
use Rattle.actor_laws.specs.house_moves.Shows.{OpenShown}

-- what a job's program means on its input, as runs ask of it
abbrev pub tables_meaning : JobOf → Meaning
tables_meaning job = program_meaning job.program job.input

-- moves of the clearinghouse lead to tables that show it after the step, and what it sends; the
-- rows of all other names stay, no name is new, and nothing is put into a slot
pub record HouseStepShown (job : JobOf) (v : View) (h : HouseOf) (s : HouseStepOf) : Type 0 where
  pub view : View
  pub run : Run (tables_meaning job) v → Run (tables_meaning job) view
  pub since : (base : View) → Leads base v → Leads base view
  pub keeps : KeepsSent v view
  pub others : (j : ℕ) → (j ≡ name_of h → ⊥) → SameAt v view j
  pub used : view.used ≡ v.used
  pub same_name : name_of h ≡ name_of s.after
  pub after : OpenShown view s.after
  pub sent : AllShown view s.sent
  pub transfers : (t : Transfer) → t ∈ view.transfers → (t ∈ v.transfers) ⊎ IsSent job.number s.sent t
  pub fills : view.fills ≡ v.fills
  -- what a step that commits sends gives nothing away
  pub keeps_transfers : (k : Kept) → s.commits ≡ Some k → (t : Transfer) → t ∈ view.transfers → t ∈ v.transfers

-- an answer changes nothing, or is a step that is shown
abbrev pub HouseAnswerShown : JobOf → View → HouseOf → HouseAnswer → Type 0
HouseAnswerShown job v h Ignored = Unit {0}
HouseAnswerShown job v h (Refused e) = Unit {0}
HouseAnswerShown job v h (Does s) = HouseStepShown job v h s

-- What a run on threads answers.
use Rattle.std.specs.Prelude.{◌≡◌, ℕ, Bool, List, Some, IfSome}
use Rattle.ids.specs.declared.outcome.Outcome.{Outcome}
use Rattle.disk.specs.Device.{Device}
use Rattle.disk.specs.declared.cells.Cell.{Cell}
use Rattle.checkpoint.specs.Store.{KeepsRecord}
use Rattle.checkpoint.specs.declared.record.CheckpointRecord.{CheckpointRecord}
use Rattle.serial_meaning.specs.Job.{JobOf, meaning_of}
use Rattle.world_steps.specs.Agrees.{StoredAgree}
use Rattle.world_steps.specs.Found.{IsKeptOf}
use Rattle.board.specs.Boards.{BoardOf, IsMeant}
use Rattle.chronicle.specs.History.{first_outcome}
use Rattle.chronicle.specs.Kept.{IsLeftBy}
use Rattle.chronicle.specs.Seats.{ChronicleOf, IsSeatIn}
use Rattle.start_words.specs.Words.{IsPenOf, TableOf}
use Rattle.runner_parts.specs.Lines.{IsHomeOf, IsLineOf}
use Rattle.node_runner.specs.declared.crew.ActorContext.{ActorContext}
use Rattle.node_runner.specs.declared.crew.NodeContext.{NodeContext}
use Rattle.node_runner.specs.declared.crew.WorkerContext.{WorkerContext}
use Rattle.node_runner.specs.declared.run.Ran.{Ran}

-- where what is saved on the disk that was given agrees, the outcome is the job's meaning; the
-- trace is a safe history of the job over this disk, and tells this outcome first; and the disk
-- that comes back keeps it, as it was found on the one that this history leaves
pub record IsRanOf {D : Type 0} (device : D → Device) (job : JobOf) (first : Device) (ran : Ran D) : Type 0 where
  pub meant : StoredAgree job first → ran.outcome ≡ meaning_of job
  pub out_of_memory : Bool
  pub left : Device
  pub run : IsLeftBy job first ran.trace out_of_memory left
  pub told : first_outcome ran.trace ≡ Some ran.outcome
  pub kept : IsKeptOf left job.number (Some ran.outcome) (device ran.disk).file

-- whatever a crash leaves of a file is the checkpoint of the job of a number, with this outcome
pub record KeepsOutcome (file : List Cell) (number : ℕ) (outcome : Outcome) : Type 0 where
  pub sequence : ℕ
  pub found : CheckpointRecord
  pub kept : KeepsRecord file sequence found
  pub own : found.job ≡ number
  pub told : found.outcome ≡ Some outcome

-- where what is saved on the disk with which a chronicle's history begins agrees, an outcome that
-- it tells is the meaning of its job: so a board takes it
abbrev pub TakesOutcomesOf : ChronicleOf → BoardOf → Type 0
TakesOutcomesOf c b = (o : Outcome) → (StoredAgree c.job c.first → o ≡ meaning_of c.job) → IsMeant b.job b.saved o

-- what a node has besides its seat: a pen of a table of start words, and a desk for turns of the
-- job's program
abbrev pub IsNodeIn : JobOf → TableOf → NodeContext → Type 0
IsNodeIn job words node = IsPenOf words node.pen × IsHomeOf job.program node.desk.home

-- an actor's context, in a chronicle
abbrev pub IsContextIn : {D : Type 0} → ChronicleOf → TableOf → ActorContext D → Type 0
IsContextIn c words context = IsSeatIn c context.seat × IfSome context.node (IsNodeIn c.job words)

-- a body worker's context, for turns of the job's program
abbrev pub IsWorkerOf : JobOf → WorkerContext → Type 0
IsWorkerOf job context = IsLineOf job.program context.line

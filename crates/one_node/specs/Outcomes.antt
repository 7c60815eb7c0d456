-- What a run of at most so many turns comes to.
use Rattle.std.specs.Prelude.{◌≡◌, ◌<◌, ◌≤◌, ◌^◌, ℕ, Some, IsSome, Result, Ok, Err}
use Rattle.ids.specs.declared.outcome.Outcome.{Outcome}
use Rattle.ids.specs.declared.outcome.Progress.TheVariants.{Finished}
use Rattle.serial_meaning.specs.Job.{JobOf, meaning_of}
use Rattle.one_node.specs.declared.fault.RunFault.{RunFault}
use Rattle.one_node.specs.declared.fault.RunFault.TheVariants.{TurnsSpent, NumbersSpent, Memory}
use Rattle.one_node.specs.Runs.{RunOf, after, one_turn}

-- the run ends within these turns, with this outcome
pub record IsRunEnd (job : JobOf) (turns : ℕ) (o : Outcome) : Type 0 where
  pub n : ℕ
  pub within : n ≤ turns
  pub run : RunOf
  pub reached : after job n ≡ Some run
  pub ended : run.content.progress ≡ Finished o

-- more turns than these are needed
pub record IsShort (job : JobOf) (turns : ℕ) : Type 0 where
  pub run : RunOf
  pub reached : after job turns ≡ Some run
  pub goes_on : IsSome (one_turn job.program run)

-- a turn within these needs a frame number above 2^32 - 1
pub record IsCounted (job : JobOf) (turns : ℕ) : Type 0 where
  pub n : ℕ
  pub within : n < turns
  pub run : RunOf
  pub reached : after job n ≡ Some run
  pub next : RunOf
  pub turn : one_turn job.program run ≡ Some next
  pub spent : 2 ^ 32 ≤ next.content.next

-- an outcome is that of the run and the meaning of the job, and a refusal says why there is none
-- within these turns; running out of memory says nothing
abbrev pub IsRunOf : JobOf → ℕ → Result Outcome RunFault → Type 0
IsRunOf job turns (Ok o) = IsRunEnd job turns o × (o ≡ meaning_of job)
IsRunOf job turns (Err TurnsSpent) = IsShort job turns
IsRunOf job turns (Err NumbersSpent) = IsCounted job turns
IsRunOf job turns (Err Memory) = Unit {0}

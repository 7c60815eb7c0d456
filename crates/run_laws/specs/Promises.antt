-- What is promised of a run.
use Rattle.std.specs.Prelude.{List}
use Rattle.serial_meaning.specs.Job.{JobOf}
use Rattle.table_laws.specs.Tables.{◌∈◌}
use Rattle.world_steps.specs.Agrees.{Agrees}
use Rattle.world_steps.specs.Lost.{NothingLost}
use Rattle.world_steps.specs.Safe.{Safe}
use Rattle.world_steps.specs.World.{WorldOf}
use Rattle.run_laws.specs.Next.{NextSteps}
use Rattle.run_laws.specs.Standing.{WorldStands}

-- these worlds, one after another, are safe; and each agrees with the serial meaning and has lost
-- nothing, in each nobody waits for somebody who is gone, and work and outcomes that come now are
-- taken
pub record AllSafe (job : JobOf) (worlds : List WorldOf) : Type 0 where
  pub safe : Safe job worlds
  pub agree : (w : WorldOf) → w ∈ worlds → Agrees job w
  pub none_lost : (w : WorldOf) → w ∈ worlds → NothingLost w
  pub stand : (w : WorldOf) → w ∈ worlds → WorldStands w
  pub next : (w : WorldOf) → w ∈ worlds → NextSteps job w

use Rattle.run_laws.proofs.Finding.{openings_find}
use Rattle.run_laws.proofs.Going.{first_sound}
use Rattle.world_steps.specs.World.{first_over}
use Rattle.run_laws.proofs.runs.openings_find_their_store.Goals as goal

pub returns : goal.returns
returns c = λ job d entries worlds x ok can runs m.
    openings_find job ok (first_over d) entries worlds runs (first_sound job d can) x m

use Rattle.world_steps.proofs.Meeting.{first_agrees}
use Rattle.world_steps.proofs.laws.the_first_world.Goals as goal

pub returns-clause-agrees : goal.returns-clause-agrees
returns-clause-agrees c = first_agrees

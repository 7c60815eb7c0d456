use Rattle.content_laws.proofs.Granting.{again_moves}
use Rattle.content_laws.proofs.laws.results_told_again_are_moves.Goals as goal

pub returns : goal.returns
returns c = again_moves

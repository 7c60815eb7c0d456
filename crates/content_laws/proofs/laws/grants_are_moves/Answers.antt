use Rattle.content_laws.proofs.Granting.{grant_moves}
use Rattle.content_laws.proofs.laws.grants_are_moves.Goals as goal

pub returns : goal.returns
returns c = grant_moves

use Rattle.content_laws.proofs.Granting.{redo_moves}
use Rattle.content_laws.proofs.laws.frames_done_again_are_moves.Goals as goal

pub returns : goal.returns
returns c = redo_moves

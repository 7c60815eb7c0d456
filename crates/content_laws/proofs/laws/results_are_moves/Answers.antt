use Rattle.content_laws.proofs.Carrying.{result_moves}
use Rattle.content_laws.proofs.laws.results_are_moves.Goals as goal

pub returns : goal.returns
returns c = λ m v i g s content r o live kept shows there told.
    result_moves m v i g s content r live kept shows there o told

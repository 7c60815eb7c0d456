use Rattle.kind_check.proofs.Joined.{turn_holes}
use Rattle.kind_check.proofs.laws.joins_have_few_holes.Goals as goal

pub returns : goal.returns
returns c = λ p t numbers s slots turn. turn_holes p t numbers s slots turn

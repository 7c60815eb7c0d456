use Rattle.move_laws.proofs.MarkingLost.{marked_lost}
use Rattle.move_laws.proofs.laws.a_verdict_can_be_marked_as_a_loss.Goals as goal

pub returns : goal.returns
returns c = λ v i dead r reached works worker keeps is. marked_lost v i dead r reached works worker keeps is

use Rattle.actor_laws.proofs.whole_offers.Wires.{piece_agrees}
use Rattle.actor_laws.proofs.whole_offers.laws.wires_agree.Goals as goal

pub returns : goal.returns
returns c = piece_agrees

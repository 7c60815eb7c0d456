use Rattle.actor_laws.proofs.whole_offers.Wires.{comes_shown}
use Rattle.actor_laws.proofs.whole_offers.laws.wires_lead_to_moves.Goals as goal

pub returns : goal.returns
returns c = comes_shown

use Rattle.actor_laws.proofs.actor_agreement.House.{packet_right, passes_right}
use Rattle.actor_laws.proofs.actor_agreement.laws.what_the_house_does_agrees.Goals as goal

pub returns-clause-packets : goal.returns-clause-packets
returns-clause-packets c = λ job h p accepted right save. packet_right job h right accepted p save

pub returns-clause-moments : goal.returns-clause-moments
returns-clause-moments c = λ job h now right. passes_right job h right now

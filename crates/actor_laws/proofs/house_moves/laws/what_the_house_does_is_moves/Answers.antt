use Rattle.actor_laws.proofs.house_moves.Moments.{passes_shown}
use Rattle.actor_laws.proofs.house_moves.Table.{packet_shown}
use Rattle.actor_laws.proofs.house_moves.laws.what_the_house_does_is_moves.Goals as goal

pub returns-clause-packets : goal.returns-clause-packets
returns-clause-packets c = λ job v h p run shown sound told. packet_shown job v run h shown sound.listing.rising p told

pub returns-clause-moments : goal.returns-clause-moments
returns-clause-moments c = λ job v h now run shown. passes_shown job v run h shown now

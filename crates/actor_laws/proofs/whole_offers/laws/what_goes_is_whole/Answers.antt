use Rattle.actor_laws.proofs.whole_offers.Cutting.{arrives, goes, plain_uncut}
use Rattle.actor_laws.proofs.whole_offers.laws.what_goes_is_whole.Goals as goal

pub returns-clause-arrives : goal.returns-clause-arrives
returns-clause-arrives c = arrives

pub returns-clause-goes : goal.returns-clause-goes
returns-clause-goes c = goes

pub returns-clause-uncut : goal.returns-clause-uncut
returns-clause-uncut c = plain_uncut

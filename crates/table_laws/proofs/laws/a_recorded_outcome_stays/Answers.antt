use Rattle.table_laws.proofs.Stored.{stored_stays}
use Rattle.table_laws.proofs.laws.a_recorded_outcome_stays.Goals as goal

pub returns : goal.returns
returns c = λ v w o reached way e. stored_stays reached way o e

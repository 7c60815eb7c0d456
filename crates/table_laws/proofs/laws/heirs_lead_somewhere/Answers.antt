use Rattle.table_laws.proofs.HeirsKept.{heirs_reached}
use Rattle.table_laws.proofs.laws.heirs_lead_somewhere.Goals as goal

pub returns : goal.returns
returns c = λ v r i reached m listed. (heirs_reached reached).had_end r m i listed

use Rattle.codec.proofs.Granted.{saved_rises}
use Rattle.codec.proofs.laws.saved_values_rise.Goals as goal

pub returns : goal.returns
returns c = saved_rises

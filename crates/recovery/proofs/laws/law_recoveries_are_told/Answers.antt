use Rattle.recovery.proofs.Following.{recovered_left}
use Rattle.recovery.proofs.laws.law_recoveries_are_told.Goals as goal

pub returns : goal.returns
returns c = recovered_left

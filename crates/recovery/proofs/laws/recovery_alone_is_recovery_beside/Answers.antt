use Rattle.recovery.proofs.Beside.{recovered_beside}
use Rattle.recovery.proofs.laws.recovery_alone_is_recovery_beside.Goals as goal

pub returns : goal.returns
returns c = recovered_beside

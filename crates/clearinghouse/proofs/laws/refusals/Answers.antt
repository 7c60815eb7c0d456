use Rattle.clearinghouse.proofs.Keeping.{refused_due}
use Rattle.clearinghouse.proofs.laws.refusals.Goals as goal

pub returns : goal.returns
returns c = refused_due

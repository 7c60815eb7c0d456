use Rattle.clearinghouse.proofs.Keeping.{moment_late}
use Rattle.clearinghouse.proofs.laws.late_moment.Goals as goal

pub returns : goal.returns
returns c = moment_late

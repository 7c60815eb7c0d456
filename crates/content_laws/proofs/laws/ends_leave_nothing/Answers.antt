use Rattle.content_laws.proofs.Carrying.{end_is}
use Rattle.content_laws.proofs.laws.ends_leave_nothing.Goals as goal

pub returns : goal.returns
returns c = end_is

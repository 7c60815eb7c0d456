use Rattle.clearinghouse.proofs.Keeping.{few_versions}
use Rattle.clearinghouse.proofs.laws.few_versions.Goals as goal

pub returns : goal.returns
returns c = few_versions

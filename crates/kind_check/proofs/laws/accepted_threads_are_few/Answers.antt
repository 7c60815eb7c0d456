use Rattle.kind_check.proofs.Accepted.{accepted_small}
use Rattle.kind_check.proofs.laws.accepted_threads_are_few.Goals as goal

pub returns : goal.returns
returns c = λ p t count accepted takes. accepted_small p t count accepted takes

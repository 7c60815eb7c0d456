-- Parts that are all there.
use Rattle.codec.proofs.Joining.{all_joined, read_joined}
use Rattle.codec.proofs.laws.parts_join.Goals as goal

pub returns-clause-joined : goal.returns-clause-joined
returns-clause-joined c = all_joined

pub returns-clause-read : goal.returns-clause-read
returns-clause-read c = read_joined

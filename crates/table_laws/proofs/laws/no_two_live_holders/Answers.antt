use Rattle.table_laws.proofs.OneHead.{one_live}
use Rattle.table_laws.proofs.NamesReached.{names_reached}
use Rattle.table_laws.proofs.laws.no_two_live_holders.Goals as goal

pub returns : goal.returns
returns c = λ v i j g s t reached here there. one_live v (names_reached reached) i j g s t here there

use Rattle.table_laws.proofs.NamesReached.{names_reached}
use Rattle.table_laws.proofs.Paths.{grant_of_transfer}
use Rattle.table_laws.proofs.laws.each_transfer_comes_of_a_grant.Goals as goal

pub returns : goal.returns
returns c = λ v g reached granted. grant_of_transfer v (names_reached reached) g granted

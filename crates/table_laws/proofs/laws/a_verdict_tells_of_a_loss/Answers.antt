use Rattle.table_laws.proofs.RostersKept.{verdict}
use Rattle.table_laws.proofs.RostersReached.{rosters_reached}
use Rattle.table_laws.proofs.laws.a_verdict_tells_of_a_loss.Goals as goal

pub returns : goal.returns
returns c = λ v house r i judged reached open_now keeps shown.
    verdict v (rosters_reached reached) house r i judged open_now keeps shown

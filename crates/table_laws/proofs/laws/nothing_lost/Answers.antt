use Rattle.table_laws.proofs.NothingLost.{record_comes, root_comes}
use Rattle.table_laws.proofs.laws.nothing_lost.Goals as goal

pub returns-clause-open_record : goal.returns-clause-open_record
returns-clause-open_record c = λ v house i g k s n reached open_now here e.
    record_comes v house i g k s n reached open_now here e

pub returns-clause-root_record : goal.returns-clause-root_record
returns-clause-root_record c = λ v house k reached open_now e. root_comes v house k reached open_now e

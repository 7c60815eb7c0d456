use Rattle.std.proofs.Common.{refl}
use Rattle.table_laws.specs.Facts.{sent}
use Rattle.table_laws.proofs.NamesReached.{names_reached}
use Rattle.table_laws.proofs.ValuesKept.{values_run}
use Rattle.table_laws.proofs.laws.every_result_is_its_tasks_outcome.Goals as goal

pub returns-clause-granted : goal.returns-clause-granted
returns-clause-granted c = λ v x reached told. (names_reached reached).result_granted x told

pub returns-clause-outcome : goal.returns-clause-outcome
returns-clause-outcome c = λ m v x t law run told there is.
    (values_run m law run).results_agree x t.content told (sent t there is refl)

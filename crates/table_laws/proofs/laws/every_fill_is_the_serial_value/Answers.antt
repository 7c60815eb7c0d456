use Rattle.table_laws.proofs.ValuesKept.{values_run}
use Rattle.table_laws.proofs.laws.every_fill_is_the_serial_value.Goals as goal

pub returns : goal.returns
returns c = λ m v x law run there. (values_run m law run).fills_agree x there

use Rattle.table_laws.proofs.FillsKept.{fills_reached}
use Rattle.table_laws.proofs.laws.no_slot_filled_twice.Goals as goal

pub returns : goal.returns
returns c = λ v reached. (fills_reached reached).once

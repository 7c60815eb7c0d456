use Rattle.std.proofs.Common.{arith, rules}
use Rattle.saved_values.proofs.Values.{none_saved}
use Rattle.saved_values.proofs.table.SavedTable.new.Goals as goal

pub invariant_of-result : goal.invariant_of-result
invariant_of-result c = (omega arith, search rules, none_saved)

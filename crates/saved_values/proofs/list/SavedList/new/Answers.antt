use Rattle.saved_values.specs.Saved.{IsSavedList}
use Rattle.saved_values.proofs.Values.{none_saved}
use Rattle.saved_values.proofs.list.SavedList.new.Goals as goal

pub invariant_of-result : goal.invariant_of-result
invariant_of-result c = rw c.new.ensures none_saved

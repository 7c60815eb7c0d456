use Rattle.std.proofs.Common.{◌≡◌, take}
use Rattle.saved_values.proofs.table.copied.Given as goal

abbrev pub invariant-loop-saved : goal.invariant-loop-saved
invariant-loop-saved l = l.copy ≡ take l.saved-index l.values

use Rattle.std.proofs.Common.{◌≡◌, ◌++◌, drop}
use Rattle.saved_values.specs.Saved.{saved_under}
use Rattle.saved_values.proofs.table.those_below.Given as goal

abbrev pub invariant-loop-saved : goal.invariant-loop-saved
invariant-loop-saved l = l.found ++ saved_under l.root (drop l.saved-index l.values) ≡ saved_under l.root l.values

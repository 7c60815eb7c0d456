use Rattle.std.proofs.Common.{◌≡◌, ◌++◌}
use Rattle.ids.proofs.sorted_map.SortedMapClone.clone.Given as goal

abbrev pub invariant-loop-item : goal.invariant-loop-item
invariant-loop-item g l = l.items ++ l.item-iterator ≡ l.self

use Rattle.std.proofs.Common.{◌≤◌, length, drop}
use Rattle.departure.specs.Links.{AreTaken}
use Rattle.departure.proofs.accepting.take_each.Given as goal

abbrev pub invariant-loop-left : goal.invariant-loop-left
invariant-loop-left l = (l.left ≤ length l.names) × AreTaken (drop l.left l.names) l.initial.rest l.rest

abbrev pub decreases-loop-left : goal.decreases-loop-left
decreases-loop-left l = l.left

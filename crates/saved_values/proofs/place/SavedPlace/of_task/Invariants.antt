use Rattle.std.proofs.Common.{◌≡◌, length, reverse}
use Rattle.saved_values.specs.Places.{stripped}
use Rattle.saved_values.proofs.place.SavedPlace.of_task.Given as goal

abbrev pub invariant-loop-last : goal.invariant-loop-last
invariant-loop-last l = stripped (reverse l.steps) ≡ stripped l.place

abbrev pub decreases-loop-last : goal.decreases-loop-last
decreases-loop-last l = length l.steps

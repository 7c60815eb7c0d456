use Rattle.std.proofs.Common.{◌≡◌, ◌++◌}
use Rattle.node_core.specs.Views.{ready_numbers}
use Rattle.node_core.proofs.views.ready_numbers.Given as goal

abbrev pub invariant-loop-frame : goal.invariant-loop-frame
invariant-loop-frame l = l.numbers ++ ready_numbers l.frame-iterator ≡ ready_numbers l.frames

use Rattle.std.proofs.Common.{◌≡◌, ◌++◌}
use Rattle.node_core.specs.Views.{waiting_numbers}
use Rattle.node_core.proofs.views.waiting_numbers.Given as goal

abbrev pub invariant-loop-frame : goal.invariant-loop-frame
invariant-loop-frame l = l.numbers ++ waiting_numbers l.frame-iterator ≡ waiting_numbers l.frames

use Rattle.std.proofs.Common.{◌≡◌, ◌++◌}
use Rattle.sub_rules.specs.Changes.{readied_in}
use Rattle.recovery.proofs.alone.ready_of.Given as goal

abbrev pub invariant-loop-frame : goal.invariant-loop-frame
invariant-loop-frame l = l.ready ++ readied_in l.frame-iterator ≡ readied_in l.sub.content.frames

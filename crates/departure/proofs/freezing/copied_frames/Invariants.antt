use Rattle.std.proofs.Common.{◌≡◌, ◌++◌}
use Rattle.std.specs.List.{AllByRecursion}
use Rattle.departure.specs.Typed.{FrameTyped}
use Rattle.departure.proofs.freezing.copied_frames.Given as goal

abbrev pub invariant-loop-frame : goal.invariant-loop-frame
invariant-loop-frame l = record {
  same : l.copies ++ l.frame-iterator
      ≡ l.frames;
  typed : AllByRecursion FrameTyped l.copies;
}

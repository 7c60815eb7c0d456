use Rattle.std.proofs.Common.{◌≡◌, ◌++◌, length}
use Rattle.std.specs.Vec.Iter.{into_iter_items, into_iter_len}
use Rattle.departure.proofs.accepting.frames_of.Given as goal

abbrev pub invariant-loop-frame : goal.invariant-loop-frame
invariant-loop-frame l =
    (l.frames ++ into_iter_items l.frame-iterator ≡ l.fn.listed.items)
    × (into_iter_len l.frame-iterator ≡ length (into_iter_items l.frame-iterator))

use Rattle.std.proofs.Common.{◌≡◌, ◌++◌, map, drop}
use Rattle.std.specs.List.{flat_map}
use Rattle.subcomputation.specs.Fitting.{awaited_in, empty_from}
use Rattle.departure.specs.Links.{name_of_return}
use Rattle.departure.proofs.accepting.awaited.Given as goal

abbrev pub invariant-loop-frame : goal.invariant-loop-frame
invariant-loop-frame l = l.awaited ++ map name_of_return
    (flat_map (λ f. empty_from f.number 0 f.slots) (drop l.frame-index l.frames))
    ≡ map name_of_return (awaited_in l.frames)

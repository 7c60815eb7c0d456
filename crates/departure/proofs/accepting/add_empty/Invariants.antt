use Rattle.std.proofs.Common.{◌≡◌, ◌++◌, map, drop}
use Rattle.subcomputation.specs.Fitting.{empty_from}
use Rattle.departure.specs.Links.{name_of_return}
use Rattle.departure.proofs.accepting.add_empty.Given as goal

abbrev pub invariant-loop-slot : goal.invariant-loop-slot
invariant-loop-slot l = l.awaited ++ map name_of_return (empty_from l.frame.number l.slot (drop l.slot l.frame.slots))
    ≡ l.initial.awaited ++ map name_of_return (empty_from l.frame.number 0 l.frame.slots)

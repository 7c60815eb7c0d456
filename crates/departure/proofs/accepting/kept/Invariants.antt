use Rattle.std.proofs.Common.{take}
use Rattle.departure.specs.Links.{AreKept}
use Rattle.departure.proofs.accepting.kept.Given as goal

abbrev pub invariant-loop-name : goal.invariant-loop-name
invariant-loop-name l = AreKept (take l.name-index l.names) l.kept

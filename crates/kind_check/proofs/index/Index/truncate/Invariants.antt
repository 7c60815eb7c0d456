use Rattle.std.proofs.Common.{◌≡◌, take, length}
use Rattle.kind_check.proofs.index.Index.truncate.Given as goal

-- the first names stay
abbrev pub invariant-loop-self : goal.invariant-loop-self
invariant-loop-self l = take l.count l.self ≡ take l.count l.initial.self

abbrev pub decreases-loop-self : goal.decreases-loop-self
decreases-loop-self l = length l.self

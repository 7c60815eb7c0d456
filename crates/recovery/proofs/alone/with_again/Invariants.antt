use Rattle.std.proofs.Common.{◌≡◌, ◌++◌, drop, map}
use Rattle.recovery.proofs.alone.with_again.Given as goal

abbrev pub invariant-loop-one : goal.invariant-loop-one
invariant-loop-one l = l.all ++ map (λ r. r.frame) (drop l.one-index l.again)
    ≡ l.initial.all ++ map (λ r. r.frame) l.again

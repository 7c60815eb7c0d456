use Rattle.std.proofs.Common.{◌≡◌, ◌++◌, List, drop}
use Rattle.kind_check.specs.declared.code.Code.{Code}
use Rattle.kind_check.specs.Resolves.{after, ResolvesLets}
use Rattle.kind_check.specs.InScope.{LetsInScope}
use Rattle.kind_check.proofs.resolve.lets.Given as goal

-- what resolves the rest makes these codes resolve all; the names of the rest are there
abbrev pub invariant-loop-each : goal.invariant-loop-each
invariant-loop-each l = record {
  codes : (rest : List Code) → ResolvesLets l.names (drop l.each-index l.each-items) rest
      → ResolvesLets l.fn.names l.lets (l.codes ++ rest);
  names : after l.names (drop l.each-index l.each-items) ≡ after l.fn.names l.lets;
  known : LetsInScope l.names (drop l.each-index l.each-items);
}

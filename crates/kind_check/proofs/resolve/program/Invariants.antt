use Rattle.std.proofs.Common.{◌++◌, List, drop}
use Rattle.kind_check.specs.declared.code.BlockCode.{BlockCode}
use Rattle.kind_check.specs.Resolves.{ResolvesThreads}
use Rattle.kind_check.proofs.resolve.program.Given as goal

-- what resolves the rest makes these codes resolve all
abbrev pub invariant-loop-each : goal.invariant-loop-each
invariant-loop-each l = (rest : List BlockCode)
    → ResolvesThreads l.program.threads (drop l.each-index l.each-items) rest
    → ResolvesThreads l.program.threads l.program.threads (l.bodies ++ rest)

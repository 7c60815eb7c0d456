use Rattle.std.proofs.Common.{◌≡◌, ◌++◌, drop}
use Rattle.kind_check.specs.Resolves.{names_of}
use Rattle.kind_check.proofs.resolve.thread.Given as goal

-- what resolves the rest makes these codes resolve all
abbrev pub invariant-loop-name : goal.invariant-loop-name
invariant-loop-name l = l.names ++ names_of (drop l.name-index l.name-items) ≡ names_of l.thread.numbers

use Rattle.std.proofs.Common.{◌≡◌, ◌++◌}
use Rattle.heirs.proofs.bearers.chains.listed.Given as goal

abbrev pub invariant-loop-chain : goal.invariant-loop-chain
invariant-loop-chain l = l.chains ++ l.chain-iterator ≡ l.table

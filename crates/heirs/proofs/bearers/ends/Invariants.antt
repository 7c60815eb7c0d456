use Rattle.std.proofs.Common.{◌≡◌, ◌++◌, map, drop}
use Rattle.heirs.specs.Chains.{bearing_of}
use Rattle.heirs.proofs.bearers.ends.Given as goal

abbrev pub invariant-loop-chain : goal.invariant-loop-chain
invariant-loop-chain l = l.table ++ map bearing_of (drop l.chain-index l.chains) ≡ map bearing_of l.chains

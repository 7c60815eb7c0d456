use Rattle.std.proofs.Common.{◌≡◌, map, take}
use Rattle.heirs.specs.Chains.{gone_on}
use Rattle.heirs.proofs.bearers.chains.joined.Given as goal

abbrev pub invariant-loop-chain : goal.invariant-loop-chain
invariant-loop-chain l = l.longer ≡ map (gone_on l.next) (take l.chain-index l.chains)

use Rattle.std.proofs.Common.{◌≡◌, take}
use Rattle.heirs.proofs.bearers.chains.guessed.Given as goal

abbrev pub invariant-loop-chain : goal.invariant-loop-chain
invariant-loop-chain l = l.copies ≡ take l.chain-index l.chains

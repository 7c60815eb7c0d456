use Rattle.std.proofs.Common.{take, refl}
use Rattle.ids.specs.Naming.{name_of_member}
use Rattle.heirs.specs.Chains.{name_of_chain, chain_of}
use Rattle.heirs.proofs.Tables.{IsMadeFrom}
use Rattle.heirs.proofs.bearers.chains.first_step.Given as goal

abbrev pub invariant-loop-member : goal.invariant-loop-member
invariant-loop-member l = IsMadeFrom name_of_member name_of_chain chain_of (λ m. refl)
    (take l.member-index l.members) l.table

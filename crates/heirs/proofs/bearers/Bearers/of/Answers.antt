use Rattle.std.proofs.Common.{◌≡◌, ◌+◌, ℕ, length, List, add-one, ap, ◌∙◌, refl}
use Rattle.ids.specs.Members.{follow}
use Rattle.ids.specs.Naming.{name_of_member}
use Rattle.heirs.specs.declared.bearers.chains.Chain.{Chain}
use Rattle.heirs.specs.Bearers.{bearer_in}
use Rattle.heirs.specs.Chains.{name_of_chain, chain_of, end_of, reach_in}
use Rattle.heirs.proofs.Tables.{IsMadeFrom}
use Rattle.heirs.proofs.Reaching.{chain_ends, bearer_at_end}
use Rattle.heirs.proofs.bearers.Bearers.of.Goals as goal

pub returns : goal.returns
returns c i =
    let members = c.args.members.now in
    let step : List Chain = c.in_ok-step.step in
    let same : step ≡ c.in_ok-table.table = c.in_ok-step.ensures ∙ c.as_slice.ensures ∙ c.in_ok-chains.ensures in
    let made : IsMadeFrom name_of_member name_of_chain chain_of (λ m. refl) members step =
    rw same c.in_ok-table.ensures in
    ap (bearer_in i) (c.in_ok-ends.ensures)
    ∙ bearer_at_end c.as_slice-2.result.now i
    ∙ ap (λ (chains : List Chain). end_of (reach_in chains i)) c.as_slice-2.ensures
    ∙ ap end_of (c.in_ok-chains-2.ensures.says i)
    ∙ chain_ends members step made (length members + 1) i
    ∙ ap (λ (steps : ℕ). follow steps members i) (add-one (length members))

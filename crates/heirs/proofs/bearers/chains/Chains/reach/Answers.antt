use Rattle.std.proofs.Common.{◌≡◌, ℕ, List, Some, slice_index_or, Equal, sym, ap, ◌∙◌}
use Rattle.std.proofs.lemmas.List.{get_or_default}
use Rattle.std.proofs.lemmas.Bool.{eqb-true}
use Rattle.ids.specs.Named.{name_cmp, item_in}
use Rattle.ids.specs.Ordered.{AreInOrder}
use Rattle.ids.proofs.Halving.{found}
use Rattle.heirs.proofs.Tables.{equal_to_itself}
use Rattle.heirs.specs.declared.bearers.chains.Chain.{Chain}
use Rattle.heirs.specs.Chains.{name_of_chain, reach_of}
use Rattle.heirs.proofs.bearers.chains.Chains.reach.Goals as goal

pub returns-then-eq : goal.returns-then-eq
returns-then-eq c =
    let chains : List Chain = c.as_slice-chains.result.now in
    let worker = c.args.worker in
    let place = c.unwrap_or-place.result in
    let chain : Chain = c.index-chains-place-then-eq.result in
    let other : Chain = c.index-chains-place.result in
    let named : (slice_index_or chains place other).worker ≡ worker =
    eqb-true (slice_index_or chains place other).worker worker (sym c.eq.ensures ∙ c.if-eq.true) in
    let equal : (d : Chain) → name_cmp (name_of_chain (slice_index_or chains place d)) (worker, 0) ≡ Equal =
    λ d. ap (λ (w : ℕ). name_cmp (w, 0) (worker, 0))
    (ap (λ (e : Chain). e.worker) (get_or_default chains place d other c.if-place-chains.true) ∙ named)
    ∙ equal_to_itself (worker, 0) in
    let now : chains ≡ c.args.self.now = c.as_slice-chains.ensures ∙ c.self.view_is in
    let order : AreInOrder name_of_chain chains = rw now c.requires in
    let there : Some chain ≡ item_in name_of_chain (worker, 0) chains =
    found name_of_chain (worker, 0) chains order place c.if-place-chains.true equal
    chain c.index-chains-place-then-eq.is in
    ap (λ (d : Chain). d.reach) (sym c.index-chains-place-then-eq.is)
    ∙ ap (reach_of worker) there
    ∙ ap (λ (all : List Chain). reach_of worker (item_in name_of_chain (worker, 0) all)) now

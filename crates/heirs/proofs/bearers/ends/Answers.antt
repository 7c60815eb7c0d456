use Rattle.std.proofs.Common.{◌≡◌, ◌+◌, List, ◌∷◌, ◌++◌, drop, map, refl, sym, ap, ◌∙◌}
use Rattle.std.proofs.lemmas.List.{drop_more}
use Rattle.ids.specs.Named.{put_in}
use Rattle.heirs.specs.declared.bearers.chains.Chain.{Chain}
use Rattle.heirs.specs.Bearers.{name_of_bearing}
use Rattle.heirs.specs.Chains.{name_of_chain, bearing_of}
use Rattle.heirs.proofs.Tables.{put_next_made}
use Rattle.heirs.proofs.bearers.ends.Goals as goal

pub loop-chain-preserved : goal.loop-chain-preserved
loop-chain-preserved c =
    let chains : List Chain = c.args.chains.now in
    let at = c.loop-chain.chain-index in
    let chain : Chain = c.chain-item.result in
    let split : drop at chains ≡ chain ∷ drop (at + 1) chains =
    drop_more chains at chain c.loop-chain-test.true
    ∙ ap (λ (d : Chain). d ∷ drop (at + 1) chains) (sym c.chain-item.is) in
    let all : c.loop-chain.table ++ map bearing_of (chain ∷ drop (at + 1) chains) ≡ map bearing_of chains =
    rw split at c.loop-chain.invariant in
    let put : c.put.new.self ≡ put_in name_of_bearing (bearing_of chain) c.loop-chain.table =
    c.in_ok-put.ensures.ok ∙ ap (λ end.
    put_in name_of_bearing (record { worker = chain.worker; bearer = end }) c.loop-chain.table) c.end.ensures in
    ap (λ table. table ++ map bearing_of (drop (at + 1) chains)) put
    ∙ put_next_made name_of_chain name_of_bearing bearing_of
    (λ c. refl) c.loop-chain.table chain (drop (at + 1) chains) chains all c.requires

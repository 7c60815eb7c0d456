use Rattle.std.proofs.Common.{rules}
use Rattle.std.proofs.lemmas.List.Sorted.{answers_always}
use Rattle.ids.proofs.Halving.{found, missing}
use Rattle.ids.proofs.sorted_map.item_of.Goals as goal

pub returns-in-Ok : goal.returns-in-Ok
returns-in-Ok g c =
    let name = g.X.Named.name_of in
    found name c.args.name c.args.items.now c.requires c.in-Ok.at c.in-Ok.ensures.bound
    (c.in-Ok.ensures.position name (answers_always _ _ _ (λ f a r q k. search rules))) c.index-items-at.result
    c.index-items-at.is

pub returns-in-Err : goal.returns-in-Err
returns-in-Err g c =
    let name = g.X.Named.name_of in
    missing name c.args.name c.args.items.now c.requires c.in-Err.field-0
    (c.in-Err.ensures.position name (answers_always _ _ _ (λ f a r q k. search rules)))

use Rattle.std.proofs.Common.{rules, ap, ◌∙◌}
use Rattle.std.proofs.lemmas.List.Sorted.{answers_always}
use Rattle.ids.specs.Named.{name_cmp}
use Rattle.ids.proofs.NameOrder.{equal_to_itself}
use Rattle.ids.proofs.Halving.{name_of, rising, place_found, place_missing}
use Rattle.ids.proofs.sorted_map.find.Goals as goal

pub returns-in-Some-clause-found : goal.returns-in-Some-clause-found
returns-in-Some-clause-found c =
    place_found c.args.name c.args.entries.now c.requires c.in-Some.at c.in-Some.ensures.0
    (λ d. ap (λ m. name_cmp m c.args.name) (c.in-Some.ensures.1 d)
    ∙ equal_to_itself c.args.name) (record { name = (0, 0); key = 0 })

pub returns-in-Ok-clause-found : goal.returns-in-Ok-clause-found
returns-in-Ok-clause-found c =
    place_found c.args.name c.args.entries.now c.requires c.in-Ok.at c.in-Ok.ensures.bound
    (c.in-Ok.ensures.position name_of (answers_always _ _ _ (λ f a r q k. search rules)))
    (record { name = (0, 0); key = 0 })

pub returns-in-Err-clause-missing : goal.returns-in-Err-clause-missing
returns-in-Err-clause-missing c =
    let parts = c.in-Err.ensures.position name_of (answers_always _ _ _ (λ f a r q k. search rules))
    (rising name_of c.args.name c.args.entries.now c.requires) in
    place_missing c.args.name c.args.entries.now c.in-Err.at c.in-Err.ensures.bound parts.0 parts.1

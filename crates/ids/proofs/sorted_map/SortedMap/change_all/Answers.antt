use Rattle.std.proofs.Common.{ap, ◌∙◌, map, rules}
use Rattle.ids.proofs.Keeping.{after_all, all_retained}
use Rattle.ids.proofs.sorted_map.SortedMap.change_all.Goals as goal

pub invariant_of-self : goal.invariant_of-self
invariant_of-self g c =
    let changed = g.C.ItemChange.changed c.args.change.now in
    let slots = all_retained _ changed _ (λ key shown keep left next t. search rules) _ _ _ c.retain.ensures.retained in
    (after_all g.X.Named.name_of changed
    (g.met.C.ItemChange.keeps_name c.args.change.now) c.self.inside.items c.retain.new.self slots
    c.self.inside.entries.items c.self.invariant).stored

pub returns : goal.returns
returns g c =
    let changed = g.C.ItemChange.changed c.args.change.now in
    let slots = all_retained _ changed _ (λ key shown keep left next t. search rules) _ _ _ c.retain.ensures.retained in
    (after_all g.X.Named.name_of changed
    (g.met.C.ItemChange.keeps_name c.args.change.now) c.self.inside.items c.retain.new.self slots
    c.self.inside.entries.items c.self.invariant).list
    ∙ ap (map changed) c.self.view_is

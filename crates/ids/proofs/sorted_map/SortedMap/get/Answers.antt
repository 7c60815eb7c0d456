use Rattle.std.proofs.Common.{ap, ◌∙◌, sym}
use Rattle.ids.specs.Named.{item_in}
use Rattle.ids.specs.Stored.{IsFound, IsMissing}
use Rattle.ids.proofs.Keeping.{item_of, missing}
use Rattle.ids.proofs.Replacing.{name_found}
use Rattle.ids.proofs.sorted_map.SortedMap.get.Goals as goal

pub returns-in-Ok-clause-same : goal.returns-in-Ok-clause-same
returns-in-Ok-clause-same g c =
    let name = g.X.Named.name_of in
    let f : IsFound c.args.name c.self.inside.entries.items c.in-Ok.field-0-0 c.in-Ok.key =
    rw c.as_slice.ensures.value at c.in-Ok.ensures.found in
    let item = item_of name c.args.name c.self.inside.items c.self.inside.entries.items c.in-Ok.field-0-0 c.in-Ok.key
    c.self.invariant f in
    c.get.ensures ∙ item.is ∙ sym item.found ∙ ap (item_in name c.args.name) c.self.view_is

pub returns-in-Ok-clause-name : goal.returns-in-Ok-clause-name
returns-in-Ok-clause-name g c = name_found g.X.Named.name_of c.args.name c.args.self.now c.get.result
    (returns-in-Ok-clause-same g c)

pub returns-in-Err-clause-same : goal.returns-in-Err-clause-same
returns-in-Err-clause-same g c =
    let name = g.X.Named.name_of in
    let f : IsMissing c.args.name c.self.inside.entries.items c.in-Err.field-0 =
    rw c.as_slice.ensures.value at c.in-Err.ensures.missing in
    sym (missing name c.args.name c.self.inside.items c.self.inside.entries.items c.in-Err.field-0 c.self.invariant f)
    ∙ ap (item_in name c.args.name) c.self.view_is

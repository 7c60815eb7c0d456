use Rattle.std.proofs.Common.{◌≡◌, ◌+◌, ap, ◌∙◌, sym}
use Rattle.slab.specs.Slab.{slab_len}
use Rattle.ids.specs.Named.{item_in, without_in}
use Rattle.ids.specs.Stored.{IsFound, IsMissing, items_at}
use Rattle.ids.proofs.Keeping.{item_of, missing, missing_stays, after_take}
use Rattle.ids.proofs.sorted_map.SortedMap.take.Goals as goal

pub invariant_of-self : goal.invariant_of-self
invariant_of-self g c =
    let name = g.X.Named.name_of in
    let f : IsFound c.args.name c.self.inside.entries.items c.in-Ok.at c.in-Ok.key =
    rw c.as_slice.ensures.value at c.in-Ok.ensures.found in
    let item = item_of name c.args.name c.self.inside.items c.self.inside.entries.items c.in-Ok.at c.in-Ok.key
    c.self.invariant f in
    let less : slab_len c.try_remove.new.self + 1 ≡ slab_len c.self.inside.items =
    rw (c.try_remove.ensures.value ∙ item.is) at c.try_remove.ensures.len in
    rw c.remove.ensures.items (after_take name c.args.name c.self.inside.items c.try_remove.new.self
    c.self.inside.entries.items c.in-Ok.at c.in-Ok.key c.self.invariant f c.try_remove.ensures.updates less).stored

pub returns-in-Ok-clause-same : goal.returns-in-Ok-clause-same
returns-in-Ok-clause-same g c =
    let name = g.X.Named.name_of in
    let f : IsFound c.args.name c.self.inside.entries.items c.in-Ok.at c.in-Ok.key =
    rw c.as_slice.ensures.value at c.in-Ok.ensures.found in
    let item = item_of name c.args.name c.self.inside.items c.self.inside.entries.items c.in-Ok.at c.in-Ok.key
    c.self.invariant f in
    c.try_remove.ensures.value ∙ item.is ∙ sym item.found ∙ ap (item_in name c.args.name) c.self.view_is

pub returns-in-Ok-clause-gone : goal.returns-in-Ok-clause-gone
returns-in-Ok-clause-gone g c =
    let name = g.X.Named.name_of in
    let f : IsFound c.args.name c.self.inside.entries.items c.in-Ok.at c.in-Ok.key =
    rw c.as_slice.ensures.value at c.in-Ok.ensures.found in
    let item = item_of name c.args.name c.self.inside.items c.self.inside.entries.items c.in-Ok.at c.in-Ok.key
    c.self.invariant f in
    let less : slab_len c.try_remove.new.self + 1 ≡ slab_len c.self.inside.items =
    rw (c.try_remove.ensures.value ∙ item.is) at c.try_remove.ensures.len in
    ap (items_at c.try_remove.new.self) c.remove.ensures.items
    ∙ (after_take name c.args.name c.self.inside.items c.try_remove.new.self c.self.inside.entries.items c.in-Ok.at
    c.in-Ok.key c.self.invariant f c.try_remove.ensures.updates less).list
    ∙ ap (without_in name c.args.name) c.self.view_is

pub returns-in-Err-clause-same : goal.returns-in-Err-clause-same
returns-in-Err-clause-same g c =
    let name = g.X.Named.name_of in
    let f : IsMissing c.args.name c.self.inside.entries.items c.in-Err.field-0 =
    rw c.as_slice.ensures.value at c.in-Err.ensures.missing in
    sym (missing name c.args.name c.self.inside.items c.self.inside.entries.items c.in-Err.field-0 c.self.invariant f)
    ∙ ap (item_in name c.args.name) c.self.view_is

pub returns-in-Err-clause-gone : goal.returns-in-Err-clause-gone
returns-in-Err-clause-gone g c =
    let name = g.X.Named.name_of in
    let f : IsMissing c.args.name c.self.inside.entries.items c.in-Err.field-0 =
    rw c.as_slice.ensures.value at c.in-Err.ensures.missing in
    sym (rw c.self.view_is at (missing_stays name c.args.name c.self.inside.items c.self.inside.entries.items
    c.in-Err.field-0 c.self.invariant f))

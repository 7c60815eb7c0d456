use Rattle.std.proofs.Common.{◌≡◌, ap, ◌∙◌, sym}
use Rattle.ids.specs.Named.{without_in}
use Rattle.ids.specs.Stored.{IsFound, IsMissing, items_at}
use Rattle.ids.proofs.Keeping.{missing_stays, after_take}
use Rattle.ids.proofs.sorted_map.SortedMap.discard.Goals as goal

pub invariant_of-self : goal.invariant_of-self
invariant_of-self g c =
    let name = g.X.Named.name_of in
    let f : IsFound c.args.name c.self.inside.entries.items c.in-Ok.at c.in-Ok.key =
    rw c.as_slice.ensures.value at c.in-Ok.ensures.found in
    rw c.remove.ensures.items (after_take name c.args.name c.self.inside.items c.remove-gone.new.self
    c.self.inside.entries.items c.in-Ok.at c.in-Ok.key c.self.invariant f c.remove-gone.ensures.updates
    c.remove-gone.ensures.len).stored

pub returns-in-Ok : goal.returns-in-Ok
returns-in-Ok g c =
    let name = g.X.Named.name_of in
    let f : IsFound c.args.name c.self.inside.entries.items c.in-Ok.at c.in-Ok.key =
    rw c.as_slice.ensures.value at c.in-Ok.ensures.found in
    ap (items_at c.remove-gone.new.self) c.remove.ensures.items
    ∙ (after_take name c.args.name c.self.inside.items c.remove-gone.new.self c.self.inside.entries.items c.in-Ok.at
    c.in-Ok.key c.self.invariant f c.remove-gone.ensures.updates c.remove-gone.ensures.len).list
    ∙ ap (without_in name c.args.name) c.self.view_is

pub returns-in-Err : goal.returns-in-Err
returns-in-Err g c =
    let name = g.X.Named.name_of in
    let f : IsMissing c.args.name c.self.inside.entries.items c.in-Err.field-0 =
    rw c.as_slice.ensures.value at c.in-Err.ensures.missing in
    sym (rw c.self.view_is at (missing_stays name c.args.name c.self.inside.items c.self.inside.entries.items
    c.in-Err.field-0 c.self.invariant f))

use Rattle.std.proofs.Common.{◌≡◌, None, ap, ◌∙◌, sym, refl}
use Rattle.ids.specs.Named.{item_in, put_in}
use Rattle.ids.specs.Stored.{IsFound, IsMissing, items_at}
use Rattle.ids.proofs.Keeping.{item_of, missing, after_over}
use Rattle.ids.proofs.sorted_map.SortedMap.replace.Goals as goal

pub put_at-requires : goal.put_at-requires
put_at-requires g c =
    let f : IsFound c.name.result c.self.inside.entries.items c.in-Ok.field-0-0 c.in-Ok.key =
    rw c.as_slice.ensures.value at c.in-Ok.ensures.found in
    rw (item_of g.X.Named.name_of c.name.result c.self.inside.items c.self.inside.entries.items c.in-Ok.field-0-0
    c.in-Ok.key c.self.invariant f).is refl

pub invariant_of-self : goal.invariant_of-self
invariant_of-self g c =
    let f : IsFound c.name.result c.self.inside.entries.items c.in-Ok.field-0-0 c.in-Ok.key =
    rw c.as_slice.ensures.value at c.in-Ok.ensures.found in
    rw c.put_at.ensures (after_over g.X.Named.name_of c.name.result c.self.inside.items c.self.inside.entries.items
    c.in-Ok.field-0-0 c.in-Ok.key c.args.item c.self.invariant f (sym c.name.ensures)).stored

pub returns : goal.returns
returns g c =
    let name = g.X.Named.name_of in
    let f : IsFound c.name.result c.self.inside.entries.items c.in-Ok.field-0-0 c.in-Ok.key =
    rw c.as_slice.ensures.value at c.in-Ok.ensures.found in
    ap (λ s. items_at s c.self.inside.entries.items) c.put_at.ensures
    ∙ (after_over name c.name.result c.self.inside.items c.self.inside.entries.items c.in-Ok.field-0-0 c.in-Ok.key
    c.args.item c.self.invariant f (sym c.name.ensures)).list
    ∙ ap (put_in name c.args.item) c.self.view_is

pub unreachable-requires : goal.unreachable-requires
unreachable-requires g c =
    let name = g.X.Named.name_of in
    let f : IsMissing c.name.result c.self.inside.entries.items c.in-Err.field-0 =
    rw c.as_slice.ensures.value at c.in-Err.ensures.missing in
    let none : item_in name (name c.args.item) c.args.self.now ≡ None =
    sym (ap (item_in name (name c.args.item)) c.self.view_is)
    ∙ rw c.name.ensures at (missing name c.name.result c.self.inside.items c.self.inside.entries.items c.in-Err.field-0
    c.self.invariant f) in
    absurd (cc (rw none at c.requires))

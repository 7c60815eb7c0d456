use Rattle.std.proofs.Common.{◌≡◌, Some, None, ap, ◌∙◌, sym}
use Rattle.slab.specs.Slab.{with_value}
use Rattle.ids.specs.Named.{item_in, put_in, changed_of}
use Rattle.ids.specs.Stored.{IsFound, IsMissing, items_at}
use Rattle.ids.proofs.Keeping.{item_of, missing, after_over}
use Rattle.ids.proofs.sorted_map.SortedMap.try_change.Goals as goal

pub try_change_at-requires : goal.try_change_at-requires
try_change_at-requires g c =
    let name = g.X.Named.name_of in
    let f : IsFound c.args.name c.self.inside.entries.items c.in-Ok.field-0-0 c.in-Ok.key =
    rw c.as_slice.ensures.value at c.in-Ok.ensures.found in
    let item = item_of name c.args.name c.self.inside.items c.self.inside.entries.items c.in-Ok.field-0-0 c.in-Ok.key
    c.self.invariant f in
    let there : item_in name c.args.name c.args.self.now ≡ Some item.x =
    sym (ap (item_in name c.args.name) c.self.view_is) ∙ item.found in
    rw item.is (rw there at c.requires)

pub invariant_of-self : goal.invariant_of-self
invariant_of-self g c = rw c.in_err-try_change_at-in-Ok.ensures.err c.self.invariant

pub invariant_of-self-in-Ok : goal.invariant_of-self-in-Ok
invariant_of-self-in-Ok g c =
    let name = g.X.Named.name_of in
    let change = g.C.TryItemChange.changed c.args.change in
    let f : IsFound c.args.name c.self.inside.entries.items c.in-Ok.field-0-0 c.in-Ok.key =
    rw c.as_slice.ensures.value at c.in-Ok.ensures.found in
    let item = item_of name c.args.name c.self.inside.items c.self.inside.entries.items c.in-Ok.field-0-0 c.in-Ok.key
    c.self.invariant f in
    let new : c.try_change_at.new.items ≡ with_value c.self.inside.items c.in-Ok.key (change item.x) =
    rw item.is at c.in_ok-try_change_at-in-Ok.ensures.ok in
    rw new (after_over name c.args.name c.self.inside.items c.self.inside.entries.items c.in-Ok.field-0-0 c.in-Ok.key
    (change item.x) c.self.invariant f (g.met.C.TryItemChange.keeps_name c.args.change item.x ∙ item.named)).stored

pub returns-clause-ok : goal.returns-clause-ok
returns-clause-ok g c =
    let name = g.X.Named.name_of in
    let change = g.C.TryItemChange.changed c.args.change in
    let f : IsFound c.args.name c.self.inside.entries.items c.in-Ok.field-0-0 c.in-Ok.key =
    rw c.as_slice.ensures.value at c.in-Ok.ensures.found in
    let item = item_of name c.args.name c.self.inside.items c.self.inside.entries.items c.in-Ok.field-0-0 c.in-Ok.key
    c.self.invariant f in
    let there : item_in name c.args.name c.args.self.now ≡ Some item.x =
    sym (ap (item_in name c.args.name) c.self.view_is) ∙ item.found in
    let new : c.try_change_at.new.items ≡ with_value c.self.inside.items c.in-Ok.key (change item.x) =
    rw item.is at c.in_ok-try_change_at-in-Ok.ensures.ok in
    ap (λ s. items_at s c.self.inside.entries.items) new
    ∙ (after_over name c.args.name c.self.inside.items c.self.inside.entries.items c.in-Ok.field-0-0 c.in-Ok.key
    (change item.x) c.self.invariant f (g.met.C.TryItemChange.keeps_name c.args.change item.x ∙ item.named)).list
    ∙ ap (put_in name (change item.x)) c.self.view_is
    ∙ sym (ap (changed_of name change c.args.self.now) there)

pub unreachable-requires : goal.unreachable-requires
unreachable-requires g c =
    let name = g.X.Named.name_of in
    let f : IsMissing c.args.name c.self.inside.entries.items c.in-Err.field-0 =
    rw c.as_slice.ensures.value at c.in-Err.ensures.missing in
    let none : item_in name c.args.name c.args.self.now ≡ None =
    sym (ap (item_in name c.args.name) c.self.view_is)
    ∙ missing name c.args.name c.self.inside.items c.self.inside.entries.items c.in-Err.field-0 c.self.invariant f
    in
    rw none at c.requires

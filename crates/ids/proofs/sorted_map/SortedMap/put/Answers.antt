use Rattle.std.proofs.Common.{ap, ◌∙◌, sym, refl}
use Rattle.slab.specs.Slab.{Updates}
use Rattle.std.proofs.Common.{Some}
use Rattle.ids.specs.Named.{put_in}
use Rattle.ids.specs.Stored.{IsFound, IsMissing, items_at}
use Rattle.ids.proofs.Keeping.{item_of, after_over, after_room, after_put}
use Rattle.ids.proofs.sorted_map.SortedMap.put.Goals as goal

pub put_at-requires : goal.put_at-requires
put_at-requires g c =
    let f : IsFound c.name-name.result c.self.inside.entries.items c.in-Ok.field-0-0 c.in-Ok.key =
    rw c.as_slice.ensures.value at c.in-Ok.ensures.found in
    rw (item_of g.X.Named.name_of c.name-name.result c.self.inside.items c.self.inside.entries.items c.in-Ok.field-0-0
    c.in-Ok.key c.self.invariant f).is refl

pub invariant_of-self : goal.invariant_of-self
invariant_of-self g c =
    let f : IsFound c.name-name.result c.self.inside.entries.items c.in-Ok.field-0-0 c.in-Ok.key =
    rw c.as_slice.ensures.value at c.in-Ok.ensures.found in
    rw c.put_at.ensures (after_over g.X.Named.name_of c.name-name.result c.self.inside.items c.self.inside.entries.items
    c.in-Ok.field-0-0 c.in-Ok.key c.args.item c.self.invariant f (sym c.name-name.ensures)).stored

pub returns-in-Ok-clause-ok : goal.returns-in-Ok-clause-ok
returns-in-Ok-clause-ok g c =
    let name = g.X.Named.name_of in
    let f : IsFound c.name-name.result c.self.inside.entries.items c.in-Ok.field-0-0 c.in-Ok.key =
    rw c.as_slice.ensures.value at c.in-Ok.ensures.found in
    ap (λ s. items_at s c.self.inside.entries.items) c.put_at.ensures
    ∙ (after_over name c.name-name.result c.self.inside.items c.self.inside.entries.items c.in-Ok.field-0-0 c.in-Ok.key
    c.args.item c.self.invariant f (sym c.name-name.ensures)).list
    ∙ ap (put_in name c.args.item) c.self.view_is

pub invariant_of-self-in_err-reserve-in-Err : goal.invariant_of-self-in_err-reserve-in-Err
invariant_of-self-in_err-reserve-in-Err g c =
    (after_room g.X.Named.name_of c.self.inside.items c.reserve.new.self c.self.inside.entries.items
    (ap (λ s. s.slots) c.reserve.ensures.rest_kept) c.self.invariant).stored

pub invariant_of-self-in_err-insert-in-Err : goal.invariant_of-self-in_err-insert-in-Err
invariant_of-self-in_err-insert-in-Err g c =
    rw c.in_err-insert-in-Err.ensures.items
    (after_room g.X.Named.name_of c.self.inside.items c.reserve.new.self c.self.inside.entries.items
    (ap (λ s. s.slots) c.reserve.ensures.rest_kept) c.self.invariant).stored

pub invariant_of-self-in-Err : goal.invariant_of-self-in-Err
invariant_of-self-in-Err g c =
    let room = after_room g.X.Named.name_of c.self.inside.items c.reserve.new.self c.self.inside.entries.items
    (ap (λ s. s.slots) c.reserve.ensures.rest_kept) c.self.invariant in
    let f : IsMissing c.name-name.result c.self.inside.entries.items c.in-Err.at =
    rw c.as_slice.ensures.value at c.in-Err.ensures.missing in
    let u : Updates c.reserve.new.self c.insert_reserved.new.self c.vacant_key-key.result (Some c.args.item) =
    rw (c.insert_reserved.ensures.key ∙ sym c.vacant_key-key.ensures.value) at c.insert_reserved.ensures.updates in
    rw c.in_ok-insert-in-Err.ensures.items
    (after_put g.X.Named.name_of c.name-name.result c.reserve.new.self c.insert_reserved.new.self
    c.self.inside.entries.items c.in-Err.at c.vacant_key-key.result c.args.item room.stored f
    (sym c.name-name.ensures) c.vacant_key-key.ensures.vacant u c.insert_reserved.ensures.len).stored

pub returns-in_ok-insert-in-Err-clause-ok : goal.returns-in_ok-insert-in-Err-clause-ok
returns-in_ok-insert-in-Err-clause-ok g c =
    let name = g.X.Named.name_of in
    let room = after_room name c.self.inside.items c.reserve.new.self c.self.inside.entries.items
    (ap (λ s. s.slots) c.reserve.ensures.rest_kept) c.self.invariant in
    let f : IsMissing c.name-name.result c.self.inside.entries.items c.in-Err.at =
    rw c.as_slice.ensures.value at c.in-Err.ensures.missing in
    let u : Updates c.reserve.new.self c.insert_reserved.new.self c.vacant_key-key.result (Some c.args.item) =
    rw (c.insert_reserved.ensures.key ∙ sym c.vacant_key-key.ensures.value) at c.insert_reserved.ensures.updates in
    ap (items_at c.insert_reserved.new.self) c.in_ok-insert-in-Err.ensures.items
    ∙ (after_put name c.name-name.result c.reserve.new.self c.insert_reserved.new.self c.self.inside.entries.items
    c.in-Err.at c.vacant_key-key.result c.args.item room.stored f
    (sym c.name-name.ensures) c.vacant_key-key.ensures.vacant u c.insert_reserved.ensures.len).list
    ∙ ap (put_in name c.args.item) (room.list ∙ c.self.view_is)

use Rattle.std.proofs.Common.{◌≡◌, ◌++◌, ap, ◌∙◌}
use Rattle.ids.specs.Stored.{items_at}
use Rattle.ids.proofs.Keeping.{after_room, stored_from}
use Rattle.ids.proofs.sorted_map.SortedMap.append.Goals as goal

pub invariant_of-self-2 : goal.invariant_of-self-2
invariant_of-self-2 g c =
    let name = g.X.Named.name_of in
    let more = c.args.items.items in
    let room = after_room name c.self.inside.items c.reserve-2.new.self c.self.inside.entries.items
    (ap (λ s. s.slots) c.reserve-2.ensures.rest_kept) c.self.invariant in
    let list : items_at c.push_all.new.items c.push_all.new.entries.items ≡ c.args.self.now ++ more =
    c.push_all.ensures.list
    ∙ ap (λ ys. items_at c.reserve-2.new.self ys ++ more) c.reserve.ensures.items
    ∙ ap (λ xs. xs ++ more) (room.list ∙ c.self.view_is) in
    stored_from name c.push_all.new.items c.push_all.new.entries.items
    (c.args.self.now ++ more) c.push_all.ensures.filled list c.requires

use Rattle.std.proofs.Common.{◌≡◌, ◌+◌, ◌≤◌, ◌++◌, vec_len, vec_capacity}
use Rattle.std.specs.Vec.Iter.{into_iter_items, into_iter_len}
use Rattle.slab.specs.Slab.{HasRoomFor}
use Rattle.ids.specs.Stored.{items_at, IsFilled}
use Rattle.ids.proofs.sorted_map.push_all.Given as goal

abbrev pub invariant-loop-item : goal.invariant-loop-item
invariant-loop-item g l =
    IsFilled g.X.Named.name_of l.items l.entries.items
    × (items_at l.items l.entries.items ++ into_iter_items l.item-iterator
    ≡ items_at l.fn.items l.fn.entries.items ++ l.fn.more.items)
    × (vec_len l.entries + into_iter_len l.item-iterator ≤ vec_capacity l.entries)
    × HasRoomFor l.items (into_iter_len l.item-iterator)

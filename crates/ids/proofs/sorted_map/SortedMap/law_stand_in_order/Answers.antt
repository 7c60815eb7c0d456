use Rattle.ids.proofs.Keeping.{items_rise}
use Rattle.ids.proofs.sorted_map.SortedMap.law_stand_in_order.Goals as goal

pub returns : goal.returns
returns g c = rw c.self.view_is at (items_rise g.X.Named.name_of c.self.inside.items c.self.inside.entries.items
    c.self.invariant)

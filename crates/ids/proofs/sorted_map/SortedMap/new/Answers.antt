use Rattle.ids.proofs.Keeping.{empty}
use Rattle.ids.proofs.sorted_map.SortedMap.new.Goals as goal

pub invariant_of-result : goal.invariant_of-result
invariant_of-result g c = empty g.X.Named.name_of c.new-2.result c.new.result.items c.new-2.ensures.empty
    c.new.ensures.items

use Rattle.std.proofs.Common.{◌≡◌, ap, length, arith}
use Rattle.ids.specs.Stored.{items_at}
use Rattle.ids.proofs.Keeping.{items_length, held}
use Rattle.ids.proofs.sorted_map.SortedMap.len.Goals as goal

pub returns : goal.returns
returns g c =
    let many = items_length c.self.inside.items c.self.inside.entries.items
    (held g.X.Named.name_of c.self.inside.items c.self.inside.entries.items c.self.invariant.named) in
    let seen : length (items_at c.self.inside.items c.self.inside.entries.items) ≡ length c.args.self.now =
    ap length c.self.view_is in
    omega arith

use Rattle.std.proofs.Common.{sym, ap, ◌∙◌, length}
use Rattle.ids.proofs.Keeping.{items_length}
use Rattle.ids.proofs.sorted_map.ValuesExactSizeIterator.len.Goals as goal

pub returns-clause-value : goal.returns-clause-value
returns-clause-value g c = sym (items_length c.self.inside.items.now c.self.inside.entries.now c.self.invariant)
    ∙ ap length c.self.view_is

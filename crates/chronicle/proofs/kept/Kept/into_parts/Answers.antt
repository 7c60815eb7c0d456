use Rattle.std.proofs.Common.{rules}
use Rattle.chronicle.proofs.Runs.{left_by, safe_history}
use Rattle.chronicle.proofs.kept.Kept.into_parts.Goals as goal

pub returns-clause-run : goal.returns-clause-run
returns-clause-run g c = rw (← c.self.view_is)
    (safe_history c.self.inside.world.value.job
    (g.D.Disk.device c.self.inside.first.value) c.self.inside.entries.items c.self.invariant.own
    c.self.invariant.history)

pub returns-clause-left : goal.returns-clause-left
returns-clause-left g c =
    rw (← c.self.view_is) (left_by c.self.inside.world.value.job
    (g.D.Disk.device c.self.inside.first.value) c.self.inside.entries.items c.self.inside.world.value.world
    c.self.inside.out_of_memory (g.D.Disk.device c.into_disk.result) c.self.invariant (search rules))

use Rattle.world_steps.proofs.Meeting.{first_agree}
use Rattle.world_steps.proofs.first_disk.FirstDisk.saved.Goals as goal

pub returns-clause-first : goal.returns-clause-first
returns-clause-first g c = rw (← c.self.view_is) c.self.invariant

pub returns-clause-agree : goal.returns-clause-agree
returns-clause-agree g c = rw (← c.self.view_is)
    (first_agree c.self.inside.job.now (g.D.Disk.device c.self.inside.disk) c.self.inside.saved c.self.invariant)

use Rattle.std.proofs.Common.{ap, ◌∙◌}
use Rattle.disk.specs.Device.{Device}
use Rattle.job_store.proofs.Failing.{failed_behind}
use Rattle.world_steps.proofs.FirstDisks.{disarmed_failures}
use Rattle.world_steps.proofs.Meeting.{over_leaves, over_still}
use Rattle.world_steps.proofs.first_disk.settled.Goals as goal

pub returns-in-Ok-clause-still : goal.returns-in-Ok-clause-still
returns-in-Ok-clause-still g c =
    let device = g.D.Disk.device in
    over_still (device c.args.disk) (device c.crash.new.self) (device c.sync.new.self) c.crash.ensures.crashed
    (λ e. ap device (c.crash.ensures.unmoved e)) c.in-Ok.ensures.ok (g.met.D.Disk.uncut_unarmed c.args.disk)

pub returns-in-Ok-clause-leaves : goal.returns-in-Ok-clause-leaves
returns-in-Ok-clause-leaves g c =
    let device = g.D.Disk.device in
    over_leaves (device c.args.disk) (device c.crash.new.self) (device c.sync.new.self) c.crash.ensures.crashed
    (λ e. ap device (c.crash.ensures.unmoved e)) c.in-Ok.ensures.ok

pub returns-in-Ok-clause-passed : goal.returns-in-Ok-clause-passed
returns-in-Ok-clause-passed g c =
    let device = g.D.Disk.device in
    ap (λ (x : Device). x.failures) c.in-Ok.ensures.ok
    ∙ disarmed_failures (device c.args.disk) (device c.crash.new.self) c.crash.ensures.crashed
    (λ e. ap device (c.crash.ensures.unmoved e))

pub returns-in-Err-clause-failed : goal.returns-in-Err-clause-failed
returns-in-Err-clause-failed g c =
    let device = g.D.Disk.device in
    failed_behind (device c.args.disk) (device c.crash.new.self) (device c.sync.new.self)
    (disarmed_failures (device c.args.disk) (device c.crash.new.self) c.crash.ensures.crashed
    (λ e. ap device (c.crash.ensures.unmoved e))) c.in-Err.ensures.err.counted

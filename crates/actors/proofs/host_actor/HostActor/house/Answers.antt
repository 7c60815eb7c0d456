use Rattle.std.proofs.Common.{ap}
use Rattle.actors.specs.declared.host_actor.HostActor.{HostActor}
use Rattle.actors.proofs.host_actor.HostActor.house.Goals as goal

pub returns-in-Ok-new-2 : goal.returns-in-Ok-new-2
returns-in-Ok-new-2 c = (
  c.in_ok-job.job.now,
  c.in_ok-job.ensures,
  c.else-is_empty.disk,
  c.in-Ok-open.house,
  c.in-Ok.files,
  c.in-Ok-open.ensures.opened.0,
  c.in-Ok-open.ensures.opened.1,
  ap (λ (a : HostActor). a.actor) c.in-Ok-new-2.ensures.ok,
)

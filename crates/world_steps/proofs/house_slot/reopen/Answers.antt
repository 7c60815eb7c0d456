use Rattle.std.proofs.Common.{◌≡◌, sym, subst}
use Rattle.world_steps.specs.Coming.{RestartComes, seat_of}
use Rattle.world_steps.specs.Seats.{IsOf}
use Rattle.world_steps.proofs.house_slot.reopen.Goals as goal

pub returns-clause-comes : goal.returns-clause-comes
returns-clause-comes g c = subst (λ s.
    RestartComes c.restart-opened.result.1 (seat_of g.D.Disk.device c.args.job.now s)
    (seat_of g.D.Disk.device c.args.job.now c.restart-opened.result.0)) c.replace-closed.ensures.value
    c.restart-opened.ensures.comes

pub restart-opened-requires-clause-there : goal.restart-opened-requires-clause-there
restart-opened-requires-clause-there g c =
    subst (IsOf c.args.job.now) (sym c.replace-closed.ensures.value) c.requires.own

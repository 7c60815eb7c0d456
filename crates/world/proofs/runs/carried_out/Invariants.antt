use Rattle.std.proofs.Common.{◌≡◌, None, take}
use Rattle.world.proofs.Running.{IsUnderWay}
use Rattle.world.proofs.runs.carried_out.Given as goal

-- the events before this one were carried out
abbrev pub invariant-loop-event : goal.invariant-loop-event
invariant-loop-event l = (l.run.world.job ≡ l.job) × (l.run.done ≡ l.event-index) × (l.run.stopped ≡ None)
    × IsUnderWay l.job (take l.event-index l.events) l.run.world.world

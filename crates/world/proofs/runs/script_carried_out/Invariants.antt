use Rattle.std.proofs.Common.{◌≡◌, List, ◌++◌, length, None, Ok}
use Rattle.event_script.specs.Scripts.{script}
use Rattle.event_script.specs.declared.event.Event.{Event}
use Rattle.world.proofs.Running.{IsUnderWay}
use Rattle.world.proofs.runs.script_carried_out.Given as goal

-- the events before those that are left were carried out
abbrev pub invariant-loop-event : goal.invariant-loop-event
invariant-loop-event g l = (l.run.world.job ≡ l.job) × (l.run.stopped ≡ None) × (past : List Event)
    × (script l.text ≡ Ok (past ++ l.script)) × (length past ≡ l.run.done) × IsUnderWay l.job past l.run.world.world

abbrev pub decreases-loop-event : goal.decreases-loop-event
decreases-loop-event g l = length l.script

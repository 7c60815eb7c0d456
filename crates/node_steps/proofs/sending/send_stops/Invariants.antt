use Rattle.std.proofs.Common.{◌≡◌, ◌++◌, drop, map}
use Rattle.node_steps.specs.Moves.{stops}
use Rattle.node_steps.proofs.sending.send_stops.Given as goal

abbrev pub invariant-loop-stop : goal.invariant-loop-stop
invariant-loop-stop l = l.sent ++ map (stops l.job) (drop l.stop-index l.stopped)
    ≡ l.fn.sent ++ map (stops l.job) l.stopped

use Rattle.std.proofs.Common.{◌≡◌, ◌++◌}
use Rattle.node_steps.specs.Moves as moves
use Rattle.node_steps.proofs.sending.send_aborts.Given as goal

abbrev pub invariant-loop-record : goal.invariant-loop-record
invariant-loop-record l = l.sent ++ moves.aborts l.job l.record-iterator ≡ l.fn.sent ++ moves.aborts l.job l.dropped

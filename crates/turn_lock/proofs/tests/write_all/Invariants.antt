use Rattle.turn_lock.specs.Seats.{IsFreeSeatOf}
use Rattle.turn_lock.proofs.tests.write_all.Given as goal

abbrev pub invariant-loop-line : goal.invariant-loop-line
invariant-loop-line g l = IsFreeSeatOf l.lock l.seat

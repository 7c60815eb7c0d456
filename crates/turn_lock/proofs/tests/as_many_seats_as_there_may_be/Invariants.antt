use Rattle.std.proofs.Common.{All}
use Rattle.turn_lock.specs.Seats.{IsFreeSeatOf}
use Rattle.turn_lock.proofs.tests.as_many_seats_as_there_may_be.Given as goal

abbrev pub invariant-loop-seat : goal.invariant-loop-seat
invariant-loop-seat g l = All (IsFreeSeatOf l.lock) l.seat-items

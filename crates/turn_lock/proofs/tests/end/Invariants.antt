use Rattle.std.proofs.Common.{◌≡◌, ◌+◌, ◌≤◌, All, length, vec_len}
use Rattle.turn_lock.specs.Seats.{IsFreeSeatOf}
use Rattle.turn_lock.proofs.tests.end.Given as goal

abbrev pub invariant-loop-seat : goal.invariant-loop-seat
invariant-loop-seat l = record {
  table : l.all.table ≡ l.lock.table;
  whole : l.lock.actors ≤ length l.all.claims + vec_len l.seats;
  own : All (IsFreeSeatOf l.lock) l.seats.items;
}

abbrev pub decreases-loop-seat : goal.decreases-loop-seat
decreases-loop-seat l = vec_len l.seats

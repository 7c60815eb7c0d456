use Rattle.std.proofs.Common.{◌≡◌, ◌++◌, All, vec_len}
use Rattle.chronicle.specs.Seats.{IsSeatIn, claims_of}
use Rattle.chronicle.proofs.chronicle.Chronicle.finish.Given as goal

abbrev pub invariant-loop-seat : goal.invariant-loop-seat
invariant-loop-seat g l = record {
  here : l.all.table ≡ l.lock.table;
  own : All (IsSeatIn l.fn.self) l.seats.items;
  claims : claims_of l.seats.items ++ l.all.claims ≡ claims_of l.fn.seats.items;
}

abbrev pub decreases-loop-seat : goal.decreases-loop-seat
decreases-loop-seat g l = vec_len l.seats

use Rattle.std.proofs.Common.{◌≡◌, ◌++◌, map}
use Rattle.chronicle.specs.Seats.{seat_of}
use Rattle.chronicle.proofs.chronicle.by_place.Given as goal

abbrev pub invariant-loop-seat : goal.invariant-loop-seat
invariant-loop-seat g l = record {
  seats : l.seats.items ≡ map seat_of l.yielded;
  rest : l.yielded ++ l.seat-iterator.rest.items ≡ l.initial.seat-iterator.rest.items;
}

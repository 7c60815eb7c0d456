use Rattle.std.proofs.Common.{◌≡◌, ◌+◌, All, vec_len}
use Rattle.chronicle.specs.Seats.{ChronicleOf, IsSeatIn}
use Rattle.start_words.specs.Words.{IsPenOf, TableOf}
use Rattle.node_runner.specs.Runs.{IsContextIn, IsWorkerOf}
use Rattle.node_runner.proofs.crew.contexts.Given as goal

abbrev pub invariant-loop-seat : goal.invariant-loop-seat
invariant-loop-seat g l = record {
  seats : (c : ChronicleOf) → All (IsSeatIn c) l.fn.seats.items → All (IsSeatIn c) l.seats.items;
  pens : (w : TableOf) → All (IsPenOf w) l.fn.pens.items → All (IsPenOf w) l.pens.items;
  contexts : (c : ChronicleOf) (w : TableOf) → c.job ≡ l.job → All (IsSeatIn c) l.fn.seats.items
      → All (IsPenOf w) l.fn.pens.items → All (IsContextIn c w) l.contexts.items;
  workers : All (IsWorkerOf l.job) l.workers.items;
  count : vec_len l.contexts + vec_len l.seats ≡ vec_len l.fn.seats;
}

abbrev pub decreases-loop-seat : goal.decreases-loop-seat
decreases-loop-seat g l = vec_len l.seats

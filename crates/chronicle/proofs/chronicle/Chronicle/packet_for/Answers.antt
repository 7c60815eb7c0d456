use Rattle.chronicle.proofs.Seats.{free_seat}
use Rattle.chronicle.proofs.chronicle.Chronicle.packet_for.Goals as goal

pub take-kept-requires : goal.take-kept-requires
take-kept-requires g c = record {
  seat =
      free_seat c.self.inside.lock c.seat.inside.seat c.args.self.now c.args.seat.now c.self.view_is c.seat.view_is
      c.requires.seat;
}

use Rattle.std.proofs.Common.{◌≡◌}
use Rattle.shared_times.proofs.read.Given as goal

abbrev pub invariant-loop : goal.invariant-loop
invariant-loop l = l.note.board ≡ l.board.board

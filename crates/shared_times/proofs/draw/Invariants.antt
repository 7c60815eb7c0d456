use Rattle.std.proofs.Common.{◌≡◌}
use Rattle.shared_times.proofs.draw.Given as goal

abbrev pub invariant-loop : goal.invariant-loop
invariant-loop l = l.pen.table ≡ l.table.table

use Rattle.std.proofs.Common.{◌≡◌}
use Rattle.start_words.proofs.tests.draw_all.Given as goal

abbrev pub invariant-loop : goal.invariant-loop
invariant-loop l = l.pen.table ≡ l.table.table

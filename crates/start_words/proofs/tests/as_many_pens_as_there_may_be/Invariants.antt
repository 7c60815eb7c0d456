use Rattle.std.proofs.Common.{◌≡◌, All, length}
use Rattle.start_words.proofs.tests.as_many_pens_as_there_may_be.Given as goal

abbrev pub invariant-loop-pen : goal.invariant-loop-pen
invariant-loop-pen g l = (length l.pen-items ≡ l.table.pens) × All (λ p. p.table ≡ l.table.table) l.pen-items

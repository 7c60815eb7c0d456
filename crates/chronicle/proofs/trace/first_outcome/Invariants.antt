use Rattle.std.proofs.Common.{◌≡◌, drop}
use Rattle.chronicle.specs.History.{first_outcome}
use Rattle.chronicle.proofs.trace.first_outcome.Given as goal

abbrev pub invariant-loop-entry : goal.invariant-loop-entry
invariant-loop-entry l = first_outcome (drop l.entry-index l.entries) ≡ first_outcome l.entries

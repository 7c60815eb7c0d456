use Rattle.std.proofs.Common.{◌≡◌, ◌++◌}
use Rattle.victim_records.specs.Records.{grants_of}
use Rattle.victim_records.proofs.store.Records.held_by.Given as goal

abbrev pub invariant-loop-kept : goal.invariant-loop-kept
invariant-loop-kept l = l.grants ++ grants_of l.holder l.kept-iterator ≡ grants_of l.holder l.self

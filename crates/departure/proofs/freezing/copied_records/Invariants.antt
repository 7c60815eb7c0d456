use Rattle.std.proofs.Common.{◌≡◌, ◌++◌}
use Rattle.std.specs.List.{AllByRecursion}
use Rattle.departure.specs.Typed.{RecordTyped}
use Rattle.departure.proofs.freezing.copied_records.Given as goal

abbrev pub invariant-loop-kept : goal.invariant-loop-kept
invariant-loop-kept l = record {
  same : l.copies ++ l.kept-iterator
      ≡ l.records;
  typed : AllByRecursion RecordTyped l.copies;
}

use Rattle.std.proofs.Common.{◌≡◌, ◌++◌, length}
use Rattle.std.specs.Vec.Iter.{into_iter_items, into_iter_len}
use Rattle.departure.proofs.accepting.records_of.Given as goal

abbrev pub invariant-loop-record : goal.invariant-loop-record
invariant-loop-record l =
    (l.records ++ into_iter_items l.record-iterator ≡ l.fn.listed.items)
    × (into_iter_len l.record-iterator ≡ length (into_iter_items l.record-iterator))

use Rattle.traces.specs.Merges.{Leads}
use Rattle.traces.specs.Merging.{IsKept, merge_of}
use Rattle.traces.proofs.ordering.Merging.round.Given as goal

abbrev pub invariant-loop-a : goal.invariant-loop-a
invariant-loop-a l = record {
  led : Leads (merge_of l.fn.self) (merge_of l.self);
  kept : IsKept l.self;
}

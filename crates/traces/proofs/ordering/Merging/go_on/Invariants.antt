use Rattle.traces.specs.Merges.{Leads}
use Rattle.traces.specs.Merging.{IsKept, merge_of}
use Rattle.traces.proofs.ordering.Merging.go_on.Given as goal

abbrev pub invariant-loop : goal.invariant-loop
invariant-loop l = record {
  led : Leads (merge_of l.fn.self) (merge_of l.self);
  kept : IsKept l.self;
}

use Rattle.std.proofs.Common.{◌≡◌, ◌++◌, map, None}
use Rattle.traces.specs.Merges.{at_first}
use Rattle.traces.proofs.ordering.Merging.of.Given as goal

abbrev pub invariant-loop-trace : goal.invariant-loop-trace
invariant-loop-trace l = record {
  actors : l.actors.items ≡ map at_first l.yielded;
  rest : l.yielded ++ l.trace-iterator.rest.items ≡ l.initial.trace-iterator.rest.items;
}

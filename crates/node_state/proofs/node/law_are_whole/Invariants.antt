use Rattle.std.specs.List.{AllByRecursion}
use Rattle.recovery.specs.Told.{IsWhole}
use Rattle.node_state.proofs.node.law_are_whole.Given as goal

abbrev pub invariant-loop-sub : goal.invariant-loop-sub
invariant-loop-sub l = AllByRecursion IsWhole l.sub-iterator → AllByRecursion IsWhole l.subs

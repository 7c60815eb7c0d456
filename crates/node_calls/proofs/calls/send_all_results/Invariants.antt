use Rattle.std.proofs.Common.{◌≡◌, ◌++◌}
use Rattle.std.specs.List.{flat_map}
use Rattle.node_steps.specs.Moves as moves
use Rattle.node_calls.proofs.calls.send_all_results.Given as goal

abbrev pub invariant-loop-sub : goal.invariant-loop-sub
invariant-loop-sub l = l.sent ++ flat_map (moves.results l.job l.from) l.sub-iterator
    ≡ l.fn.sent ++ flat_map (moves.results l.job l.from) l.parts.node.subs

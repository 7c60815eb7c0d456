use Rattle.std.proofs.Common.{◌≡◌, ◌++◌, map}
use Rattle.node_steps.specs.Moves.{Given as OneGiven}
use Rattle.node_calls.proofs.departing.send_grants.Given as goal

abbrev pub invariant-loop-one : goal.invariant-loop-one
invariant-loop-one l = l.sent ++ map (λ (g : OneGiven). g.packet) l.one-iterator
    ≡ l.fn.sent ++ map (λ (g : OneGiven). g.packet) l.given

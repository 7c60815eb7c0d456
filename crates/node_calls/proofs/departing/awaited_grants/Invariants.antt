use Rattle.std.proofs.Common.{◌≡◌, []}
use Rattle.std.specs.List.{filter}
use Rattle.node_steps.specs.Moves.{all_given, awaited, is_awaited, with_given}
use Rattle.node_calls.proofs.departing.awaited_grants.Given as goal

abbrev pub invariant-loop-reply : goal.invariant-loop-reply
invariant-loop-reply l = with_given (all_given (filter (is_awaited l.roster l.node.node.confirmed) l.reply-iterator))
    l.given ≡ with_given (all_given (awaited l.roster l.node.node)) []

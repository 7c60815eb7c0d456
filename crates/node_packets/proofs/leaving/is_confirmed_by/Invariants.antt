use Rattle.std.proofs.Common.{◌≡◌}
use Rattle.std.specs.List.{filter, list_any}
use Rattle.node_steps.specs.Cases.{confirms}
use Rattle.node_steps.specs.Moves.{awaited, is_awaited}
use Rattle.node_packets.proofs.leaving.is_confirmed_by.Given as goal

abbrev pub invariant-loop-reply : goal.invariant-loop-reply
invariant-loop-reply l = list_any (confirms l.ack) (filter (is_awaited l.roster l.node.node.confirmed) l.reply-iterator)
    ≡ list_any (confirms l.ack) (awaited l.roster l.node.node)

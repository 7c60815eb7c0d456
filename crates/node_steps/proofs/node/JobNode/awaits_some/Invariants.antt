use Rattle.std.proofs.Common.{◌≡◌}
use Rattle.std.specs.List.{filter}
use Rattle.node_steps.specs.Moves.{awaited, is_awaited, is_empty}
use Rattle.node_steps.proofs.node.JobNode.awaits_some.Given as goal

abbrev pub invariant-loop-reply : goal.invariant-loop-reply
invariant-loop-reply l = is_empty (filter (is_awaited l.roster l.self.node.confirmed) l.reply-iterator)
    ≡ is_empty (awaited l.roster l.self.node)

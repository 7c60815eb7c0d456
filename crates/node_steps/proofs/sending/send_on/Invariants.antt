use Rattle.std.proofs.Common.{◌≡◌, ◌++◌}
use Rattle.node_steps.proofs.sending.send_on.Given as goal

abbrev pub invariant-loop-packet : goal.invariant-loop-packet
invariant-loop-packet l = l.sent ++ l.packet-iterator.rest.items ≡ l.fn.sent ++ l.fn.more

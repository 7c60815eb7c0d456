use Rattle.std.proofs.Common.{◌≡◌}
use Rattle.subcomputation.specs.Subs.{host_in}
use Rattle.node_state.proofs.node.find_host.Given as goal

abbrev pub invariant-loop-sub : goal.invariant-loop-sub
invariant-loop-sub l = host_in l.grant l.sub-iterator ≡ host_in l.grant l.subs

use Rattle.std.proofs.Common.{◌≡◌, ◌++◌, map}
use Rattle.node_core.specs.Views.{view_of}
use Rattle.node_core.proofs.node.Node.subs.Given as goal

abbrev pub invariant-loop-sub : goal.invariant-loop-sub
invariant-loop-sub l = l.shown ++ map (view_of l.heir) l.sub-iterator ≡ map (view_of l.heir) l.self.node.subs

use Rattle.std.proofs.Common.{◌≡◌, drop}
use Rattle.node_state.specs.Assemblies.{without_all}
use Rattle.node_state.proofs.assemblies.forget_all.Given as goal

abbrev pub invariant-loop-name : goal.invariant-loop-name
invariant-loop-name l = without_all (drop l.name-index l.names) l.assemblies ≡ without_all l.names l.fn.assemblies

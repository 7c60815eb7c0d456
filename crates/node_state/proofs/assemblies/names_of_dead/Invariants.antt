use Rattle.std.proofs.Common.{◌≡◌, ◌++◌, List, map}
use Rattle.std.specs.List.{filter}
use Rattle.ids.specs.Members.{status_in}
use Rattle.ids.specs.Named.{Name}
use Rattle.ids.specs.declared.member.Member.{Member}
use Rattle.node_state.specs.Assemblies.{AssemblyOf, name_of_assembly, shows_dead}
use Rattle.node_state.proofs.assemblies.names_of_dead.Given as goal

abbrev of_dead : List Member → List AssemblyOf → List Name
of_dead members xs = map name_of_assembly (filter (λ a. shows_dead (status_in a.from members)) xs)

abbrev pub invariant-loop-assembly : goal.invariant-loop-assembly
invariant-loop-assembly l = l.names.items ++ of_dead l.roster.members l.assembly-iterator
    ≡ of_dead l.roster.members l.assemblies

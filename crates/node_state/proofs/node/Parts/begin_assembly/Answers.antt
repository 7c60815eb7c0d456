use Rattle.std.proofs.Common.{ap, ◌∙◌}
use Rattle.node_state.specs.Assemblies.{AssemblyOf, begun, put_assembly}
use Rattle.node_state.specs.Parts.{PartsOf}
use Rattle.node_state.proofs.Keeping.{assemblies_kept, assemblies_view}
use Rattle.node_state.proofs.node.Parts.begin_assembly.Goals as goal

pub invariant_of-self : goal.invariant_of-self
invariant_of-self c = assemblies_kept _ c.put.new.self c.self.invariant

pub returns-clause-ok : goal.returns-clause-ok
returns-clause-ok c =
    assemblies_view _ c.args.self.now c.put.new.self
    (put_assembly (begun c.args.piece) c.args.self.now.node.assemblies) c.self.view_is
    (c.in_ok-put.ensures.ok ∙ ap (λ (a : AssemblyOf). put_assembly a c.self.inside.assemblies) c.in_ok-begun.ensures
    ∙ ap (λ (v : PartsOf). put_assembly (begun c.args.piece) v.node.assemblies) c.self.view_is)
    (rw (← c.self.view_is) c.self.invariant)

use Rattle.std.proofs.Common.{ap, ◌∙◌}
use Rattle.ids.specs.Named.{Name, without_in}
use Rattle.node_state.specs.Assemblies.{name_of_assembly, without_assembly}
use Rattle.node_state.specs.Parts.{PartsOf}
use Rattle.node_state.proofs.Keeping.{assemblies_kept, assemblies_view}
use Rattle.node_state.proofs.node.Parts.forget_assembly.Goals as goal

pub invariant_of-self : goal.invariant_of-self
invariant_of-self c = assemblies_kept _ c.discard.new.self c.self.invariant

pub returns : goal.returns
returns c =
    assemblies_view _ c.args.self.now c.discard.new.self
    (without_assembly c.args.grant c.args.self.now.node.assemblies) c.self.view_is
    (c.discard.ensures ∙ ap (λ (n : Name). without_in name_of_assembly n c.self.inside.assemblies) c.name_of.ensures
    ∙ ap (λ (v : PartsOf). without_assembly c.args.grant v.node.assemblies) c.self.view_is)
    (rw (← c.self.view_is) c.self.invariant)

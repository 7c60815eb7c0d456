use Rattle.std.proofs.Common.{◌≡◌, ◌∙◌, Some, ap}
use Rattle.ids.specs.Named.{Name, changed_in}
use Rattle.node_state.specs.Assemblies.{assembly_in, name_of_assembly, put_assembly, with_part}
use Rattle.node_state.specs.Parts.{PartsOf}
use Rattle.node_state.proofs.Keeping.{assemblies_view, part_put}
use Rattle.node_state.proofs.node.Parts.add_part.Goals as goal

pub returns-clause-ok : goal.returns-clause-ok
returns-clause-ok c = λ a there.
    let held : assembly_in c.args.grant c.self.inside.assemblies ≡ Some a =
    ap (λ (v : PartsOf). assembly_in c.args.grant v.node.assemblies) c.self.view_is ∙ there in
    let put : c.try_change.new.self ≡ put_assembly (with_part c.args.part a) c.self.inside.assemblies =
    part_put c.args.part c.args.grant a c.self.inside.assemblies c.try_change.new.self held
    (c.in_ok-try_change.ensures.ok ∙ ap
    (λ (n : Name). changed_in name_of_assembly (with_part c.args.part) n c.self.inside.assemblies)
    c.name_of.ensures) in
    assemblies_view _ c.args.self.now c.try_change.new.self
    (put_assembly (with_part c.args.part a) c.args.self.now.node.assemblies) c.self.view_is
    (put ∙ ap (λ (v : PartsOf). put_assembly (with_part c.args.part a) v.node.assemblies) c.self.view_is)
    (rw (← c.self.view_is) c.self.invariant)

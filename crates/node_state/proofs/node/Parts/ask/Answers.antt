use Rattle.std.proofs.Common.{ap, refl}
use Rattle.node_state.specs.Parts.{IsMember, PartsOf}
use Rattle.node_state.proofs.Leaves.{asks_member}
use Rattle.node_state.proofs.Keeping.{asker_view, quiet_parts}
use Rattle.node_state.proofs.node.Parts.ask.Goals as goal

pub invariant_of-self : goal.invariant_of-self
invariant_of-self c =
    let member : IsMember c.self.inside.state =
    rw (← ap (λ (v : PartsOf). v.node.state) c.self.view_is) at c.requires in
    (quiet_parts _ c.ask.new.self c.self.inside.replies c.self.inside.confirmed c.self.inside.posts c.self.invariant
    (asks_member c.self.inside.state c.ask.new.self member)).parts

pub returns-clause-rest : goal.returns-clause-rest
returns-clause-rest c = asker_view _ c.args.self.now c.ask.new.self c.ask.new.self c.self.view_is refl
    (rw (← c.self.view_is) c.self.invariant) (asks_member c.args.self.now.node.state c.ask.new.self c.requires)

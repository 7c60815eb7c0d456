use Rattle.std.proofs.Common.{◌∙◌, ap}
use Rattle.steal_protocol.specs.Requests.{settled}
use Rattle.node_state.specs.Parts.{MayBeMember, PartsOf}
use Rattle.node_state.proofs.Keeping.{listed_parts, member_view}
use Rattle.node_state.proofs.node.Parts.keep_roster.Goals as goal

pub invariant_of-self : goal.invariant_of-self
invariant_of-self c =
    let may : MayBeMember c.self.inside.state =
    rw (← ap (λ (v : PartsOf). v.node.state) c.self.view_is) at c.requires in
    (listed_parts _ c.args.roster c.settle.new.self c.self.inside.posts may c.self.invariant).parts

pub returns : goal.returns
returns c = member_view _ c.args.self.now c.args.roster c.settle.new.self
    (settled c.args.victim c.args.self.now.node.asker) c.self.view_is (c.settle.ensures
    ∙ ap (λ (v : PartsOf). settled c.args.victim v.node.asker) c.self.view_is) c.requires
    (rw (← c.self.view_is) c.self.invariant)

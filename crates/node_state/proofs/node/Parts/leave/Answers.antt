use Rattle.std.proofs.Common.{◌≡◌, None, ap, ◌∙◌}
use Rattle.node_state.specs.Parts.{PartsOf}
use Rattle.node_state.specs.declared.parts.State.TheVariants.{Member}
use Rattle.node_state.proofs.Keeping.{leaving_parts, leaving_view}
use Rattle.node_state.proofs.Leaves.{same_roster}
use Rattle.node_state.proofs.node.Parts.leave.Goals as goal

pub invariant_of-self : goal.invariant_of-self
invariant_of-self c =
    let silent : c.self.inside.asker.pending ≡ None =
    ap (λ (v : PartsOf). v.node.asker.pending) c.self.view_is ∙ c.requires.silent in
    rw c.new.ensures (rw c.new-in-Member.ensures
    (leaving_parts _ c.in-Member.roster c.args.heir c.self.invariant silent))

pub returns-in-Member : goal.returns-in-Member
returns-in-Member c = λ r is.
    let state : Member c.in-Member.roster ≡ Member r =
    c.in-Member.ensures.value ∙ ap (λ (v : PartsOf). v.node.state) c.self.view_is ∙ is in
    let same : c.in-Member.roster ≡ r = same_roster c.in-Member.roster r state in
    rw c.new.ensures (rw c.new-in-Member.ensures
    (rw same (leaving_view _ c.args.self.now r c.args.heir c.self.view_is)))

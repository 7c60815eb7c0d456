use Rattle.std.proofs.Common.{◌≡◌, ◌∙◌, Some, refl, sym, ap, subst}
use Rattle.subcomputation.specs.Fitting.{Fits}
use Rattle.subcomputation.specs.Subs.{sub_in}
use Rattle.subcomputation.specs.Told.{updated_sub}
use Rattle.node_state.specs.Parts.{IsMember}
use Rattle.node_steps.specs.Meeting.{NodeOn}
use Rattle.node_steps.proofs.Keeping.{held}
use Rattle.node_steps.proofs.node.JobNode.change.Goals as goal

pub invariant_of-self-2 : goal.invariant_of-self-2
invariant_of-self-2 c =
    let sub = c.requires.may.sub in
    let after = updated_sub c.args.prepared.update sub in
    let there : sub_in c.args.grant c.self.inside.parts.node.subs ≡ Some sub =
    ap (λ (n : NodeOn). sub_in c.args.grant n.node.subs) c.self.view_is ∙ c.requires.may.there in
    let member : IsMember c.self.inside.parts.node.state =
    subst (λ (n : NodeOn). IsMember n.node.state) (sym c.self.view_is) c.requires.may.next.member in
    let fits : Fits c.self.inside.job.now.program after.content =
    subst (λ (n : NodeOn). Fits n.job.program after.content) (sym c.self.view_is) c.requires.fits in
    rw (c.in_ok-update.ensures.ok sub there)
    (held c.self.inside.job.now c.self.inside.parts.node _ after c.self.inside.parts.posts _ c.self.invariant member
    refl refl refl fits)

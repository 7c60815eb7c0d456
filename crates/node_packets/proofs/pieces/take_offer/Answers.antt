use Rattle.std.proofs.Common.{◌≡◌, Err, rules}
use Rattle.codec.specs.declared.body.Body.TheVariants as body
use Rattle.node_state.specs.Assemblies.{without_assembly}
use Rattle.node_steps.specs.Cases.{on_body}
use Rattle.node_steps.specs.Choosing.{own_candidate}
use Rattle.node_steps.specs.Meeting.{Carries}
use Rattle.node_packets.proofs.Assembling.{keeps_others, lacks_joined, takes_joined}
use Rattle.node_packets.proofs.pieces.take_offer.Goals as goal

pub returns-in_err-step : goal.returns-in_err-step
returns-in_err-step c = λ r at.
    let failed : c.member_offer.result ≡ Err c.in_err-step.field-0.0 = search rules in
    let same : c.from_residual.result ≡ Err c.in_err-step.field-0.0 = search rules in
    rw (c.in-Some.is, same) (lacks_joined c.args.node.now.job (own_candidate c.args.node.now.posts) r c.in-Some.offer
    (without_assembly c.args.grant c.args.node.now.node.assemblies) c.args.node.now c.member_offer.new.node at
    c.in_err-step.field-0.0 (rw failed at c.member_offer.ensures))

pub returns : goal.returns
returns c = λ r at.
    let came : Carries (on_body c.args.node.now.job (own_candidate c.args.node.now.posts)
    (body.Offer c.in-Some.offer) c.args.node.now.node) c.in_ok-step.step c.args.node.now c.member_offer.new.node =
    c.in_ok-step.ensures in
    let others : c.member_offer.new.node.node.assemblies ≡ c.args.node.now.node.assemblies =
    keeps_others c.args.node.now.job (own_candidate c.args.node.now.posts) r c.in-Some.offer
    (without_assembly c.args.grant c.args.node.now.node.assemblies) c.args.node.now c.member_offer.new.node at
    c.in_ok-step.step came in
    rw (c.in-Some.is, c.forget-2.ensures, others)
    (takes_joined c.args.node.now.job (own_candidate c.args.node.now.posts) r c.in-Some.offer
    (without_assembly c.args.grant c.args.node.now.node.assemblies) c.args.node.now c.member_offer.new.node at
    c.in_ok-step.step came)

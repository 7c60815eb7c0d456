use Rattle.std.proofs.Common.{◌≡◌, Some, false, ap, sym, ◌∙◌, rules}
use Rattle.std.proofs.lemmas.Bool.{not-true}
use Rattle.frames.specs.Frames.{frame_in}
use Rattle.sub_rules.specs.Carrying.{is_stale_of}
use Rattle.sub_rules.specs.declared.content.Content.{Content}
use Rattle.subcomputation.specs.Subs.{sub_in}
use Rattle.node_state.specs.Parts.{IsMember}
use Rattle.node_calls.proofs.Evaluating.{fresh_known}
use Rattle.node_calls.proofs.turns.is_own.Goals as goal

pub returns : goal.returns
returns c own =
    let member : IsMember c.args.node.now.node.state = search rules in
    let there : sub_in c.args.grant c.args.node.now.node.subs ≡ Some c.in-Some.sub.now = search rules in
    let fresh : is_stale_of c.args.done.now (frame_in c.args.frame c.in-Some.sub.now.content.frames) ≡ false =
    ap (λ (x : Content). is_stale_of c.args.done.now (frame_in c.args.frame x.frames)) (sym c.content.ensures.same)
    ∙ sym c.is_stale.ensures ∙ not-true c.is_stale.result own in
    fresh_known c.args.node.now.job c.args.grant c.args.frame c.args.node.now.node c.in-Some.sub.now member there
    c.args.done.now c.requires c.turn.ensures.evaluated.reached fresh

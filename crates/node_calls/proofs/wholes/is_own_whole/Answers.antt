use Rattle.std.proofs.Common.{◌≡◌, ◌≤◌, ◌∙◌, Some, false, sym, rules}
use Rattle.std.proofs.lemmas.Bool.{not-true}
use Rattle.frames.specs.Frames.{frame_in}
use Rattle.kind_check.specs.declared.turn.Turn.TheVariants.{Sends}
use Rattle.serial_meaning.specs.Places.{room}
use Rattle.serial_meaning.specs.Whole.{IsWhole}
use Rattle.sub_rules.specs.Carrying.{ended, is_stale_of}
use Rattle.subcomputation.specs.Subs.{sub_in}
use Rattle.node_state.specs.Parts.{IsMember}
use Rattle.node_calls.proofs.Evaluating.{whole_fresh}
use Rattle.node_calls.proofs.wholes.is_own_whole.Goals as goal

pub returns : goal.returns
returns c own =
    let s = c.in-Some.sub.now in
    let w = c.args.whole.now in
    let x = c.in-Some-get.found.now in
    let p = c.args.node.now.job.program in
    let member : IsMember c.args.node.now.node.state = search rules in
    let there : sub_in c.args.grant c.args.node.now.node.subs ≡ Some s = search rules in
    let at : frame_in c.args.frame s.content.frames ≡ Some x = search rules in
    let place : w.room ≡ room x.place = search rules in
    let within : w.turns ≤ c.args.most_turns = search rules in
    let whole : IsWhole w = search rules in
    let fresh : is_stale_of (ended p w.thread w.numbers (Sends w.value)) (frame_in c.args.frame s.content.frames)
    ≡ false =
    rw (c.thread.ensures.same, c.numbers.ensures.same, c.content-2.ensures.same) at
    (sym (c.is_stale_for.ensures p (Sends w.value)) ∙ not-true c.is_stale_for.result own) in
    whole_fresh c.args.node.now.job c.args.grant c.args.frame c.args.node.now.node s member there c.args.most_turns w x
    at c.requires place within whole fresh

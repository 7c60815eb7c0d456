use Rattle.std.proofs.Common.{◌≡◌, Some, is_some, true, refl, rules}
use Rattle.sub_rules.specs.Content.{ready_in}
use Rattle.subcomputation.specs.Subs.{sub_in}
use Rattle.node_state.specs.Parts.{IsMember}
use Rattle.node_steps.specs.Meeting.{IsNode}
use Rattle.node_steps.specs.Ready.{work_in}
use Rattle.node_calls.proofs.Evaluating.{whole_lacks_memory, work_takes}
use Rattle.node_calls.proofs.wholes.whole_ready.Goals as goal

pub returns-in_err-work-clause-out_of_memory : goal.returns-in_err-work-clause-out_of_memory
returns-in_err-work-clause-out_of_memory c =
    let member : IsMember c.args.node.now.node.state = search rules in
    let there : sub_in c.args.grant c.args.node.now.node.subs ≡ Some c.in-Some.sub.now = search rules in
    let some : is_some (ready_in c.args.frame c.in-Some.sub.now.content) ≡ true = search rules in
    λ _. whole_lacks_memory c.args.node.now.job c.args.grant c.args.frame c.args.node.now.node c.in-Some.sub.now member
    there c.args.most_turns some

pub of-requires-clause-takes : goal.of-requires-clause-takes
of-requires-clause-takes c =
    let there : sub_in c.args.grant c.args.node.now.node.subs ≡ Some c.in-Some.sub.now = search rules in
    let is : IsNode c.args.node.now = rw (← c.node.view_is) c.node.invariant in
    let told : Some c.in-Some-2.work ≡ work_in c.args.grant c.args.frame c.in-Some.sub.now.content = search rules in
    let program : c.checked-checked.result.now ≡ c.args.node.now.job.program = search rules in
    work_takes c.args.node.now.job.program c.checked-checked.result.now c.args.grant c.args.frame
    c.in-Some.sub.now.content c.in-Some-2.work c.in-Some-2.work.numbers
    (is.fits c.args.grant c.in-Some.sub.now there) told program refl

pub returns-in-Err-default-Memory-clause-out_of_memory : goal.returns-in-Err-default-Memory-clause-out_of_memory
returns-in-Err-default-Memory-clause-out_of_memory c =
    let member : IsMember c.args.node.now.node.state = search rules in
    let there : sub_in c.args.grant c.args.node.now.node.subs ≡ Some c.in-Some.sub.now = search rules in
    let some : is_some (ready_in c.args.frame c.in-Some.sub.now.content) ≡ true = search rules in
    λ _. whole_lacks_memory c.args.node.now.job c.args.grant c.args.frame c.args.node.now.node c.in-Some.sub.now member
    there c.args.most_turns some

use Rattle.std.proofs.Common.{◌≡◌, [], Some, Ok, rules}
use Rattle.body_eval.specs.Done.{DoneOf}
use Rattle.subcomputation.specs.Subs.{sub_in}
use Rattle.subcomputation.specs.Told.{carried_out, changed_of}
use Rattle.sub_rules.specs.Carrying.{ended, exec_content}
use Rattle.saved_values.specs.Saved.{known_by}
use Rattle.node_state.specs.Parts.{HasNoNewRecord, IsMember}
use Rattle.node_steps.specs.Meeting.{IsNode, MeetsAround, changes_of}
use Rattle.node_calls.proofs.Carrying.{exec_known, meets_alone}
use Rattle.node_steps.proofs.Changing.{may_change}
use Rattle.node_state.specs.Node.{by_state}
use Rattle.node_steps.specs.Calls as calls
use Rattle.node_steps.specs.Cases.{by_option}
use Rattle.node_calls.proofs.turns.carry_out.Goals as goal

pub change-requires : goal.change-requires
change-requires c =
    let sub = c.in-Some.sub.now in
    let prepared = c.in_ok-prepared.prepared in
    let member : IsMember c.args.node.now.node.state = search rules in
    let there : sub_in c.args.grant c.args.node.now.node.subs ≡ Some sub = search rules in
    let named : sub.grant ≡ c.args.grant = search rules in
    let none : HasNoNewRecord c.args.node.now.node sub = search rules in
    let is : IsNode c.args.node.now = rw (← c.node.view_is) c.node.invariant in
    may_change c.args.node.now c.args.grant sub prepared member there named c.in_ok-prepared.ensures.may
    c.in_ok-prepared.ensures.ready c.in_ok-prepared.ensures.records none
    (c.in_ok-prepared.ensures.fits c.args.node.now.job.program (is.fits c.args.grant sub there) c.requires.fits)

pub returns-in_err-prepared-clause-answer : goal.returns-in_err-prepared-clause-answer
unfolding calls.exec by_option by_state
returns-in_err-prepared-clause-answer c = let refused =
    c.in_err-prepared.ensures.answer c.args.node.now.job.program in search (rules, refused)

pub returns-in_err-prepared-clause-out_of_memory : goal.returns-in_err-prepared-clause-out_of_memory
unfolding calls.exec by_option by_state
returns-in_err-prepared-clause-out_of_memory c = let lacks =
    c.in_err-prepared.ensures.out_of_memory c.args.node.now.job.program in search (rules, lacks)

pub returns-clause-answer : goal.returns-clause-answer
returns-clause-answer c =
    let sub = c.in-Some.sub.now in
    let done : DoneOf = ended c.args.node.now.job.program c.args.thread c.args.numbers.now c.args.turn.now in
    let changed = changed_of sub c.in_ok-prepared.prepared in
    let member : IsMember c.args.node.now.node.state = search rules in
    let there : sub_in c.args.grant c.args.node.now.node.subs ≡ Some sub = search rules in
    let is : carried_out sub (exec_content (known_by sub.saved) done c.args.frame sub.content) ≡ Ok changed =
    c.in_ok-prepared.ensures.answer c.args.node.now.job.program in
    let behind : MeetsAround [] [] (changes_of c.args.node.now.job changed c.args.node.now.node) c.change.result
    c.args.node.now c.change.new.self = rw (c.new.ensures, c.new-2.ensures) at (c.change.ensures sub there) in
    rw (exec_known c.args.node.now.job done c.args.grant c.args.frame c.args.node.now.node sub changed member there is)
    (meets_alone (changes_of c.args.node.now.job changed c.args.node.now.node) c.change.result c.args.node.now
    c.change.new.self behind)

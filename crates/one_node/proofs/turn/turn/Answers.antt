-- The deepest post is that of the frame that runs, and its turn is a turn of the run.
use Rattle.std.proofs.Common.{◌≡◌, Some, ap, ◌∙◌, rules}
use Rattle.std.proofs.lemmas.Result.{err_from_is_err_and}
use Rattle.level_deques.specs.Posts.{deepest, without_post}
use Rattle.one_node.specs.Runs.{posted_readied, run_of}
use Rattle.one_node.proofs.Turning.{next_frame}
use Rattle.one_node.proofs.Keeping.{by_nothing, turn_fails, turn_follows, turn_taken}
use Rattle.one_node.proofs.Taking.{taken_is}
use Rattle.one_node.proofs.turn.turn.Goals as goal

pub unwrap-newest-requires : goal.unwrap-newest-requires
unwrap-newest-requires g c =
    let n = next_frame c.args.job.now (run_of c.args.run.now) c.requires in
    let is : c.deepest.result ≡ Some n.post = c.deepest.ensures ∙ n.first in
    rw is (search rules)

pub evaluated-requires : goal.evaluated-requires
evaluated-requires g c =
    let n = next_frame c.args.job.now (run_of c.args.run.now) c.requires in
    let same : n.post ≡ c.unwrap-newest.result = cc (n.first, c.deepest.ensures, c.unwrap-newest.ensures) in
    rw same at n.frame

pub returns-in_err-ready-clause-fails : goal.returns-in_err-ready-clause-fails
returns-in_err-ready-clause-fails g c =
    let first : deepest c.args.run.now.posts ≡ Some c.unwrap-newest.result =
    cc (c.deepest.ensures, c.unwrap-newest.ensures) in
    let fails = turn_fails c.args.job.now
    (run_of c.args.run.now) c.unwrap-newest.result c.in_ok-done.done c.in_ok-done.ensures.turn
    c.in_err-ready.field-0.0 first c.in_ok-done.ensures.program c.carry_out.new.content
    c.in_err-ready.ensures.answer in
    let p = err_from_is_err_and c.from_residual-in_err-ready.result c.from_residual-in_err-ready.ensures.1 in
    rw (p.1, p.2) fails

pub returns-clause-next : goal.returns-clause-next
returns-clause-next g c =
    let first : deepest c.args.run.now.posts ≡ Some c.unwrap-newest.result =
    cc (c.deepest.ensures, c.unwrap-newest.ensures) in
    let led = c.in_ok-ready.ensures.answer in
    let taken : c.post_all.new.posts ≡ posted_readied c.in_ok-ready.ready
    (without_post c.unwrap-newest.result c.args.run.now.posts) = search rules in
    let posts = taken ∙ ap (posted_readied c.in_ok-ready.ready)
    (taken_is c.args.run.now.content.frames c.args.run.now.posts c.unwrap-newest.result c.requires.order
    c.requires.posted first) in
    rw posts (rw (led.led, led.told) at
    (turn_taken c.args.job.now (run_of c.args.run.now) c.unwrap-newest.result c.in_ok-done.done
    c.in_ok-done.ensures.turn led.change first c.in_ok-done.ensures.program led.done))

pub returns-clause-follows : goal.returns-clause-follows
returns-clause-follows g c =
    let first : deepest c.args.run.now.posts ≡ Some c.unwrap-newest.result =
    cc (c.deepest.ensures, c.unwrap-newest.ensures) in
    let led = c.in_ok-ready.ensures.answer in
    let taken : c.post_all.new.posts ≡ posted_readied c.in_ok-ready.ready
    (without_post c.unwrap-newest.result c.args.run.now.posts) = search rules in
    let posts = taken ∙ ap (posted_readied c.in_ok-ready.ready)
    (taken_is c.args.run.now.content.frames c.args.run.now.posts c.unwrap-newest.result c.requires.order
    c.requires.posted first) in
    rw posts (rw (led.led, led.told) at
    (turn_follows c.args.job.now (run_of c.args.run.now) c.unwrap-newest.result c.in_ok-done.done
    c.in_ok-done.ensures.turn led.change
    (by_nothing c.args.job.now (c.turn_keeps_agreement.ensures.content c.args.job.now)) c.requires
    c.in_ok-done.ensures.program led.done (rw led.led c.in_ok-ready.ensures.sound)
    (rw led.led c.law_stand_in_order-2.ensures)))

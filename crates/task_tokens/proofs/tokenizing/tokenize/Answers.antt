-- What stood at the front was kept, and the rest is as before.
use Rattle.std.proofs.Common.{◌+◌, ◌≤◌, length, arith}
use Rattle.std.proofs.lemmas.List.{length-drop}
use Rattle.task_tokens.proofs.Steps.{tokens_step, kept_some, kept_none}
use Rattle.task_tokens.proofs.tokenizing.tokenize.Goals as goal
use Rattle.task_tokens.proofs.tokenizing.tokenize.Goals.{in-Some+in_ok-push-in-Some, in-None}

pub loop-at-preserved : goal.loop-at-preserved
loop-at-preserved c =
    let back = c.split_at.ensures.back in
    let front = c.in_ok-token.ensures in
    let within = rw back at front.within in
    let step = tokens_step _ _ _ c.args.text.now (rw back at front.token) (rw back at front.size) front.some within in
    let inside : c.loop-at.at + c.in_ok-token.size ≤ length c.args.text.now =
    omega (arith, length-drop c.loop-at.at c.args.text.now) in
    elim c.match-token.branch [
      | in-Some+in_ok-push-in-Some w ↦ (
        kept_some _ _ _ _ _ _ _ c.loop-at.invariant.0 (rw w.in-Some.is at step)
            (rw (← w.all-is) at w.in_ok-push-in-Some.ensures.ok),
        inside,
      )
      | in-None w ↦ (rw w.all-is (kept_none _ _ _ _ c.loop-at.invariant.0 (rw w.in-None.is at step)), inside)
    ]

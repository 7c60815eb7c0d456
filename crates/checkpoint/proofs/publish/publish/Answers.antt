use Rattle.std.proofs.Common.{◌+◌, [], ◌∷◌, ◌++◌}
use Rattle.std.proofs.lemmas.Result.{on_ok_weaker, on_err_weaker}
use Rattle.checkpoint.specs.Commit.{closing, putting}
use Rattle.checkpoint.proofs.Chains.{both_later, passed_both, stop_first, stop_later}
use Rattle.checkpoint.proofs.Results.{err_holds}
use Rattle.checkpoint.proofs.publish.publish.Goals as goal

pub returns-in_err-close-clause-err : goal.returns-in_err-close-clause-err
returns-in_err-close-clause-err g c =
    let one = putting c.args.at (closing c.args.gate) in
    let two = putting (c.args.at + 1) c.args.body.now in
    let three = putting c.args.at (165 ∷ []) in
    err_holds c.from_residual.result (stop_first one (two ++ three) _ _ _ c.in_err-close.ensures.err)

pub returns-in_err-put-clause-err : goal.returns-in_err-put-clause-err
returns-in_err-put-clause-err g c =
    let plan = g.D.Disk.planned in
    let one = putting c.args.at (closing c.args.gate) in
    let two = putting (c.args.at + 1) c.args.body.now in
    let three = putting c.args.at (165 ∷ []) in
    let closed = c.in_ok-close.ensures in
    err_holds c.from_residual-in_err-put.result
    (stop_later one (two ++ three) (plan c.args.disk.now) (plan c.close.new.disk) _ _ _ closed.ok closed.plan
    (stop_first two three _ _ _ c.in_err-put.ensures.err))

pub returns-clause-err : goal.returns-clause-err
returns-clause-err g c =
    let plan = g.D.Disk.planned in
    let one = putting c.args.at (closing c.args.gate) in
    let two = putting (c.args.at + 1) c.args.body.now in
    let three = putting c.args.at (165 ∷ []) in
    let closed = c.in_ok-close.ensures in
    let done = c.in_ok-put.ensures in
    on_err_weaker c.open.result (λ stop.
    stop_later one (two ++ three) (plan c.args.disk.now) (plan c.close.new.disk) _ _ _ closed.ok closed.plan
    (stop_later two three (plan c.close.new.disk) (plan c.put.new.disk) _ _ _ done.ok done.plan stop))
    c.open.ensures.err

pub returns-clause-ok : goal.returns-clause-ok
returns-clause-ok g c =
    let plan = g.D.Disk.planned in
    let one = putting c.args.at (closing c.args.gate) in
    let two = putting (c.args.at + 1) c.args.body.now in
    let three = putting c.args.at (165 ∷ []) in
    let closed = c.in_ok-close.ensures in
    let done = c.in_ok-put.ensures in
    on_ok_weaker c.open.result (λ last.
    passed_both one (two ++ three) (plan c.args.disk.now) (plan c.close.new.disk) _ _ _ closed.ok closed.plan
    (passed_both two three (plan c.close.new.disk) (plan c.put.new.disk) _ _ _ done.ok done.plan last))
    c.open.ensures.ok

pub returns-clause-plan : goal.returns-clause-plan
returns-clause-plan g c =
    let plan = g.D.Disk.planned in
    let closed = c.in_ok-close.ensures.plan in
    on_ok_weaker c.open.result (λ last.
    both_later (plan c.args.disk.now) (plan c.put.new.disk) (plan c.open.new.disk) 4 2
    (both_later (plan c.args.disk.now) (plan c.close.new.disk)
    (plan c.put.new.disk) 2 2 closed c.in_ok-put.ensures.plan) last)
    c.open.ensures.plan

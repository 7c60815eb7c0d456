use Rattle.std.proofs.Common.{inl, [], ◌∷◌}
use Rattle.checkpoint.specs.Calls.{Write, Sync}
use Rattle.checkpoint.proofs.Chains.{both_later, fails_alone, one_later, passes_alone, passed_both, stop_first, stop_later}
use Rattle.checkpoint.proofs.Results.{err_holds, err_three, ok_both, ok_holds}
use Rattle.checkpoint.proofs.publish.put.Goals as goal

pub returns-in_err-write_at-clause-err : goal.returns-in_err-write_at-clause-err
returns-in_err-write_at-clause-err g c =
    let h = c.in_err-write_at in
    let plan = g.D.Disk.planned c.args.disk.now in
    let call = Write c.args.at c.args.bytes.now in
    err_holds c.from_residual.result
    (stop_first (call ∷ []) (Sync ∷ []) plan _ _
    (fails_alone call plan _ _ (record {
      failed = h.ensures.err;
      settled = h.ensures.settled;
      torn = c.write_at.ensures.crash;
      cause = h.ensures.cause;
    })))

pub returns-clause-err : goal.returns-clause-err
returns-clause-err g c =
    let h = c.in_ok-write_at in
    let plan = g.D.Disk.planned c.args.disk.now in
    let later = g.D.Disk.planned c.write_at.new.self in
    let call = Write c.args.at c.args.bytes.now in
    let before = passes_alone call plan _ _ h.ensures.passes h.ensures.ok in
    err_three c.sync.result (λ failed cause settled.
    stop_later (call ∷ []) (Sync ∷ []) plan later _ _ _ before (one_later plan later c.write_at.ensures.plan)
    (fails_alone Sync later _ _ (record {
      failed = failed;
      settled = settled;
      torn = c.sync.ensures.crash;
      cause = λ can. inl (cause can);
    })))
    c.sync.ensures.err c.sync.ensures.cause c.sync.ensures.settled

pub returns-clause-ok : goal.returns-clause-ok
returns-clause-ok g c =
    let h = c.in_ok-write_at in
    let plan = g.D.Disk.planned c.args.disk.now in
    let later = g.D.Disk.planned c.write_at.new.self in
    let call = Write c.args.at c.args.bytes.now in
    let before = passes_alone call plan _ _ h.ensures.passes h.ensures.ok in
    ok_both c.sync.result (λ passes is.
    passed_both (call ∷ []) (Sync ∷ []) plan later _ _ _ before (one_later plan later c.write_at.ensures.plan)
    (passes_alone Sync later _ _ passes is))
    c.sync.ensures.passes c.sync.ensures.ok

pub returns-clause-plan : goal.returns-clause-plan
returns-clause-plan g c =
    let plan = g.D.Disk.planned in
    ok_holds c.sync.result (both_later (plan c.args.disk.now) (plan c.write_at.new.self) (plan c.sync.new.self) 1 1
    (one_later (plan c.args.disk.now) (plan c.write_at.new.self) c.write_at.ensures.plan)
    (one_later (plan c.write_at.new.self) (plan c.sync.new.self) c.sync.ensures.plan))

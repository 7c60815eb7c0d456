use Rattle.std.proofs.Common.{inl, [], ◌∷◌}
use Rattle.checkpoint.specs.Calls.{Cut, Write, Sync}
use Rattle.checkpoint.proofs.Chains.{fails_alone, one_later, passed_both, passes_alone, stop_first, stop_later}
use Rattle.checkpoint.proofs.Results.{err_holds}
use Rattle.checkpoint.proofs.blank.make.Goals as goal

pub returns-in_err-cut-clause-stopped : goal.returns-in_err-cut-clause-stopped
returns-in_err-cut-clause-stopped g c =
    let h = c.in_err-cut.ensures in
    let file = c.args.file.now in
    let stop = fails_alone (Cut 0) (g.D.Disk.planned c.args.disk.now) _ _
    (record { failed = h.err; settled = h.settled; torn = c.cut.ensures.crash; cause = h.cause }) in
    err_holds c.from_residual.result (
    stop_first (Cut 0 ∷ []) (Write 0 file ∷ Sync ∷ []) _ _ _ stop
    )

pub returns-in_err-write_at-clause-stopped : goal.returns-in_err-write_at-clause-stopped
returns-in_err-write_at-clause-stopped g c =
    let plan = g.D.Disk.planned in
    let h = c.in_err-write_at.ensures in
    let file = c.args.file.now in
    let cut = passes_alone (Cut 0) (plan c.args.disk.now) _ _ c.in_ok-cut.ensures.passes c.in_ok-cut.ensures.ok in
    let stop = fails_alone (Write 0 file) (plan c.cut.new.self) _ _
    (record { failed = h.err; settled = h.settled; torn = c.write_at.ensures.crash; cause = h.cause }) in
    let rest = stop_first (Write 0 file ∷ []) (Sync ∷ []) _ _ _ stop in
    err_holds c.from_residual-in_err-write_at.result (
    stop_later (Cut 0 ∷ []) (Write 0 file ∷ Sync ∷ []) (plan c.args.disk.now)
    (plan c.cut.new.self) _ _ _ cut (one_later (plan c.args.disk.now) (plan c.cut.new.self) c.cut.ensures.plan)
    rest
    )

pub returns-in_err-sync-clause-stopped : goal.returns-in_err-sync-clause-stopped
returns-in_err-sync-clause-stopped g c =
    let plan = g.D.Disk.planned in
    let h = c.in_err-sync.ensures in
    let file = c.args.file.now in
    let cut = passes_alone (Cut 0) (plan c.args.disk.now) _ _ c.in_ok-cut.ensures.passes c.in_ok-cut.ensures.ok in
    let write = passes_alone (Write 0 file)
    (plan c.cut.new.self) _ _ c.in_ok-write_at.ensures.passes c.in_ok-write_at.ensures.ok in
    let stop = fails_alone Sync (plan c.write_at.new.self) _ _
    (record {
      failed = h.err;
      settled = h.settled;
      torn = c.sync.ensures.crash;
      cause = λ can. inl (h.cause can);
    }) in
    let rest = stop_later (Write 0 file ∷ []) (Sync ∷ []) (plan c.cut.new.self) (plan c.write_at.new.self) _ _ _ write
    (one_later (plan c.cut.new.self) (plan c.write_at.new.self) c.write_at.ensures.plan) stop in
    err_holds c.from_residual-in_err-sync.result (
    stop_later (Cut 0 ∷ []) (Write 0 file ∷ Sync ∷ []) (plan c.args.disk.now)
    (plan c.cut.new.self) _ _ _ cut (one_later (plan c.args.disk.now) (plan c.cut.new.self) c.cut.ensures.plan)
    rest
    )

pub returns-clause-calls : goal.returns-clause-calls
returns-clause-calls g c =
    let plan = g.D.Disk.planned in
    let file = c.args.file.now in
    let cut = passes_alone (Cut 0) (plan c.args.disk.now) _ _ c.in_ok-cut.ensures.passes c.in_ok-cut.ensures.ok in
    let write = passes_alone (Write 0 file)
    (plan c.cut.new.self) _ _ c.in_ok-write_at.ensures.passes c.in_ok-write_at.ensures.ok in
    let sync = passes_alone Sync (plan c.write_at.new.self) _ _ c.in_ok-sync.ensures.passes c.in_ok-sync.ensures.ok in
    let rest = passed_both (Write 0 file ∷ []) (Sync ∷ []) (plan c.cut.new.self) (plan c.write_at.new.self) _ _ _ write
    (one_later (plan c.cut.new.self) (plan c.write_at.new.self) c.write_at.ensures.plan) sync in
    passed_both (Cut 0 ∷ []) (Write 0 file ∷ Sync ∷ []) (plan c.args.disk.now)
    (plan c.cut.new.self) _ _ _ cut (one_later (plan c.args.disk.now) (plan c.cut.new.self) c.cut.ensures.plan)
    rest

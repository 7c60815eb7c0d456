use Rattle.std.proofs.Common.{◌≡◌, [], ◌∷◌, inl, subst, if◌then◌else◌, not, true, false, ℕ, Bool}
use Rattle.std.proofs.lemmas.Result.{on_ok_weaker, on_err_weaker}
use Rattle.checkpoint.specs.Calls.{Passed, Stopped, Write, Sync}
use Rattle.checkpoint.specs.Commit.{publishing}
use Rattle.checkpoint.specs.Pair.{place}
use Rattle.checkpoint.proofs.Chains.{fails_alone, one_later, passes_alone, passed_both, stop_first, stop_later}
use Rattle.checkpoint.proofs.Results.{err_holds}
use Rattle.checkpoint.proofs.migrate.migrate.Goals as goal

-- where the small slot begins that isn't current
at_small : (second : Bool) (at : ℕ) → at ≡ (if second then 72 else 8) → at ≡ place 8 63 second
at_small true at is = is
at_small false at is = is

pub returns-in_err-write_at-clause-err : goal.returns-in_err-write_at-clause-err
returns-in_err-write_at-clause-err g c =
    let plan = g.D.Disk.planned in
    let h = c.in_err-write_at in
    let large = c.large_slots-large.result in
    let small = c.spell_moved-small.result in
    let unsaved = rw (← c.requires.unsaved) at c.large_slots-large.ensures in
    let stop = fails_alone (Write 136 large) (plan c.args.disk.now) _ _
    (record {
      failed = h.ensures.err;
      settled = h.ensures.settled;
      torn = c.write_at.ensures.crash;
      cause = h.ensures.cause;
    }) in
    err_holds c.from_residual.result (
      large,
      small,
      unsaved,
      c.spell_moved-small.ensures,
      stop_first (Write 136 large ∷ []) (Sync ∷ publishing (place 8 63 (not c.args.second)) c.args.gate small) _ _ _
          stop,
    )

pub returns-in_err-sync-clause-err : goal.returns-in_err-sync-clause-err
returns-in_err-sync-clause-err g c =
    let plan = g.D.Disk.planned in
    let h = c.in_err-sync.ensures in
    let large = c.large_slots-large.result in
    let small = c.spell_moved-small.result in
    let unsaved = rw (← c.requires.unsaved) at c.large_slots-large.ensures in
    let rest = publishing (place 8 63 (not c.args.second)) c.args.gate small in
    let write = passes_alone (Write 136 large)
    (plan c.args.disk.now) _ _ c.in_ok-write_at.ensures.passes c.in_ok-write_at.ensures.ok in
    let stop = fails_alone Sync (plan c.write_at.new.self) _ _
    (record {
      failed = h.err;
      settled = h.settled;
      torn = c.sync.ensures.crash;
      cause = λ can. inl (h.cause can);
    }) in
    err_holds c.from_residual-in_err-sync.result (
      large,
      small,
      unsaved,
      c.spell_moved-small.ensures,
      stop_later (Write 136 large ∷ []) (Sync ∷ rest) (plan c.args.disk.now) (plan c.write_at.new.self) _ _ _ write
          (one_later (plan c.args.disk.now) (plan c.write_at.new.self) c.write_at.ensures.plan)
          (stop_first (Sync ∷ []) rest _ _ _ stop),
    )

pub returns-clause-ok : goal.returns-clause-ok
returns-clause-ok g c =
    let plan = g.D.Disk.planned in
    let large = c.large_slots-large.result in
    let small = c.spell_moved-small.result in
    let unsaved = rw (← c.requires.unsaved) at c.large_slots-large.ensures in
    let at = at_small (not c.args.second) c.small_place.result c.small_place.ensures in
    let rest = publishing (place 8 63 (not c.args.second)) c.args.gate small in
    let write = passes_alone (Write 136 large)
    (plan c.args.disk.now) _ _ c.in_ok-write_at.ensures.passes c.in_ok-write_at.ensures.ok in
    let sync = passes_alone Sync (plan c.write_at.new.self) _ _ c.in_ok-sync.ensures.passes c.in_ok-sync.ensures.ok in
    on_ok_weaker c.publish.result (λ last. (
      large,
      small,
      unsaved,
      c.spell_moved-small.ensures,
      passed_both (Write 136 large ∷ []) (Sync ∷ rest) (plan c.args.disk.now) (plan c.write_at.new.self) _ _ _ write
          (one_later (plan c.args.disk.now) (plan c.write_at.new.self) c.write_at.ensures.plan)
          (passed_both (Sync ∷ []) rest (plan c.write_at.new.self) (plan c.sync.new.self) _ _ _ sync
          (one_later (plan c.write_at.new.self) (plan c.sync.new.self) c.sync.ensures.plan)
          (subst (λ (a : ℕ). Passed (publishing a c.args.gate small) (plan c.sync.new.self)
          (g.D.Disk.device c.sync.new.self) (g.D.Disk.device c.publish.new.disk)) at last)),
    ))
    c.publish.ensures.ok

pub returns-clause-err : goal.returns-clause-err
returns-clause-err g c =
    let plan = g.D.Disk.planned in
    let large = c.large_slots-large.result in
    let small = c.spell_moved-small.result in
    let unsaved = rw (← c.requires.unsaved) at c.large_slots-large.ensures in
    let at = at_small (not c.args.second) c.small_place.result c.small_place.ensures in
    let rest = publishing (place 8 63 (not c.args.second)) c.args.gate small in
    let write = passes_alone (Write 136 large)
    (plan c.args.disk.now) _ _ c.in_ok-write_at.ensures.passes c.in_ok-write_at.ensures.ok in
    let sync = passes_alone Sync (plan c.write_at.new.self) _ _ c.in_ok-sync.ensures.passes c.in_ok-sync.ensures.ok in
    on_err_weaker c.publish.result (λ last. (
      large,
      small,
      unsaved,
      c.spell_moved-small.ensures,
      stop_later (Write 136 large ∷ []) (Sync ∷ rest) (plan c.args.disk.now) (plan c.write_at.new.self) _ _ _ write
          (one_later (plan c.args.disk.now) (plan c.write_at.new.self) c.write_at.ensures.plan)
          (stop_later (Sync ∷ []) rest (plan c.write_at.new.self) (plan c.sync.new.self) _ _ _ sync
          (one_later (plan c.write_at.new.self) (plan c.sync.new.self) c.sync.ensures.plan)
          (subst (λ (a : ℕ). Stopped (publishing a c.args.gate small) (plan c.sync.new.self)
          (g.D.Disk.device c.sync.new.self) (g.D.Disk.device c.publish.new.disk)) at last)),
    ))
    c.publish.ensures.err

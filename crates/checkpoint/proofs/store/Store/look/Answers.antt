use Rattle.std.proofs.Common.{◌∙◌, subst, sym}
use Rattle.disk.specs.Device.{Device}
use Rattle.disk.specs.File.{bytes_of}
use Rattle.checkpoint.specs.Calls.{Read}
use Rattle.checkpoint.specs.Store.{IsHeld, KeepsRecord}
use Rattle.checkpoint.specs.declared.record.StoreError.TheVariants.{JobMismatch}
use Rattle.checkpoint.proofs.Chains.{fails_alone, passes_alone}
use Rattle.checkpoint.proofs.Opened.{held_read, kept_read, not_by_device, refused_own, refused_read}
use Rattle.checkpoint.proofs.store.Store.look.Goals as goal

pub returns-in-Err-clause-stopped : goal.returns-in-Err-clause-stopped
returns-in-Err-clause-stopped g c _ =
    fails_alone (Read 4361) (g.D.Disk.planned c.args.disk) _ _
    (record {
      failed = c.in-Err.ensures.err;
      settled = c.in-Err.ensures.settled;
      torn = c.read.ensures.crash;
      cause = c.in-Err.ensures.cause;
    })

pub returns-in-Ok-look-clause-refused : goal.returns-in-Ok-look-clause-refused
returns-in-Ok-look-clause-refused g c _ =
    let file = bytes_of (g.D.Disk.device c.args.disk).file in
    let found = c.in-Ok-look.found in
    let held = held_read file c.deref.result.now found.slot found.sequence found.«record» found.gate
    (c.deref.ensures.value ∙ c.in-Ok.ensures.bytes) c.in-Ok-look.ensures.ok in (
      (found.sequence, found.«record», (found.slot, held.store), c.if-look-job.true),
      passes_alone (Read 4361) (g.D.Disk.planned c.args.disk) _ _ c.in-Ok.ensures.passes c.in-Ok.ensures.ok,
    )

pub returns-in-Ok-look-clause-alone : goal.returns-in-Ok-look-clause-alone
returns-in-Ok-look-clause-alone g c n r reads mine =
    refused_own JobMismatch (bytes_of (g.D.Disk.device c.args.disk).file) c.args.job n r mine reads
    (λ e. (returns-in-Ok-look-clause-refused g c e).0)

pub invariant_of-result : goal.invariant_of-result
invariant_of-result g c =
    let file = bytes_of (g.D.Disk.device c.args.disk).file in
    let found = c.in-Ok-look.found in
    let held = held_read file c.deref.result.now found.slot found.sequence found.«record» found.gate
    (c.deref.ensures.value ∙ c.in-Ok.ensures.bytes) c.in-Ok-look.ensures.ok in
    subst (λ (d : Device). IsHeld (bytes_of d.file) found.slot found.sequence found.«record» found.gate)
    (sym c.in-Ok.ensures.ok) held

pub returns-in-Ok-2-clause-found : goal.returns-in-Ok-2-clause-found
returns-in-Ok-2-clause-found g c =
    let file = bytes_of (g.D.Disk.device c.args.disk).file in
    let found = c.in-Ok-look.found in
    let held = held_read file c.deref.result.now found.slot found.sequence found.«record» found.gate
    (c.deref.ensures.value ∙ c.in-Ok.ensures.bytes) c.in-Ok-look.ensures.ok in
    ((found.slot, held.store), c.if-look-job.false)

pub returns-in-Ok-2-clause-calls : goal.returns-in-Ok-2-clause-calls
returns-in-Ok-2-clause-calls g c = passes_alone (Read 4361)
    (g.D.Disk.planned c.args.disk) _ _ c.in-Ok.ensures.passes c.in-Ok.ensures.ok

pub returns-in-Ok-2-clause-kept : goal.returns-in-Ok-2-clause-kept
returns-in-Ok-2-clause-kept g c n r keeps =
    let file = (g.D.Disk.device c.args.disk).file in
    let found = c.in-Ok-look.found in
    let held = held_read (bytes_of file) c.deref.result.now found.slot found.sequence found.«record» found.gate
    (c.deref.ensures.value ∙ c.in-Ok.ensures.bytes) c.in-Ok-look.ensures.ok in
    let kept = kept_read file found.slot found.sequence n found.«record» r held.store keeps in
    (subst (λ (d : Device). KeepsRecord d.file found.sequence found.«record») (sym c.in-Ok.ensures.ok) kept.0, kept.1)

pub returns-clause-refused : goal.returns-clause-refused
returns-clause-refused g c _ =
    let file = bytes_of (g.D.Disk.device c.args.disk).file in (
      refused_read c.in-Err-look.fault file c.deref.result.now c.args.job (c.deref.ensures.value
          ∙ c.in-Ok.ensures.bytes) (c.in-Err-look.ensures.refused c.args.job),
      passes_alone (Read 4361) (g.D.Disk.planned c.args.disk) _ _ c.in-Ok.ensures.passes c.in-Ok.ensures.ok,
    )

pub returns-clause-alone : goal.returns-clause-alone
returns-clause-alone g c n r reads mine =
    refused_own c.in-Err-look.fault (bytes_of (g.D.Disk.device c.args.disk).file) c.args.job n r mine reads
    (λ e. (returns-clause-refused g c e).0)

pub returns-clause-stopped : goal.returns-clause-stopped
returns-clause-stopped g c is = absurd
    (not_by_device c.in-Err-look.fault c.deref.result.now 0 (c.in-Err-look.ensures.refused 0) is)

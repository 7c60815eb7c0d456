use Rattle.std.proofs.Common.{◌≡◌, ◌∙◌}
use Rattle.disk.specs.File.{bytes_of}
use Rattle.checkpoint.specs.Calls.{Read}
use Rattle.checkpoint.specs.declared.record.StoreError.TheVariants.{Device}
use Rattle.checkpoint.proofs.Chains.{fails_alone, passes_alone}
use Rattle.checkpoint.proofs.Opened.{held_read, not_by_device, refused_read}
use Rattle.checkpoint.proofs.info.inspect.Goals as goal

pub returns-in-Err-clause-stopped : goal.returns-in-Err-clause-stopped
returns-in-Err-clause-stopped g c _ =
    fails_alone (Read 4361) (g.D.Disk.planned c.args.disk.now) _ _
    (record {
      failed = c.in-Err.ensures.err;
      settled = c.in-Err.ensures.settled;
      torn = c.read.ensures.crash;
      cause = c.in-Err.ensures.cause;
    })

pub returns-in-Ok-look-clause-found : goal.returns-in-Ok-look-clause-found
returns-in-Ok-look-clause-found g c =
    let file = bytes_of (g.D.Disk.device c.args.disk.now).file in
    let found = c.in-Ok-look.found in
    let held = held_read file c.deref.result.now found.slot found.sequence found.«record» found.gate
    (c.deref.ensures.value ∙ c.in-Ok.ensures.bytes) c.in-Ok-look.ensures.ok in
    (found.sequence, found.«record», (found.slot, held.store), c.told.ensures)

pub returns-in-Ok-look-clause-calls : goal.returns-in-Ok-look-clause-calls
returns-in-Ok-look-clause-calls g c =
    passes_alone (Read 4361) (g.D.Disk.planned c.args.disk.now) _ _ c.in-Ok.ensures.passes c.in-Ok.ensures.ok

pub returns-clause-refused : goal.returns-clause-refused
returns-clause-refused g c _ =
    let file = bytes_of (g.D.Disk.device c.args.disk.now).file in (
      λ job. refused_read c.in-Err-look.fault file c.deref.result.now job (c.deref.ensures.value
          ∙ c.in-Ok.ensures.bytes) (c.in-Err-look.ensures.refused job),
      passes_alone (Read 4361) (g.D.Disk.planned c.args.disk.now) _ _ c.in-Ok.ensures.passes c.in-Ok.ensures.ok,
    )

pub returns-clause-stopped : goal.returns-clause-stopped
returns-clause-stopped g c is =
    let same : c.in-Err-look.fault ≡ Device = cc in
    absurd (not_by_device c.in-Err-look.fault c.deref.result.now 0 (c.in-Err-look.ensures.refused 0) same)

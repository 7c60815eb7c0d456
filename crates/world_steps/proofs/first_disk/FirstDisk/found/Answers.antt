use Rattle.std.proofs.Common.{◌≡◌, ◌≢◌, IfErr, None, Some, ap, rules, subst, sym, ◌∙◌}
use Rattle.disk.specs.Crash.{Shrinks}
use Rattle.disk.specs.Device.{Device as DeviceOf}
use Rattle.disk.specs.File.{CrashLeaves, bytes_of}
use Rattle.checkpoint.specs.Store.{IsRefused}
use Rattle.checkpoint.specs.declared.record.CheckpointRecord.{CheckpointRecord}
use Rattle.checkpoint.specs.declared.record.StoreError.TheVariants.{Device}
use Rattle.job_store.specs.Failed.{HasFailed}
use Rattle.world_steps.proofs.FirstDisks.{by_device, failed_since, first_of, kept_of, refused_by_device, refused_settled, still_agrees}
use Rattle.world_steps.proofs.first_disk.FirstDisk.found.Goals as goal

pub returns-in_err-disk-2-clause-unchanged : goal.returns-in_err-disk-2-clause-unchanged
returns-in_err-disk-2-clause-unchanged g c =
    let is : IfErr c.from_residual-in_err-disk-2.result (λ e. e.0 ≡ Device) = search rules in
    by_device g.D.Disk.device (g.D.Disk.device c.args.disk) c.from_residual-in_err-disk-2.result is

pub returns-in_err-disk-clause-refused : goal.returns-in_err-disk-clause-refused
returns-in_err-disk-clause-refused g c =
    let is : IfErr c.from_residual.result (λ e. e.0 ≡ Device) = search rules in
    refused_by_device (g.D.Disk.device c.args.disk).file c.args.job.now.number c.from_residual.result is

pub returns-in_err-disk-clause-failed : goal.returns-in_err-disk-clause-failed
returns-in_err-disk-clause-failed g c =
    let device = g.D.Disk.device in
    let is : IfErr c.from_residual.result (λ e. e.0 ≡ Device → HasFailed (device c.args.disk) (device e.1)) =
    search rules in
    is

pub returns-in_err-store-clause-refused : goal.returns-in_err-store-clause-refused
returns-in_err-store-clause-refused g c =
    let device = g.D.Disk.device in
    let is : IfErr c.from_residual-in_err-store.result (λ e. e.0 ≢ Device
    → IsRefused e.0 (bytes_of (device c.in_ok-disk.disk).file) c.number.result) = search rules in
    refused_settled (device c.args.disk)
    (device c.in_ok-disk.disk) c.args.job.now.number c.from_residual-in_err-store.result c.in_ok-disk.ensures.leaves
    (rw (← c.number.ensures) is)

pub returns-in_err-store-clause-failed : goal.returns-in_err-store-clause-failed
returns-in_err-store-clause-failed g c =
    let device = g.D.Disk.device in
    let is : IfErr c.from_residual-in_err-store.result (λ e. e.0 ≡ Device
    → HasFailed (device c.in_ok-disk.disk) (device e.1)) = search rules in
    failed_since device (device c.args.disk)
    (device c.in_ok-disk.disk) c.from_residual-in_err-store.result c.in_ok-disk.ensures.passed is

pub returns-in_err-disk-2-clause-refused : goal.returns-in_err-disk-2-clause-refused
returns-in_err-disk-2-clause-refused g c =
    let is : IfErr c.from_residual-in_err-disk-2.result (λ e. e.0 ≡ Device) = search rules in
    refused_by_device (g.D.Disk.device c.args.disk).file c.args.job.now.number c.from_residual-in_err-disk-2.result is

pub returns-in_err-disk-2-clause-failed : goal.returns-in_err-disk-2-clause-failed
returns-in_err-disk-2-clause-failed g c =
    let device = g.D.Disk.device in
    let is : IfErr c.from_residual-in_err-disk-2.result (λ e. e.0 ≡ Device
    → HasFailed (device c.into_disk.result) (device e.1)) = search rules in
    let same = ap (λ (x : DeviceOf). x.failures) (ap device c.into_disk.ensures)
    ∙ (c.in_ok-store.ensures.passed ∙ c.in_ok-disk.ensures.passed) in
    failed_since device (device c.args.disk) (device c.into_disk.result) c.from_residual-in_err-disk-2.result same is

pub invariant_of-result : goal.invariant_of-result
invariant_of-result g c =
    let device = g.D.Disk.device in
    let s = c.in_ok-store.store in
    let less = subst (λ (x : g.row.D.Denot). Shrinks (CrashLeaves (device x).file)
    (CrashLeaves (device c.in_ok-disk-2.disk).file)) c.into_disk.ensures c.in_ok-disk-2.ensures.leaves in
    let told : s.«record».outcome ≡ None =
    sym (ap (λ (r : CheckpointRecord). r.outcome) c.«record».ensures.same) ∙ c.in-None.is in
    first_of device c.args.job.now s c.in_ok-disk-2.disk c.copied-saved.result c.in_ok-disk-2.ensures.still
    (c.in_ok-store.ensures.kept c.in_ok-disk.ensures.only) (c.in_ok-store.ensures.opened.1
    ∙ c.number.ensures) told (search rules) less

pub returns-in-Some-clause-found : goal.returns-in-Some-clause-found
returns-in-Some-clause-found g c =
    let device = g.D.Disk.device in
    let s = c.in_ok-store.store in
    let less = subst (λ (x : g.row.D.Denot). Shrinks (CrashLeaves (device x).file)
    (CrashLeaves (device c.in_ok-disk-2.disk).file)) c.into_disk.ensures c.in_ok-disk-2.ensures.leaves in
    let told : s.«record».outcome ≡ Some c.in-Some.outcome =
    sym (ap (λ (r : CheckpointRecord). r.outcome) c.«record».ensures.same) ∙ c.in-Some.is in
    kept_of device (device c.args.disk) (device c.in_ok-disk.disk) c.args.job.now.number s c.in_ok-disk-2.disk
    (Some c.in-Some.outcome) c.in_ok-disk.ensures.leaves c.in_ok-disk.ensures.only
    (search rules) c.in_ok-store.ensures.found c.in_ok-store.ensures.kept (c.in_ok-store.ensures.opened.1
    ∙ c.number.ensures) told less

pub returns-in-None-clause-found : goal.returns-in-None-clause-found
returns-in-None-clause-found g c =
    let device = g.D.Disk.device in
    let s = c.in_ok-store.store in
    let less = subst (λ (x : g.row.D.Denot). Shrinks (CrashLeaves (device x).file)
    (CrashLeaves (device c.in_ok-disk-2.disk).file)) c.into_disk.ensures c.in_ok-disk-2.ensures.leaves in
    let told : s.«record».outcome ≡ None =
    sym (ap (λ (r : CheckpointRecord). r.outcome) c.«record».ensures.same) ∙ c.in-None.is in (
      search rules,
      kept_of device (device c.args.disk)
          (device c.in_ok-disk.disk) c.args.job.now.number s c.in_ok-disk-2.disk None c.in_ok-disk.ensures.leaves
          c.in_ok-disk.ensures.only (search rules) c.in_ok-store.ensures.found c.in_ok-store.ensures.kept
          (c.in_ok-store.ensures.opened.1 ∙ c.number.ensures) told less,
    )

pub returns-in-Some-clause-agree : goal.returns-in-Some-clause-agree
returns-in-Some-clause-agree g c =
    let device = g.D.Disk.device in
    let s = c.in_ok-store.store in
    let less = subst (λ (x : g.row.D.Denot). Shrinks (CrashLeaves (device x).file)
    (CrashLeaves (device c.in_ok-disk-2.disk).file)) c.into_disk.ensures c.in_ok-disk-2.ensures.leaves in
    let told : s.«record».outcome ≡ Some c.in-Some.outcome =
    sym (ap (λ (r : CheckpointRecord). r.outcome) c.«record».ensures.same) ∙ c.in-Some.is in
    let k = kept_of device (device c.args.disk) (device c.in_ok-disk.disk) c.args.job.now.number s c.in_ok-disk-2.disk
    (Some c.in-Some.outcome) c.in_ok-disk.ensures.leaves c.in_ok-disk.ensures.only
    (search rules) c.in_ok-store.ensures.found c.in_ok-store.ensures.kept (c.in_ok-store.ensures.opened.1
    ∙ c.number.ensures) told less in
    still_agrees c.args.job.now (device c.args.disk) (device c.in_ok-disk-2.disk) c.args.job.now.number
    (Some c.in-Some.outcome) k

pub returns-in-None-clause-agree : goal.returns-in-None-clause-agree
returns-in-None-clause-agree g c =
    let device = g.D.Disk.device in
    let s = c.in_ok-store.store in
    let less = subst (λ (x : g.row.D.Denot). Shrinks (CrashLeaves (device x).file)
    (CrashLeaves (device c.in_ok-disk-2.disk).file)) c.into_disk.ensures c.in_ok-disk-2.ensures.leaves in
    let told : s.«record».outcome ≡ None =
    sym (ap (λ (r : CheckpointRecord). r.outcome) c.«record».ensures.same) ∙ c.in-None.is in
    let k = kept_of device (device c.args.disk)
    (device c.in_ok-disk.disk) c.args.job.now.number s c.in_ok-disk-2.disk None c.in_ok-disk.ensures.leaves
    c.in_ok-disk.ensures.only (search rules) c.in_ok-store.ensures.found c.in_ok-store.ensures.kept
    (c.in_ok-store.ensures.opened.1 ∙ c.number.ensures) told less in
    still_agrees c.args.job.now (device c.args.disk) (device c.in_ok-disk-2.disk) c.args.job.now.number None k

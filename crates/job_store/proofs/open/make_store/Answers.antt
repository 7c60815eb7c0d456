use Rattle.std.proofs.Common.{ap, ◌∙◌}
use Rattle.checkpoint.specs.Commit.{formatting}
use Rattle.disk.specs.Device.{Device}
use Rattle.job_store.proofs.Failing.{after_failures, failed_made, passed_opened, stopped_failed}
use Rattle.job_store.proofs.Opening.{made_counts, made_keeps, opened_keeps, opened_made, refused_made}
use Rattle.job_store.proofs.open.make_store.Goals as goal

pub returns-in-Ok-clause-made : goal.returns-in-Ok-clause-made
returns-in-Ok-clause-made g c =
    let keeps = made_keeps (g.D.Disk.device c.format.new.disk) c.args.job c.in-Ok.ensures.left in
    opened_made g.D.Disk.device (g.D.Disk.device c.format.new.disk) c.args.job c.open.result keeps c.open.ensures.opened
    c.open.ensures.kept

pub returns-in-Ok-clause-kept : goal.returns-in-Ok-clause-kept
returns-in-Ok-clause-kept g c =
    let keeps = made_keeps (g.D.Disk.device c.format.new.disk) c.args.job c.in-Ok.ensures.left in
    opened_keeps g.D.Disk.device (g.D.Disk.device c.format.new.disk) c.args.job c.open.result keeps c.open.ensures.kept

pub returns-in-Ok-clause-refused : goal.returns-in-Ok-clause-refused
returns-in-Ok-clause-refused g c =
    refused_made g.D.Disk.device (g.D.Disk.device c.format.new.disk)
    (g.D.Disk.planned c.format.new.disk) c.args.job c.open.result c.in-Ok.ensures.left c.open.ensures.refused
    c.open.ensures.alone

pub returns-in-Ok-clause-failed : goal.returns-in-Ok-clause-failed
returns-in-Ok-clause-failed g c =
    let passed = c.in-Ok.ensures.calls in
    let old = g.D.Disk.device c.args.disk in
    let mid = g.D.Disk.device c.format.new.disk in
    let same = ap (λ (x : Device). x.failures) passed.2.made ∙ after_failures (formatting passed.0) old in
    failed_made g.D.Disk.device old mid (g.D.Disk.planned c.format.new.disk) c.open.result same
    (refused_made g.D.Disk.device mid (g.D.Disk.planned c.format.new.disk) c.args.job c.open.result
    c.in-Ok.ensures.left c.open.ensures.refused c.open.ensures.alone) c.open.ensures.stopped

pub returns-in-Ok-clause-passed : goal.returns-in-Ok-clause-passed
returns-in-Ok-clause-passed g c =
    let passed = c.in-Ok.ensures.calls in
    let old = g.D.Disk.device c.args.disk in
    let mid = g.D.Disk.device c.format.new.disk in
    let same = ap (λ (x : Device). x.failures) passed.2.made ∙ after_failures (formatting passed.0) old in
    passed_opened g.D.Disk.device g.D.Disk.planned old mid
    (g.D.Disk.planned c.format.new.disk) c.open.result same c.open.ensures.calls

pub returns-in-Err-clause-failed : goal.returns-in-Err-clause-failed
returns-in-Err-clause-failed g c =
    let stopped = c.in-Err.ensures.stopped in
    stopped_failed (formatting stopped.0) (g.D.Disk.planned c.args.disk) (g.D.Disk.device c.args.disk)
    (g.D.Disk.device c.format.new.disk) stopped.2

pub returns-in-Ok-clause-counted : goal.returns-in-Ok-clause-counted
returns-in-Ok-clause-counted g c =
    made_counts g.D.Disk.device g.D.Disk.planned (g.D.Disk.device c.format.new.disk)
    (g.D.Disk.planned c.format.new.disk) c.args.job c.open.result c.in-Ok.ensures.left c.open.ensures.calls

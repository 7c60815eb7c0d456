use Rattle.std.proofs.Common.{ap, vec_len}
use Rattle.disk.specs.Device.{Device}
use Rattle.disk.specs.File.{bytes_of}
use Rattle.job_store.proofs.Failing.{failed_found, passed_opened}
use Rattle.job_store.proofs.Opening.{found_keeps, found_made, new_counted, none_first, opened_counted, opened_found, refused_found}
use Rattle.job_store.proofs.open.open_store.Goals as goal

pub returns-in-Ok-clause-found : goal.returns-in-Ok-clause-found
returns-in-Ok-clause-found g c = found_made (bytes_of (g.D.Disk.device c.args.disk).file) c.make_store.result
    (none_first (bytes_of (g.D.Disk.device c.args.disk).file) c.in-Ok.first.items
    (vec_len c.in-Ok.first) c.in-Ok.ensures.bytes c.in-Ok.first.ok.0 c.if-is_empty.ensures)

pub returns-in-Ok-2-clause-found : goal.returns-in-Ok-2-clause-found
returns-in-Ok-2-clause-found g c =
    let same = ap (λ (x : Device). x.file) c.in-Ok-2.ensures.ok in
    opened_found g.D.Disk.device g.D.Disk.planned (g.D.Disk.device c.args.disk) (g.D.Disk.device c.read.new.self)
    (g.D.Disk.planned c.read.new.self) same c.open.result c.open.ensures.calls

pub returns-in-Ok-2-clause-kept : goal.returns-in-Ok-2-clause-kept
returns-in-Ok-2-clause-kept g c =
    let same = ap (λ (x : Device). x.file) c.in-Ok-2.ensures.ok in
    found_keeps g.D.Disk.device g.D.Disk.planned (g.D.Disk.device c.args.disk) (g.D.Disk.device c.read.new.self)
    (g.D.Disk.planned c.read.new.self) same c.open.result c.open.ensures.calls c.open.ensures.kept

pub returns-in-Ok-2-clause-unchanged : goal.returns-in-Ok-2-clause-unchanged
returns-in-Ok-2-clause-unchanged g c =
    let same = ap (λ (x : Device). x.file) c.in-Ok-2.ensures.ok in
    refused_found g.D.Disk.device (g.D.Disk.device c.args.disk) (g.D.Disk.device c.read.new.self)
    (g.D.Disk.planned c.read.new.self) c.args.job c.open.result same c.open.ensures.refused

pub returns-in-Ok-2-clause-failed : goal.returns-in-Ok-2-clause-failed
returns-in-Ok-2-clause-failed g c =
    let same = ap (λ (x : Device). x.failures) c.in-Ok-2.ensures.ok in
    failed_found g.D.Disk.device (g.D.Disk.device c.args.disk) (g.D.Disk.device c.read.new.self)
    (g.D.Disk.planned c.read.new.self) c.open.result same c.open.ensures.stopped

pub returns-in-Ok-2-clause-passed : goal.returns-in-Ok-2-clause-passed
returns-in-Ok-2-clause-passed g c =
    let same = ap (λ (x : Device). x.failures) c.in-Ok-2.ensures.ok in
    passed_opened g.D.Disk.device g.D.Disk.planned (g.D.Disk.device c.args.disk) (g.D.Disk.device c.read.new.self)
    (g.D.Disk.planned c.read.new.self) c.open.result same c.open.ensures.calls

pub returns-in-Ok-clause-counted : goal.returns-in-Ok-clause-counted
returns-in-Ok-clause-counted g c = new_counted g.D.Disk.device
    (g.D.Disk.device c.args.disk) c.make_store.result c.make_store.ensures.counted

pub returns-in-Ok-2-clause-counted : goal.returns-in-Ok-2-clause-counted
returns-in-Ok-2-clause-counted g c =
    let same = ap (λ (x : Device). x.file) c.in-Ok-2.ensures.ok in
    opened_counted g.D.Disk.device g.D.Disk.planned (g.D.Disk.device c.args.disk) (g.D.Disk.device c.read.new.self)
    (g.D.Disk.planned c.read.new.self) same c.open.result c.open.ensures.calls

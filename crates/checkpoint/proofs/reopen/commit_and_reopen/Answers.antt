use Rattle.std.proofs.Common.{◌+◌, sym, ◌∙◌, ap, subst}
use Rattle.disk.specs.File.{CrashLeaves, bytes_of}
use Rattle.checkpoint.specs.Commit.{next_of}
use Rattle.checkpoint.specs.Format.{IsNew}
use Rattle.checkpoint.specs.Moments.{KeepsEither}
use Rattle.checkpoint.proofs.Reopened.{back_crashed, crash_reads, crash_keeps, opened_crashed, opened_either, opened_one, opened_kept, refused_alone}
use Rattle.checkpoint.proofs.Results.{ok_told}
use Rattle.checkpoint.proofs.reopen.commit_and_reopen.Goals as goal

pub returns-clause-found : goal.returns-clause-found
returns-clause-found g c keeps =
    let device = g.D.Disk.device in
    let disk = c.into_disk-disk.result in
    let crashed = c.crash.new.self in
    let store = c.args.store in
    let left = crash_reads (device disk) (device crashed) c.crash.ensures.crashed
    (λ e. ap device (c.crash.ensures.unmoved e)) in
    let either = c.commit-answer.ensures.either keeps (bytes_of (device crashed).file)
    (subst (λ d. CrashLeaves (device d).file (bytes_of (device crashed).file)) c.into_disk-disk.ensures left) in
    opened_either device g.D.Disk.planned (device crashed)
    (g.D.Disk.planned crashed) c.open.result store.sequence store.«record»
    (next_of store.«record» c.args.epoch c.args.outcome) c.open.ensures.calls either

pub returns-clause-committed : goal.returns-clause-committed
returns-clause-committed g c keeps done =
    let device = g.D.Disk.device in
    let disk = c.into_disk-disk.result in
    let crashed = c.crash.new.self in
    let store = c.args.store in
    let next = next_of store.«record» c.args.epoch c.args.outcome in
    let left = crash_reads (device disk) (device crashed) c.crash.ensures.crashed
    (λ e. ap device (c.crash.ensures.unmoved e)) in
    let kept = ok_told c.commit-answer.result done (c.commit-answer.ensures.kept keeps) in
    let is = ok_told c.commit-answer.result done c.commit-answer.ensures.ok in
    let reads = kept.each (bytes_of (device crashed).file)
    (subst (λ d. CrashLeaves (device d).file (bytes_of (device crashed).file)) c.into_disk-disk.ensures left) in
    let found = subst (λ r. IsNew (bytes_of (device crashed).file) kept.second c.commit-answer.new.self.sequence r)
    (ap (λ s. s.«record») is) reads in
    opened_one device g.D.Disk.planned (device crashed)
    (g.D.Disk.planned crashed) c.open.result c.commit-answer.new.self.sequence next c.open.ensures.calls
    (kept.second, found)

pub returns-clause-kept : goal.returns-clause-kept
returns-clause-kept g c keeps cut =
    let device = g.D.Disk.device in
    let disk = c.into_disk-disk.result in
    let crashed = c.crash.new.self in
    let store = c.args.store in
    let next = next_of store.«record» c.args.epoch c.args.outcome in
    let can = ap (λ d. (device d).can_cut) c.into_disk-disk.ensures ∙ c.commit-answer.ensures.can_cut ∙ cut in
    let either = subst (λ d. KeepsEither (device d).file store.sequence store.«record» next)
    (sym c.into_disk-disk.ensures) (c.commit-answer.ensures.either keeps) in
    let found = crash_keeps (device disk) (device crashed) store.sequence store.«record» next
    (c.crash.ensures.crashed can) either in
    opened_kept device c.open.result (device crashed) store.sequence
    (store.sequence + 1) store.«record» next c.open.ensures.kept found

pub returns-clause-refused : goal.returns-clause-refused
returns-clause-refused g c keeps =
    let device = g.D.Disk.device in
    let disk = c.into_disk-disk.result in
    let crashed = c.crash.new.self in
    let store = c.args.store in
    let next = next_of store.«record» c.args.epoch c.args.outcome in
    let left = crash_reads (device disk) (device crashed) c.crash.ensures.crashed
    (λ e. ap device (c.crash.ensures.unmoved e)) in
    let either = c.commit-answer.ensures.either keeps (bytes_of (device crashed).file)
    (subst (λ d. CrashLeaves (device d).file (bytes_of (device crashed).file)) c.into_disk-disk.ensures left) in
    let job = ap (λ r. r.job) (sym c.«record».ensures.same) in
    refused_alone device c.open.result (device crashed)
    (g.D.Disk.planned crashed) c.«record».result.now.job store.sequence store.«record» next
    c.open.ensures.refused job job either

pub returns-clause-crashed : goal.returns-clause-crashed
returns-clause-crashed g c cut =
    let device = g.D.Disk.device in
    let disk = c.into_disk-disk.result in
    let can = ap (λ d. (device d).can_cut) c.into_disk-disk.ensures ∙ c.commit-answer.ensures.can_cut ∙ cut in
    opened_crashed device g.D.Disk.planned c.open.result (device disk) (device c.crash.new.self)
    (g.D.Disk.planned c.crash.new.self) (c.crash.ensures.crashed can) c.open.ensures.calls

pub returns-clause-crashed_back : goal.returns-clause-crashed_back
returns-clause-crashed_back g c cut =
    let device = g.D.Disk.device in
    let disk = c.into_disk-disk.result in
    let can = ap (λ d. (device d).can_cut) c.into_disk-disk.ensures ∙ c.commit-answer.ensures.can_cut ∙ cut in
    back_crashed device c.open.result (device disk) (device c.crash.new.self)
    (g.D.Disk.planned c.crash.new.self) c.«record».result.now.job
    (c.crash.ensures.crashed can) c.open.ensures.refused c.open.ensures.stopped

use Rattle.std.proofs.Common.{sym}
use Rattle.checkpoint.specs.Commit.{next_of}
use Rattle.checkpoint.specs.declared.record.StoreError.TheVariants as store_error
use Rattle.clearinghouse.proofs.Opening.{is_open, is_opened, is_refused, next_is, not_refused, still_either}
use Rattle.clearinghouse.proofs.house.begin_epoch.Goals as goal

pub invariant_of-result : goal.invariant_of-result
invariant_of-result g c =
    let kept = c.record-kept.result.now in
    is_open c.args.job.now c.args.store c.commit.new.self c.args.limit c.at.result c.sequence-sequence.result kept
    c.opened.result c.requires.own c.record-kept.ensures.same c.sequence-sequence.ensures
    (rw (c.copied-saved.ensures, sym c.at.ensures) at c.opened.ensures) c.in-Ok.ensures.ok

pub returns-in-Ok-clause-opened : goal.returns-in-Ok-clause-opened
returns-in-Ok-clause-opened g c disk found =
    let s = c.args.store in
    let kept = c.record-kept.result.now in
    let next = next_is g.D.Disk.device g.D.Disk.planned c.args.job.now disk s c.args.epoch found kept c.at.result
    c.record-kept.ensures.same c.at.ensures in
    is_opened g.D.Disk.device g.D.Disk.planned c.args.job.now disk s c.args.epoch found c.commit.new.self
    (next_of s.«record» c.at.result kept.outcome) next c.args.limit c.opened.result
    (rw (
      c.copied-saved.ensures,
      c.record-kept.ensures.same,
      c.sequence-sequence.ensures,
      found.next,
    ) at c.opened.ensures)
    c.in-Ok.ensures.ok c.in-Ok.ensures.calls c.in-Ok.ensures.plan c.in-Ok.ensures.kept
    (λ spent. not_refused store_error.Spent (c.in-Ok.ensures.spent.1 spent))

pub returns-in-Err-clause-refused : goal.returns-in-Err-clause-refused
returns-in-Err-clause-refused g c disk found =
    let s = c.args.store in
    let kept = c.record-kept.result.now in
    let said = c.in-Err.ensures in
    let next = next_is g.D.Disk.device g.D.Disk.planned c.args.job.now disk s c.args.epoch found kept c.at.result
    c.record-kept.ensures.same c.at.ensures in
    rw c.from.ensures (is_refused g.D.Disk.device g.D.Disk.planned c.args.job.now disk s c.args.epoch found
    c.commit.new.self (next_of s.«record» c.at.result kept.outcome) next c.in-Err.fault c.into_disk.result
    c.into_disk.ensures said.refused said.spent said.unchanged said.stopped)

pub returns-in-Err-clause-kept_back : goal.returns-in-Err-clause-kept_back
returns-in-Err-clause-kept_back g c disk found n r keeps =
    let s = c.args.store in
    let kept = c.record-kept.result.now in
    let next = next_is g.D.Disk.device g.D.Disk.planned c.args.job.now disk s c.args.epoch found kept c.at.result
    c.record-kept.ensures.same c.at.ensures in
    still_either g.D.Disk.device g.D.Disk.planned c.args.job.now disk s c.args.epoch found c.commit.new.self
    (next_of s.«record» c.at.result kept.outcome) c.into_disk.result next c.into_disk.ensures
    c.in-Err.ensures.either n r keeps

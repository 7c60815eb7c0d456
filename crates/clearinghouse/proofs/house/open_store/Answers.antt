use Rattle.std.proofs.Common.{◌∙◌, sym}
use Rattle.clearinghouse.proofs.Opening.{is_found, kept_content, last_epoch, not_opened, refused_store, told_alone}
use Rattle.clearinghouse.proofs.house.open_store.Goals as goal

pub returns-in-Err-clause-refused : goal.returns-in-Err-clause-refused
returns-in-Err-clause-refused g c =
    rw (c.from.ensures) (refused_store g.D.Disk.device g.D.Disk.planned c.args.job.now c.args.disk c.in-Err.fault
    c.in-Err.disk (rw c.number.ensures at c.in-Err.ensures.refused) c.in-Err.ensures.stopped)

pub returns-in-Err-clause-alone : goal.returns-in-Err-clause-alone
returns-in-Err-clause-alone g c n r reads own =
    rw (c.from.ensures) (told_alone c.in-Err.fault (c.in-Err.ensures.alone n r reads (own ∙ sym c.number.ensures)))

pub returns-in-Err-clause-kept_back : goal.returns-in-Err-clause-kept_back
returns-in-Err-clause-kept_back g c n r keeps =
    kept_content (g.D.Disk.device c.in-Err.disk) n r (c.in-Err.ensures.kept_back n r keeps)

pub returns-in_default-clause-refused : goal.returns-in_default-clause-refused
returns-in_default-clause-refused g c =
    let s = c.in-Ok.looked in
    last_epoch g.D.Disk.device g.D.Disk.planned c.args.job.now c.args.disk s c.number.result c.in-Ok.ensures.found
    c.number.ensures c.in-Ok.ensures.calls c.in-Ok.ensures.plan
    (rw c.«record».ensures.same at c.in_default.ensures) c.into_disk.result c.into_disk.ensures

pub returns-in_default-clause-kept_back : goal.returns-in_default-clause-kept_back
returns-in_default-clause-kept_back g c n r keeps =
    let kept = c.in-Ok.ensures.kept n r keeps in
    rw (c.into_disk.ensures, sym kept.1)
    (kept_content (g.D.Disk.device c.in-Ok.looked.disk) c.in-Ok.looked.sequence c.in-Ok.looked.«record» kept.0)

pub returns-in-Ok-open-clause-found : goal.returns-in-Ok-open-clause-found
returns-in-Ok-open-clause-found g c =
    let s = c.in-Ok.looked in
    is_found g.D.Disk.device g.D.Disk.planned c.args.job.now c.args.disk s c.number.result c.in-Ok.ensures.found
    c.number.ensures c.in-Ok.ensures.calls c.in-Ok.ensures.plan c.in-Some.epoch
    (rw c.«record».ensures.same at c.in-Some.ensures)
    (rw c.sequence-sequence.ensures at c.sequence-sequence.type_inv) c.in-Ok-open.store c.in-Ok.ensures.kept
    c.in-Ok-open.ensures.opened c.in-Ok-open.ensures.calls c.in-Ok-open.ensures.kept

pub returns-in-Err-open-clause-refused : goal.returns-in-Err-open-clause-refused
returns-in-Err-open-clause-refused g c =
    let s = c.in-Ok.looked in
    rw (c.from-in-Err-open.ensures) (not_opened g.D.Disk.device g.D.Disk.planned c.args.job.now c.args.disk s
    c.number.result c.in-Ok.ensures.found c.number.ensures c.in-Ok.ensures.calls c.in-Ok.ensures.plan
    c.in-Some.epoch (rw c.«record».ensures.same at c.in-Some.ensures)
    (rw c.sequence-sequence.ensures at c.sequence-sequence.type_inv) c.in-Err-open.fault c.in-Err-open.disk
    c.in-Err-open.ensures.refused c.in-Err-open.ensures.spent c.in-Err-open.ensures.stopped)

pub returns-in-Err-open-clause-kept_back : goal.returns-in-Err-open-clause-kept_back
returns-in-Err-open-clause-kept_back g c n r keeps =
    let kept = c.in-Ok.ensures.kept n r keeps in
    rw (sym kept.1) (c.in-Err-open.ensures.kept_back kept.0)

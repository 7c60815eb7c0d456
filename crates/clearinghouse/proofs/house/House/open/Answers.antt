use Rattle.std.proofs.Common.{◌+◌}
use Rattle.checkpoint.specs.Commit.{next_of}
use Rattle.clearinghouse.proofs.Opening.{as_content, err_applied, ok_applied}
use Rattle.clearinghouse.proofs.house.House.open.Goals as goal

pub returns-in-Ok-clause-opened : goal.returns-in-Ok-clause-opened
returns-in-Ok-clause-opened g c = ok_applied c.begin_epoch.result
    (λ h all. all c.args.disk c.in-Ok.ensures.found) c.begin_epoch.ensures.opened

pub returns-in-Ok-clause-refused : goal.returns-in-Ok-clause-refused
returns-in-Ok-clause-refused g c = err_applied c.begin_epoch.result
    (λ e all. all c.args.disk c.in-Ok.ensures.found) c.begin_epoch.ensures.refused

pub returns-in-Ok-clause-kept_back : goal.returns-in-Ok-clause-kept_back
returns-in-Ok-clause-kept_back g c =
    err_applied c.begin_epoch.result (λ e all. all c.args.disk c.in-Ok.ensures.found) c.begin_epoch.ensures.kept_back

pub returns-in-Err-clause-kept_back : goal.returns-in-Err-clause-kept_back
returns-in-Err-clause-kept_back g c n r keeps =
    as_content (g.D.Disk.device c.in-Err.refused.1) r (next_of r (r.epoch + 1) r.outcome)
    (c.in-Err.ensures.kept_back n r keeps)

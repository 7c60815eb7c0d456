use Rattle.packet_fields.specs.Fields as field
use Rattle.packet_fields.specs.Fields.{stolen}
use Rattle.packet_fields.proofs.Writing.{five_parts}
use Rattle.packet_fields.proofs.write.stolen.Goals as goal

pub returns : goal.returns
unfolding stolen
returns c next last =
    let r = c.args.lent.now in
    five_parts c.args.out.now.items c.grant.new.out.items c.worker.new.out.items c.below.new.out.items
    c.task.new.out.items c.goes_to.new.out.items
    (field.grant.write r.grant) (field.worker.write r.holder) ((field.below next).write r.frame)
    (field.task.write r.task) ((field.goes_to next).write r.returns)
    c.in_ok-grant.ensures c.in_ok-worker.ensures (c.in_ok-below.ensures next) c.in_ok-task.ensures
    (c.in_ok-goes_to.ensures next)

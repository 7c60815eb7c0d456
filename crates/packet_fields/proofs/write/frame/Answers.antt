use Rattle.packet_fields.specs.Fields as field
use Rattle.packet_fields.specs.Fields.{frame}
use Rattle.packet_fields.proofs.Writing.{five_parts}
use Rattle.packet_fields.proofs.write.frame.Goals as goal

pub returns : goal.returns
unfolding frame
returns c next last =
    let f = c.args.frame.now in
    five_parts c.args.out.now.items c.below.new.out.items c.place.new.out.items c.thread.new.out.items
    c.slots.new.out.items c.goes_to.new.out.items
    ((field.below next).write f.number) (field.place.write f.place) (field.thread.write f.thread)
    (field.slots.write f.slots) ((field.goes_to next).write f.returns)
    (c.in_ok-below.ensures next) c.in_ok-place.ensures c.in_ok-thread.ensures c.in_ok-slots.ensures
    (c.in_ok-goes_to.ensures next)

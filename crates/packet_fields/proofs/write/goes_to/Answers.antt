use Rattle.byteorder.specs.Endian.{big_bytes}
use Rattle.packet_fields.specs.Fields.{below, goes_to}
use Rattle.packet_fields.proofs.Writing.{three_parts}
use Rattle.packet_fields.proofs.write.goes_to.Goals as goal

pub returns-in_ok-byte-in-Local-2 : goal.returns-in_ok-byte-in-Local-2
unfolding goes_to
returns-in_ok-byte-in-Local-2 c next =
    rw c.in-Local.is
    (three_parts c.args.out.now.items c.byte-in-Local.new.out.items c.below.new.out.items
    c.byte-in-Local-2.new.out.items
    (big_bytes 1 1) ((below next).write c.in-Local.frame) (big_bytes 1 c.in-Local.slot)
    c.in_ok-byte-in-Local.ensures (c.in_ok-below-in-Local.ensures next) c.in_ok-byte-in-Local-2.ensures)

use Rattle.byteorder.specs.Endian.{big_bytes}
use Rattle.packet_fields.specs.Fields.{other_worker, status}
use Rattle.packet_fields.proofs.Writing.{two_parts}
use Rattle.packet_fields.proofs.write.status.Goals as goal

pub returns-in_ok-other_worker-in-Left : goal.returns-in_ok-other_worker-in-Left
unfolding status
returns-in_ok-other_worker-in-Left c own =
    rw c.in-Left.is
    (two_parts c.args.out.now.items c.byte-in-Left.new.out.items c.other_worker.new.out.items (big_bytes 1 2)
    ((other_worker own).write c.in-Left.heir)
    c.in_ok-byte-in-Left.ensures (c.in_ok-other_worker-in-Left.ensures own))

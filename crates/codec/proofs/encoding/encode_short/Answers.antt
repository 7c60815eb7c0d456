-- What was put is the packet's one spelling, and its kind takes few bytes.
use Rattle.codec.proofs.Lengths.{is_written_short}
use Rattle.codec.proofs.encoding.encode_short.Goals as goal

pub returns-clause-spelled : goal.returns-clause-spelled
returns-clause-spelled c =
    is_written_short c.args.packet.now c.in_ok-bytes.bytes.items c.put.new.out.items c.in_ok-bytes.ensures.items
    c.in_ok-put.ensures.written c.in_ok-put.ensures.fits c.body.ensures.packet c.requires

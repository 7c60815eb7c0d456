use Rattle.codec.proofs.Datagrams.{spelled_is, spelled_so}
use Rattle.codec.proofs.datagram.Datagram.of.Goals as goal

pub invariant_of-result : goal.invariant_of-result
invariant_of-result c = spelled_so c.in_ok-bytes.bytes.items c.args.packet.now c.in_ok-bytes.ensures.written

pub returns-clause-packet : goal.returns-clause-packet
returns-clause-packet c = spelled_is c.in_ok-bytes.bytes.items c.args.packet.now c.in_ok-bytes.ensures.written

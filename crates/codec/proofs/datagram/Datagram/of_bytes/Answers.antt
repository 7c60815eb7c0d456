use Rattle.codec.proofs.Datagrams.{spelled_is, spelled_so}
use Rattle.codec.proofs.datagram.Datagram.of_bytes.Goals as goal

pub invariant_of-result : goal.invariant_of-result
invariant_of-result c = spelled_so c.args.bytes.items c.requires.0 c.requires.1

pub returns : goal.returns
returns c = λ p s. spelled_is c.args.bytes.items p s

use Rattle.codec.proofs.Datagrams.{reads_back}
use Rattle.codec.proofs.datagram.Datagram.as_bytes.Goals as goal

pub returns-clause-read : goal.returns-clause-read
returns-clause-read c = rw (c.as_slice.ensures.value, ← c.self.view_is)
    (reads_back c.self.inside.bytes.items c.self.invariant)

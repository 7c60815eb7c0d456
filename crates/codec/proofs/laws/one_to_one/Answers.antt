-- The laws of the packet's format, over all of the bytes.
use Rattle.codec.proofs.TableLaws.{made_spelled, one_packet, one_spelling, spelled_made}
use Rattle.codec.proofs.laws.one_to_one.Goals as goal

pub returns-clause-spelling : goal.returns-clause-spelling
returns-clause-spelling c = one_spelling

pub returns-clause-packet : goal.returns-clause-packet
returns-clause-packet c = one_packet

pub returns-clause-made : goal.returns-clause-made
returns-clause-made c = spelled_made

pub returns-clause-spelled : goal.returns-clause-spelled
returns-clause-spelled c = made_spelled

-- The cases of the table, and moments.
use Rattle.clearinghouse.proofs.Keeping.{opened_house, moment_keeps, packet_keeps}
use Rattle.clearinghouse.proofs.laws.each_step.Goals as goal

pub returns-clause-packet : goal.returns-clause-packet
returns-clause-packet c = packet_keeps

pub returns-clause-moment : goal.returns-clause-moment
returns-clause-moment c = moment_keeps

pub returns-clause-opened : goal.returns-clause-opened
returns-clause-opened c = opened_house

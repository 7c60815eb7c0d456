use Rattle.actor_laws.proofs.standing.HouseRows.{moment_stands, opening_stands, root_stands}
use Rattle.actor_laws.proofs.standing.house.what_the_clearinghouse_does_stands.Goals as goal

pub returns-clause-packets : goal.returns-clause-packets
returns-clause-packets c = λ job h p stands. root_stands job h stands p

pub returns-clause-moments : goal.returns-clause-moments
returns-clause-moments c = λ job h now stands. moment_stands job h stands now

pub returns-clause-opening : goal.returns-clause-opening
returns-clause-opening c = λ limit k. opening_stands limit k

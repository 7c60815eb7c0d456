use Rattle.move_laws.proofs.Resolving.{resolved, dead_end}
use Rattle.move_laws.proofs.laws.heirs_of_members_are_those_of_tables.Goals as goal

pub returns-clause-resolved : goal.returns-clause-resolved
returns-clause-resolved c = λ r members i h shows is. resolved r members shows i h is

pub returns-clause-dead_end : goal.returns-clause-dead_end
returns-clause-dead_end c = λ r members i shows all none. dead_end r members shows i all none

use Rattle.kind_check.proofs.EqualKinds.{faults_alike, turns_alike, takes_alike}
use Rattle.kind_check.proofs.laws.equal_programs_are_alike.Goals as goal

pub returns-clause-faults : goal.returns-clause-faults
returns-clause-faults c = λ p q e. faults_alike p q e

pub returns-clause-turns : goal.returns-clause-turns
returns-clause-turns c = λ p q e t numbers. turns_alike p q e t numbers

pub returns-clause-takes : goal.returns-clause-takes
returns-clause-takes c = λ p q e t count takes. takes_alike p q e t count takes

use Rattle.table_laws.proofs.SounderJoins.{cause_changes, cause_records}
use Rattle.table_laws.proofs.laws.each_cause_is_a_change.Goals as goal

pub returns-clause-records : goal.returns-clause-records
returns-clause-records c = λ m v i g k d e fill n cause is. cause_records m v i g d e fill cause n k is

pub returns-clause-slots : goal.returns-clause-slots
returns-clause-slots c = λ m v i g d e fill cause. cause_changes m v i g d e fill cause

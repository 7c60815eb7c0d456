use Rattle.table_laws.proofs.TasksKept.{tasks_reached}
use Rattle.table_laws.proofs.laws.a_grant_is_one_task.Goals as goal

pub returns-clause-everywhere : goal.returns-clause-everywhere
returns-clause-everywhere c = λ v g c d reached a b. (tasks_reached reached).one_task g c d a b

pub returns-clause-record : goal.returns-clause-record
returns-clause-record c = λ v g k c d n reached a e b. (tasks_reached reached).record_task g k c d n a e b

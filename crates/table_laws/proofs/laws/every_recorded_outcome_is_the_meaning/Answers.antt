use Rattle.std.proofs.Common.{ap}
use Rattle.serial_meaning.specs.Places.{outcome_of}
use Rattle.table_laws.specs.Program.{program_meaning}
use Rattle.table_laws.proofs.ProgramMeaning.{program_serial}
use Rattle.table_laws.proofs.TasksKept.{tasks_reached}
use Rattle.table_laws.proofs.ValuesKept.{values_run}
use Rattle.table_laws.proofs.laws.every_recorded_outcome_is_the_meaning.Goals as goal

pub returns-clause-meaning : goal.returns-clause-meaning
returns-clause-meaning c = λ m v o law run e. (values_run m law run).stored_agrees o e

pub returns-clause-once : goal.returns-clause-once
returns-clause-once c = λ v k reached e. (tasks_reached reached).root_open k e

pub returns-clause-program : goal.returns-clause-program
returns-clause-program c = λ p input v o run e.
    ap outcome_of ((values_run (program_meaning p input) (program_serial p input) run).stored_agrees o e)

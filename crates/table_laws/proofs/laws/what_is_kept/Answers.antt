use Rattle.table_laws.proofs.NamesReached.{names_reached}
use Rattle.table_laws.proofs.FillsKept.{fills_reached}
use Rattle.table_laws.proofs.LeaversKept.{leavers_reached}
use Rattle.table_laws.proofs.HomesKept.{homes_reached}
use Rattle.table_laws.proofs.RootedKept.{rooted_reached}
use Rattle.table_laws.proofs.KinReached.{kin_reached}
use Rattle.table_laws.proofs.RequestsReached.{requests_reached}
use Rattle.table_laws.proofs.CasesReached.{cases_reached}
use Rattle.table_laws.proofs.RostersReached.{rosters_reached}
use Rattle.table_laws.proofs.KnownKept.{known_reached}
use Rattle.table_laws.proofs.LaterKept.{later_reached}
use Rattle.table_laws.proofs.TasksKept.{tasks_reached}
use Rattle.table_laws.proofs.EpochsKept.{epochs_reached}
use Rattle.table_laws.proofs.HeirsKept.{heirs_reached}
use Rattle.table_laws.proofs.ValuesKept.{run_reached, values_run}
use Rattle.table_laws.proofs.laws.what_is_kept.Goals as goal

pub returns-clause-names : goal.returns-clause-names
returns-clause-names c = λ v reached. names_reached reached

pub returns-clause-fills : goal.returns-clause-fills
returns-clause-fills c = λ v reached. fills_reached reached

pub returns-clause-leavers : goal.returns-clause-leavers
returns-clause-leavers c = λ v reached. leavers_reached reached

pub returns-clause-homes : goal.returns-clause-homes
returns-clause-homes c = λ v reached. homes_reached reached

pub returns-clause-rooted : goal.returns-clause-rooted
returns-clause-rooted c = λ v reached. rooted_reached reached

pub returns-clause-kin : goal.returns-clause-kin
returns-clause-kin c = λ v reached. kin_reached reached

pub returns-clause-requests : goal.returns-clause-requests
returns-clause-requests c = λ v reached. requests_reached reached

pub returns-clause-cases : goal.returns-clause-cases
returns-clause-cases c = λ v reached. cases_reached reached

pub returns-clause-rosters : goal.returns-clause-rosters
returns-clause-rosters c = λ v reached. rosters_reached reached

pub returns-clause-known : goal.returns-clause-known
returns-clause-known c = λ v reached. known_reached reached

pub returns-clause-later : goal.returns-clause-later
returns-clause-later c = λ v reached. later_reached reached

pub returns-clause-tasks : goal.returns-clause-tasks
returns-clause-tasks c = λ v reached. tasks_reached reached

pub returns-clause-epochs : goal.returns-clause-epochs
returns-clause-epochs c = λ v reached. epochs_reached reached

pub returns-clause-heirs : goal.returns-clause-heirs
returns-clause-heirs c = λ v reached. heirs_reached reached

pub returns-clause-values : goal.returns-clause-values
returns-clause-values c = λ m v law run. values_run m law run

pub returns-clause-reached : goal.returns-clause-reached
returns-clause-reached c = λ m v run. run_reached run

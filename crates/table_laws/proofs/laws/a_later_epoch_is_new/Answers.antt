use Rattle.std.proofs.Common.{arith}
use Rattle.table_laws.proofs.EpochsKept.{epochs_reached, name_new}
use Rattle.table_laws.proofs.laws.a_later_epoch_is_new.Goals as goal

pub returns-clause-now : goal.returns-clause-now
returns-clause-now c = λ v house reached e. (epochs_reached reached).house_now house e

pub returns-clause-name : goal.returns-clause-name
returns-clause-name c = λ v epoch reached later used. name_new v (epochs_reached reached) epoch later used

pub returns-clause-rosters : goal.returns-clause-rosters
returns-clause-rosters c = λ v r epoch reached later m. let past =
    (epochs_reached reached).rosters_past r m in omega (arith, past, later)

pub returns-clause-leaves : goal.returns-clause-leaves
returns-clause-leaves c = λ v l epoch reached later m. let past =
    (epochs_reached reached).leaves_past l m in omega (arith, past, later)

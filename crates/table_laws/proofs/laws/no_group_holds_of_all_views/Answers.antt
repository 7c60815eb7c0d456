use Rattle.table_laws.proofs.Outside.{ahead, not_epochs, circle, not_heirs, filled_twice, granted_twice, holding, joins_answered, left_holding, member_house, not_cases, not_fills, not_homes, not_kin, not_known, not_later, not_leavers, not_names, not_requests, not_rooted, not_rosters, not_tasks, not_values, record_settled, recorded_early, recorded_wrong, root_alone, waits_unasked}
use Rattle.table_laws.proofs.laws.no_group_holds_of_all_views.Goals as goal

pub returns-clause-names : goal.returns-clause-names
returns-clause-names c = (granted_twice, not_names)

pub returns-clause-fills : goal.returns-clause-fills
returns-clause-fills c = (filled_twice, not_fills)

pub returns-clause-leavers : goal.returns-clause-leavers
returns-clause-leavers c = (left_holding, not_leavers)

pub returns-clause-homes : goal.returns-clause-homes
returns-clause-homes c = (member_house, not_homes)

pub returns-clause-rooted : goal.returns-clause-rooted
returns-clause-rooted c = (root_alone, not_rooted)

pub returns-clause-kin : goal.returns-clause-kin
returns-clause-kin c = (record_settled, not_kin)

pub returns-clause-requests : goal.returns-clause-requests
returns-clause-requests c = (waits_unasked, not_requests)

pub returns-clause-cases : goal.returns-clause-cases
returns-clause-cases c = (holding, not_cases)

pub returns-clause-rosters : goal.returns-clause-rosters
returns-clause-rosters c = (holding, not_rosters)

pub returns-clause-known : goal.returns-clause-known
returns-clause-known c = (joins_answered, not_known)

pub returns-clause-later : goal.returns-clause-later
returns-clause-later c = (holding, not_later)

pub returns-clause-tasks : goal.returns-clause-tasks
returns-clause-tasks c = (recorded_early, not_tasks)

pub returns-clause-epochs : goal.returns-clause-epochs
returns-clause-epochs c = (ahead, not_epochs)

pub returns-clause-heirs : goal.returns-clause-heirs
returns-clause-heirs c = (circle, not_heirs)

pub returns-clause-values : goal.returns-clause-values
returns-clause-values c = λ m. (recorded_wrong m, not_values m)

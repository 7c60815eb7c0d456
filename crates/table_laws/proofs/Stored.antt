-- A recorded outcome stays.
use Rattle.std.proofs.Common.{◌≡◌, ℤ, Option, Some}
use Rattle.table_laws.specs.View.{View}
use Rattle.table_laws.specs.Acts.{Act, starts, admits, adopts, fails, goes, marks_lost, opens, grants_root, closes_root, commits, publishes, closes, asks, refuses, grants, takes_grant, hears_refuse, gives_up, freezes, takes_offer, acknowledges, releases, leaves, alters, drops, renames, settles, settles_at_house, ReachedInTables, by_act}
use Rattle.table_laws.specs.Tasks.{Tasks}
use Rattle.table_laws.specs.Runs.{Leads, stays_at, leads_on}
use Rattle.table_laws.proofs.TasksKept.{tasks_reached}

-- a house records an outcome only where it has a root record, and so where none is recorded
stays : {v w : View} → Act v w → Tasks v → (o : Option ℤ) → v.stored ≡ Some o → w.stored ≡ Some o
stays (commits i k x may) t o e = let none = t.root_open k may.recorded in cc
stays (starts i new worker) t o e = e
stays (admits i roster joins listed) t o e = e
stays (adopts i old roster may) t o e = e
stays (fails i may) t o e = e
stays (goes i said) t o e = e
stays (marks_lost i used worker lost) t o e = e
stays (opens i lost roster may) t o e = e
stays (grants_root i thief seq c house new may begins) t o e = e
stays (closes_root k is) t o e = e
stays (publishes house roster may) t o e = e
stays (closes i house) t o e = e
stays (asks i victim may) t o e = e
stays (refuses i thief seq works may) t o e = e
stays (grants i g s m thief seq c here may begins frame) t o e = e
stays (takes_grant i u may hop asked) t o e = e
stays (hears_refuse i x refused thief asked) t o e = e
stays (gives_up i why) t o e = e
stays (freezes i heir offers may) t o e = e
stays (takes_offer i u hop may is) t o e = e
stays (acknowledges u there seen works) t o e = e
stays (releases i heir g s may) t o e = e
stays (leaves i heir roster keeps may) t o e = e
stays (alters i g s c fill results gone here change is) t o e = e
stays (drops i g s gone here had why) t o e = e
stays (renames i g s roster host here listed way) t o e = e
stays (settles i g may) t o e = e
stays (settles_at_house i g may) t o e = e

pub leads_reached : {v w : View} → ReachedInTables v → Leads v w → ReachedInTables w
leads_reached r stays_at = r
leads_reached r (leads_on way act) = by_act (leads_reached r way) act

pub stored_stays : {v w : View} → ReachedInTables v → Leads v w → (o : Option ℤ) → v.stored ≡ Some o → w.stored ≡ Some o
stored_stays r stays_at o e = e
stored_stays r (leads_on way act) o e = stays act (tasks_reached (leads_reached r way)) o (stored_stays r way o e)

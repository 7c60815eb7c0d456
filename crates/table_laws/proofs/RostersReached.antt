-- Each move keeps the rosters in order; so they are in each view that moves lead to.
use Rattle.std.proofs.Common.{Option, ℤ, ℕ, refl}
use Rattle.table_laws.specs.View.{View, first_over}
use Rattle.table_laws.specs.Acts.{Act, starts, admits, adopts, fails, goes, marks_lost, opens, grants_root, closes_root, commits, publishes, closes, asks, refuses, grants, takes_grant, hears_refuse, gives_up, freezes, takes_offer, acknowledges, releases, leaves, alters, drops, renames, settles, settles_at_house, ReachedInTables, at_first, by_act}
use Rattle.table_laws.specs.Names.{Names}
use Rattle.table_laws.specs.Leavers.{Leavers}
use Rattle.table_laws.specs.Rosters.{Rosters}
use Rattle.table_laws.proofs.NamesReached.{names_reached}
use Rattle.table_laws.proofs.LeaversKept.{leavers_reached}
use Rattle.table_laws.proofs.RostersKept.{rosters_start, rosters_admit, rosters_adopt, rosters_stop, rosters_mark_lost, rosters_fail, rosters_freeze, rosters_leave, rosters_publish, rosters_open, rosters_close}

pub rosters_kept : {v w : View} → Act v w → Names v → Leavers v → Rosters v → Rosters w
rosters_kept {v} (starts i new worker) n l k = rosters_start v i new n k
rosters_kept {v} (admits i roster joins listed) n l k = rosters_admit v i roster joins listed l k
rosters_kept {v} (adopts i old roster may) n l k = rosters_adopt v i old roster may k
rosters_kept {v} (fails i may) n l k = rosters_fail v i may n k
rosters_kept {v} (goes i said) n l k = rosters_stop v i k
rosters_kept {v} (marks_lost i used worker lost) n l k = rosters_mark_lost v i used lost k
rosters_kept {v} (opens i lost roster may) n l k = rosters_open v i lost roster may n k
rosters_kept (grants_root i thief seq c house new may begins) n l k = assumption k
rosters_kept (closes_root root is) n l k = assumption k
rosters_kept (commits i root o may) n l k = assumption k
rosters_kept {v} (publishes house roster may) n l k = rosters_publish v house roster may k
rosters_kept {v} (closes i house) n l k = rosters_close v i k
rosters_kept (asks i victim may) n l k = assumption k
rosters_kept (refuses i thief seq works may) n l k = assumption k
rosters_kept (grants i g s m thief seq c here may begins frame) n l k = assumption k
rosters_kept (takes_grant i t may hop asked) n l k = assumption k
rosters_kept (hears_refuse i x refused thief asked) n l k = assumption k
rosters_kept (gives_up i why) n l k = assumption k
rosters_kept {v} (freezes i heir offers may) n l k = let moved =
    rosters_freeze v i heir may.member k in assumption moved
rosters_kept (takes_offer i t hop may is) n l k = assumption k
rosters_kept (acknowledges t there seen works) n l k = assumption k
rosters_kept (releases i heir g s may) n l k = assumption k
rosters_kept {v} (leaves i heir roster keeps may) n l k = rosters_leave v i heir roster may.leaving keeps k
rosters_kept (alters i g s c fill results gone here change is) n l k = assumption k
rosters_kept (drops i g s gone here had why) n l k = assumption k
rosters_kept (renames i g s roster host here listed way) n l k = assumption k
rosters_kept (settles i g may) n l k = assumption k
rosters_kept (settles_at_house i g may) n l k = assumption k

rosters_first : (epoch : ℕ) (stored : Option (Option ℤ)) → Rosters (first_over epoch stored)
rosters_first epoch stored = record {
  member_keeps = λ i e. cc;
  leaver_keeps = λ i heir e. cc;
  joins_without = λ i e. refl;
  kept_had = λ i r e. cc;
  members = λ r i m. absurd m;
  house_had = λ house e. cc;
  leave_epoch = λ l r m. absurd m;
  left_to = λ r i heir m. absurd m;
  house_left = λ house i heir e. cc;
  house_last = λ house r e. cc;
  house_grows = λ house r e. cc;
  grows = λ r s m. absurd m;
  lost_used = λ i m. absurd m;
  lost_true = λ house i e m. absurd m;
}

pub rosters_reached : {v : View} → ReachedInTables v → Rosters v
rosters_reached (at_first epoch stored) = rosters_first epoch stored
rosters_reached (by_act r act) = rosters_kept act (names_reached r) (leavers_reached r) (rosters_reached r)

-- Each move keeps records and parent hosts in order; so they are in each view that moves lead to.
use Rattle.std.proofs.Common.{Option, ℤ, ◌≡◌, ℕ, [], ◌∷◌, Some, None, inl, inr}
use Rattle.ids.specs.Names.{Grant}
use Rattle.table_laws.specs.Tables.{◌∈◌}
use Rattle.table_laws.specs.Content.{Content}
use Rattle.table_laws.specs.View.{Joining, House, View, first_over}
use Rattle.table_laws.specs.Facts.{Head, ack_of}
use Rattle.table_laws.specs.Moves.{close_root}
use Rattle.table_laws.specs.Acts.{Act, starts, admits, adopts, fails, goes, marks_lost, opens, grants_root, closes_root, commits, publishes, closes, asks, refuses, grants, takes_grant, hears_refuse, gives_up, freezes, takes_offer, acknowledges, releases, leaves, alters, drops, renames, settles, settles_at_house, ReachedInTables, at_first, by_act}
use Rattle.table_laws.specs.Names.{Names}
use Rattle.table_laws.specs.Homes.{Homes}
use Rattle.table_laws.specs.Leavers.{Leavers}
use Rattle.table_laws.specs.Kin.{Kin}
use Rattle.table_laws.specs.Rooted.{Rooted}
use Rattle.table_laws.proofs.NamesReached.{names_kept, names_reached}
use Rattle.table_laws.proofs.LeaversKept.{leavers_reached}
use Rattle.table_laws.proofs.HomesKept.{homes_reached}
use Rattle.table_laws.proofs.RootedKept.{root_alone, rooted_reached}
use Rattle.table_laws.proofs.Conts.{head_cont, no_cont}
use Rattle.table_laws.proofs.KinKept.{kin_new, kin_admit, kin_stop, kin_take, kin_release, kin_freeze, kin_publish, kin_settle, kin_settle_at_house, kin_drop}
use Rattle.table_laws.proofs.KinAltered.{kin_alter, kin_rename, kin_mint, kin_grant}

-- the root's grant is no record's
kin_close_root : (v : View) (k : Grant) → v.root ≡ Some k → Homes v → Rooted v → Kin v → Kin (close_root v k)
kin_close_root v k e h r kin =
    let unsettled : (g x : Grant) (c : Content) (n : ℕ) → x ∈ (close_root v k).settled → Head v g c
    → c.granted n ≡ Some x → ⊥ = λ g x c n. elim [
      | inl e2 ↦ (λ a f. let is : x ≡ k = e2 in root_alone v h r k g c n e (head_cont v g c a) (rw is at f))
      | inr m ↦ kin.unsettled g x c n m
    ] in
    assumption (unsettled, kin)

pub kin_kept : {v w : View} → Act v w → Names v → Names w → Homes v → Leavers v → Rooted v → Kin v → Kin w
kin_kept {v} (starts i new worker) n after h l r k = kin_new v i Joining new n l k
kin_kept {v} (admits i roster joins listed) n after h l r k = let admitted =
    kin_admit v i joins n l k in assumption admitted
kin_kept (adopts i old roster may) n after h l r k = assumption k
kin_kept {v} (fails i may) n after h l r k = let stopped = kin_stop v i l k in assumption stopped
kin_kept {v} (goes i said) n after h l r k = kin_stop v i l k
kin_kept (marks_lost i used worker lost) n after h l r k = assumption k
kin_kept {v} (opens i lost roster may) n after h l r k = let opened =
    kin_new v i House may.new n l k in assumption opened
kin_kept {v} (grants_root i thief seq c house new may begins) n after h l r k = let minted =
    kin_mint v i thief seq c (rw house tt) may begins n l k in assumption minted
kin_kept {v} (closes_root root is) n after h l r k = kin_close_root v root is h r k
kin_kept {v} (commits i root o may) n after h l r k = let closed =
    kin_close_root v root may.recorded h r k in assumption closed
kin_kept {v} (publishes house roster may) n after h l r k = kin_publish v house roster may n l k
kin_kept {v} (closes i house) n after h l r k = let stopped = kin_stop v i l k in assumption stopped
kin_kept (asks i victim may) n after h l r k = assumption k
kin_kept (refuses i thief seq works may) n after h l r k = assumption k
kin_kept {v} (grants i g s m thief seq c here may begins frame) n after h l r k =
    kin_grant v i g s m thief seq c here may begins n l k
kin_kept {v} (takes_grant i t may hop asked) n after h l r k = kin_take v i t None [] may l k
kin_kept (hears_refuse i x refused thief asked) n after h l r k = assumption k
kin_kept (gives_up i why) n after h l r k = assumption k
kin_kept {v} (freezes i heir offers may) n after h l r k = kin_freeze v i heir offers may n l k
kin_kept {v} (takes_offer i t hop may is) n after h l r k = kin_take v i t (v.pending i) (ack_of t ∷ []) may l k
kin_kept (acknowledges t there seen works) n after h l r k = assumption k
kin_kept {v} (releases i heir g s may) n after h l r k = kin_release v i g k
kin_kept (leaves i heir roster keeps may) n after h l r k = assumption k
kin_kept {v} (alters i g s c fill results gone here change is) n after h l r k =
    kin_alter v i g s c fill results gone here is after k
kin_kept {v} (drops i g s gone here had why) n after h l r k = kin_drop v i g s gone here had n k
kin_kept {v} (renames i g s roster host here listed way) n after h l r k =
    kin_rename v i g s roster host here listed way after k
kin_kept {v} (settles i g may) n after h l r k = kin_settle v i g may n k
kin_kept {v} (settles_at_house i g may) n after h l r k = kin_settle_at_house v i g may h k

kin_first : (epoch : ℕ) (stored : Option (Option ℤ)) → Kin (first_over epoch stored)
kin_first epoch stored = record {
  one_record = λ g h k c d n m a. absurd (no_cont epoch stored g c a);
  on_path = λ g k c n i a. absurd (no_cont epoch stored g c (head_cont (first_over epoch stored) g c a));
  unsettled = λ g k c n m. absurd m;
  left_path = λ r i h g c m. absurd m;
}

pub kin_reached : {v : View} → ReachedInTables v → Kin v
kin_reached (at_first epoch stored) = kin_first epoch stored
kin_reached (by_act r act) = kin_kept act (names_reached r) (names_kept act (names_reached r)) (homes_reached r)
    (leavers_reached r) (rooted_reached r) (kin_reached r)

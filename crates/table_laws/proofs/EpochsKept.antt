-- Epochs under each move.
use Rattle.std.proofs.Common.{Option, ℤ, ◌≡◌, ℕ, ◌<◌, ◌≤◌, true, false, List, ◌∷◌, Some, None, sym, inl, inr, ⊎_elim, arith, ap, ◌∙◌}
use Rattle.ids.specs.Names.{house_of}
use Rattle.table_laws.specs.Tables.{◌∈◌, put}
use Rattle.table_laws.specs.View.{Leave, Roster, View, first_over}
use Rattle.table_laws.specs.Facts.{of_worker}
use Rattle.table_laws.specs.Moves.{start, open_house, adopt, leave, publish}
use Rattle.table_laws.specs.Guards.{MayOpen, MayPublish}
use Rattle.table_laws.specs.Acts.{Act, starts, admits, adopts, fails, goes, marks_lost, opens, grants_root, closes_root, commits, publishes, closes, asks, refuses, grants, takes_grant, hears_refuse, gives_up, freezes, takes_offer, acknowledges, releases, leaves, alters, drops, renames, settles, settles_at_house, ReachedInTables, at_first, by_act}
use Rattle.table_laws.specs.Epochs.{Epochs}
use Rattle.table_laws.proofs.Lists.{same_or, some_same}

epochs_start : (v : View) (i : ℕ) → of_worker i ≡ true → Epochs v → Epochs (start v i)
epochs_start v i worker e = record {
  house_now = e.house_now;
  rosters_past = e.rosters_past;
  kept_past = λ j r x. e.kept_past j r (grind arith);
  leaves_past = e.leaves_past;
  names_past = λ j. elim [
    | inl is ↦ λ house. let other : of_worker i ≡ false = rw is at house in cc
    | inr m ↦ e.names_past j m
  ];
  house_used = λ house is. inr (e.house_used house is);
  rosters_used = λ r m. inr (e.rosters_used r m);
}

epochs_open : (v : View) (i : ℕ) (lost : List ℕ) (roster : Roster) → MayOpen v i lost roster → Epochs v
    → Epochs (open_house v i lost roster)
epochs_open v i lost roster may e = record {
  house_now = λ x is. ap (λ (y : Roster). y.epoch) (sym (some_same is));
  rosters_past = λ r m. let past = e.rosters_past r m in let next = may.epoch in omega (arith, past, next);
  kept_past = λ j r x. let past = e.kept_past j r (grind arith) in let next = may.epoch in omega (arith, past, next);
  leaves_past = λ l m. let past = e.leaves_past l m in let next = may.epoch in omega (arith, past, next);
  names_past = λ j. elim [
    | inl is ↦ λ house. (let name = may.name in omega (arith, is, name))
    | inr m ↦ λ house. let past = e.names_past j m house in let next = may.epoch in omega (arith, past, next)
  ];
  house_used = λ x is. inl (ap (λ (y : Roster). house_of y.epoch) (sym (some_same is)) ∙ sym may.name);
  rosters_used = λ r m. inr (e.rosters_used r m);
}

-- a node keeps a roster that a house had
epochs_adopt : (v : View) (i : ℕ) (roster : Roster) → roster ∈ v.rosters → Epochs v → Epochs (adopt v i roster)
epochs_adopt v i roster had e =
    let kept_past : (j : ℕ) (r : Roster) → put v.roster i (Some roster) j ≡ Some r → r.epoch ≤ v.epoch = λ j r x. ⊎_elim
    (λ (is : j ≡ i). let at : Some roster ≡ Some r =
    grind (arith, x, is) in rw (some_same at) at (e.rosters_past roster had))
    (λ other. e.kept_past j r (grind (arith, x, other)))
    (same_or j i) in
    assumption (kept_past, e)

epochs_publish : (v : View) (house roster : Roster) → MayPublish v house roster → Epochs v → Epochs (publish v roster)
epochs_publish v house roster may e =
    let now : roster.epoch ≡ v.epoch = may.epoch ∙ e.house_now house may.open_house in
    let house_now : (x : Roster) → Some roster ≡ Some x → x.epoch ≡ v.epoch = λ x is. rw (some_same is) at now in
    let rosters_past : (r : Roster) → r ∈ (roster ∷ v.rosters)
    → r.epoch ≤ v.epoch = λ r. elim [ inl is ↦ rw (is, now) (omega arith) | inr m ↦ e.rosters_past r m ] in
    let name : house_of roster.epoch ∈ v.used = rw may.epoch (e.house_used house may.open_house) in
    let house_used : (x : Roster) → Some roster ≡ Some x
    → house_of x.epoch ∈ v.used = λ x is. rw (some_same is) at name in
    let rosters_used : (r : Roster) → r ∈ (roster ∷ v.rosters)
    → house_of r.epoch ∈ v.used = λ r. elim [ inl is ↦ rw is name | inr m ↦ e.rosters_used r m ] in
    assumption (house_now, rosters_past, house_used, rosters_used, e)

epochs_leave : (v : View) (i heir : ℕ) (roster : Roster) → v.roster i ≡ Some roster → Epochs v
    → Epochs (leave v i heir roster.epoch)
epochs_leave v i heir roster keeps e =
    let leaves_past : (l : Leave) → l ∈ (leave v i heir roster.epoch).leaves
    → l.epoch ≤ v.epoch = λ l. elim [ inl is ↦ rw is (e.kept_past i roster keeps) | inr m ↦ e.leaves_past l m ] in
    assumption (leaves_past, e)

pub epochs_kept : {v w : View} → Act v w → Epochs v → Epochs w
epochs_kept {v} (starts i new worker) e = epochs_start v i worker e
epochs_kept {v} (admits i roster joins listed) e = let kept = epochs_adopt v i roster listed e in assumption kept
epochs_kept {v} (adopts i old roster may) e = epochs_adopt v i roster may.sent e
epochs_kept (fails i may) e = assumption e
epochs_kept (goes i said) e = assumption e
epochs_kept (marks_lost i used worker lost) e = assumption e
epochs_kept {v} (opens i lost roster may) e = epochs_open v i lost roster may e
epochs_kept (grants_root i thief seq c house new may begins) e = assumption e
epochs_kept (closes_root k is) e = assumption e
epochs_kept (commits i k o may) e = assumption e
epochs_kept {v} (publishes house roster may) e = epochs_publish v house roster may e
epochs_kept {v} (closes i house) e = let house_now : (x : Roster) → None ≡ Some x
    → x.epoch ≡ v.epoch = λ x is. cc in let house_used : (x : Roster) → None ≡ Some x
    → house_of x.epoch ∈ v.used = λ x is. cc in assumption (house_now, house_used, e)
epochs_kept (asks i victim may) e = assumption e
epochs_kept (refuses i thief seq works may) e = assumption e
epochs_kept (grants i g s m thief seq c here may begins frame) e = assumption e
epochs_kept (takes_grant i t may hop asked) e = assumption e
epochs_kept (hears_refuse i x refused thief asked) e = assumption e
epochs_kept (gives_up i why) e = assumption e
epochs_kept (freezes i heir offers may) e = assumption e
epochs_kept (takes_offer i t hop may is) e = assumption e
epochs_kept (acknowledges t there seen works) e = assumption e
epochs_kept (releases i heir g s may) e = assumption e
epochs_kept {v} (leaves i heir roster keeps may) e = epochs_leave v i heir roster keeps e
epochs_kept (alters i g s c fill results gone here change is) e = assumption e
epochs_kept (drops i g s gone here had why) e = assumption e
epochs_kept (renames i g s roster host here listed way) e = assumption e
epochs_kept (settles i g may) e = assumption e
epochs_kept (settles_at_house i g may) e = assumption e

epochs_first : (epoch : ℕ) (stored : Option (Option ℤ)) → Epochs (first_over epoch stored)
epochs_first epoch stored = record {
  house_now = λ h e. cc;
  rosters_past = λ r m. absurd m;
  kept_past = λ i r e. cc;
  leaves_past = λ l m. absurd m;
  names_past = λ i m. absurd m;
  house_used = λ h e. cc;
  rosters_used = λ r m. absurd m;
}

pub epochs_reached : {v : View} → ReachedInTables v → Epochs v
epochs_reached (at_first epoch stored) = epochs_first epoch stored
epochs_reached (by_act r act) = epochs_kept act (epochs_reached r)

-- the name of a house isn't a worker's
pub house_named : (epoch : ℕ) → of_worker (house_of epoch) ≡ false
unfolding of_worker
house_named epoch = grind arith

-- so the name of a later epoch is new
pub name_new : (v : View) → Epochs v → (epoch : ℕ) → v.epoch < epoch → house_of epoch ∈ v.used → ⊥
name_new v e epoch later used = let past =
    e.names_past (house_of epoch) used (house_named epoch) in omega (arith, past, later)

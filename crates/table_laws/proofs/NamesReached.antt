-- Each move keeps the names and transfers in order; so they are in each view that moves lead to.
use Rattle.std.proofs.Common.{ℤ, ◌≡◌, ℕ, List, [], ◌∷◌, ◌⊎◌, Option, Some, None, refl, inl, inr, ⊎_elim, arith}
use Rattle.ids.specs.Names.{Grant}
use Rattle.table_laws.specs.Tables.{◌∈◌}
use Rattle.table_laws.specs.Content.{Content, Fill, regrant, rehost}
use Rattle.table_laws.specs.View.{Result, Roster, Sub, Joining, House, View, first_over}
use Rattle.table_laws.specs.Facts.{Granted, Live, RecordOf, ack_of, grant_of}
use Rattle.table_laws.specs.Moves.{open_house, close_house, mint, close_root, grant_frame, grant_root, alter}
use Rattle.table_laws.specs.Guards.{MayAnswer, Begins, Alters}
use Rattle.table_laws.specs.Acts.{Act, starts, admits, adopts, fails, goes, marks_lost, opens, grants_root, closes_root, commits, publishes, closes, asks, refuses, grants, takes_grant, hears_refuse, gives_up, freezes, takes_offer, acknowledges, releases, leaves, alters, drops, renames, settles, settles_at_house, ReachedInTables, at_first, by_act}
use Rattle.table_laws.specs.Names.{Names}
use Rattle.table_laws.proofs.Lists.{same_or, some_same}
use Rattle.table_laws.proofs.NamesKept.{names_new, names_admit, names_stop, names_ask, names_refuse, names_mint, names_take, names_acknowledge, names_remove, names_alter, names_settle, names_leave}
use Rattle.table_laws.proofs.NamesFrozen.{names_freeze}

-- the grant of a record after a grant of frame n: the new one, or an earlier one
pub regranted : (c : Content) (n m : ℕ) (new k : Grant) → (regrant c n (Some new)).granted m ≡ Some k
    → (k ≡ new) ⊎ (c.granted m ≡ Some k)
regranted c n m new k e = ⊎_elim
    (λ is. let two : Some new ≡ Some k = grind (arith, e) in let one : new ≡ k = some_same two in inl (rw one refl))
    (λ other. inr (grind (arith, e)))
    (same_or m n)

-- the grants of a live sub's records were granted
pub records_granted : (v : View) (i : ℕ) (g : Grant) (s : Sub) → Live v i g s → Names v → (k : Grant)
    → RecordOf s.content k → Granted v.transfers k
records_granted v i g s here n k r = n.sub_granted i g k s r.number (rw here.member tt) here.holds r.is

names_open : (v : View) (i : ℕ) (lost : List ℕ) (roster : Roster) → (i ∈ v.used → ⊥) → Names v
    → Names (open_house v i lost roster)
names_open v i lost roster new n =
    let started = names_new v i House new n in
    let root_granted : (k : Grant) → None ≡ Some k → Granted v.transfers k = λ k e. cc in
    assumption (root_granted, started)

names_close : (v : View) (i : ℕ) → Names v → Names (close_house v i)
names_close v i n =
    let stopped = names_stop v i n in
    let root_granted : (k : Grant) → None ≡ Some k → Granted v.transfers k = λ k e. cc in
    assumption (root_granted, stopped)

names_close_root : (v : View) (k : Grant) → v.root ≡ Some k → Names v → Names (close_root v k)
names_close_root v k e n =
    let settled = names_settle v k (n.root_granted k e) n in
    let root_granted : (j : Grant) → None ≡ Some j → Granted v.transfers j = λ j f. cc in
    assumption (root_granted, settled)

names_root : (v : View) (i thief seq : ℕ) (c : Content) → v.mode i ≡ House → MayAnswer v i thief seq → Begins c i
    → Names v → Names (grant_root v i thief seq c)
names_root v i thief seq c house may begins n =
    let minted = names_mint v i thief seq c (rw house tt) may begins n in
    let root_granted : (k : Grant) → Some (grant_of v i thief seq c).grant ≡ Some k
    → Granted (mint v i thief seq c).transfers k =
    λ k e. record { transfer = grant_of v i thief seq c; sent = inl refl; grant = some_same e } in
    assumption (root_granted, minted)

-- the sub's content doesn't change yet
pub names_minted : (v : View) (i : ℕ) (g : Grant) (s : Sub) (thief seq : ℕ) (c : Content) → Live v i g s
    → MayAnswer v i thief seq → Begins c i → Names v → Names (mint v i thief seq c)
names_minted v i g s thief seq c here may begins n = names_mint v i thief seq c (rw here.member tt) may begins n

names_grant : (v : View) (i : ℕ) (g : Grant) (s : Sub) (m thief seq : ℕ) (c : Content) → Live v i g s
    → MayAnswer v i thief seq → Begins c i → Names v → Names (grant_frame v i g s m thief seq c)
names_grant v i g s m thief seq c here may begins n =
    let minted = names_minted v i g s thief seq c here may begins n in
    let new = grant_of v i thief seq c in
    names_alter (mint v i thief seq c) i g s (regrant s.content m (Some new.grant)) None [] []
    (record { member = here.member; holds = here.holds }) (λ k p. absurd p) (λ x p. absurd p)
    (λ o k e. ⊎_elim
    (λ is. record { transfer = new; sent = inl refl; grant = rw is refl })
    (λ old. minted.sub_granted i g k s o (rw here.member tt) here.holds old)
    (regranted s.content m o new.grant k e))
    minted

-- a live sub's content changes, without new records
pub names_altered : (v : View) (i : ℕ) (g : Grant) (s : Sub) (c : Content) (fill : Option Fill) (results : List Result)
    (gone : List Grant) → Live v i g s → Alters g s.content c results gone → Names v
    → Names (alter v i g s c fill results gone)
names_altered v i g s c fill results gone here is n =
    names_alter v i g s c fill results gone here (λ k m. records_granted v i g s here n k (is.had k m)) is.result_own
    (λ o k e. n.sub_granted i g k s o (rw here.member tt) here.holds (is.fewer o k e)) n

pub rehosted : (g : Grant) (c : Content) (host : ℕ) → (n : ℕ) (k : Grant) → (rehost c host).granted n ≡ Some k
    → c.granted n ≡ Some k
rehosted g c host n k e = e

pub names_kept : {v w : View} → Act v w → Names v → Names w
names_kept {v} (starts i new worker) n = names_new v i Joining new n
names_kept {v} (admits i roster joins listed) n = let admitted = names_admit v i joins n in assumption admitted
names_kept (adopts i old roster may) n = assumption n
names_kept {v} (fails i may) n = let stopped = names_stop v i n in assumption stopped
names_kept {v} (goes i said) n = names_stop v i n
names_kept (marks_lost i used worker lost) n = assumption n
names_kept {v} (opens i lost roster may) n = names_open v i lost roster may.new n
names_kept {v} (grants_root i thief seq c house new may begins) n = names_root v i thief seq c house may begins n
names_kept {v} (closes_root k is) n = names_close_root v k is n
names_kept {v} (commits i k o may) n = let closed = names_close_root v k may.recorded n in assumption closed
names_kept (publishes house roster may) n = assumption n
names_kept {v} (closes i house) n = names_close v i n
names_kept {v} (asks i victim may) n = names_ask v i victim may n
names_kept {v} (refuses i thief seq works may) n = let kept = names_refuse v i thief seq n in assumption kept
names_kept {v} (grants i g s m thief seq c here may begins frame) n =
    names_grant v i g s m thief seq c here may begins n
names_kept {v} (takes_grant i t may hop asked) n = names_take v i t None [] may n
names_kept (hears_refuse i x refused thief asked) n = assumption n
names_kept (gives_up i why) n = assumption n
names_kept {v} (freezes i heir offers may) n = names_freeze v i heir offers may n
names_kept {v} (takes_offer i t h may hop) n = names_take v i t (v.pending i) (ack_of t ∷ []) may n
names_kept {v} (acknowledges t sent seen works) n = names_acknowledge v t sent n
names_kept {v} (releases i heir g s may) n = names_remove v i g [] (λ k m. absurd m) n
names_kept {v} (leaves i heir roster keeps may) n =
    names_leave v i heir roster.epoch (n.up_used i (rw may.leaving tt)) n
names_kept {v} (alters i g s c fill results gone here change is) n = names_altered v i g s c fill results gone here is n
names_kept {v} (drops i g s gone here had why) n =
    names_remove v i g gone (λ k m. records_granted v i g s here n k (had k m)) n
names_kept {v} (renames i g s roster host here listed way) n =
    names_alter v i g s (rehost s.content host) None [] [] here (λ k m. absurd m) (λ x m. absurd m)
    (λ o k e. n.sub_granted i g k s o (rw here.member tt) here.holds e) n
names_kept {v} (settles i g may) n =
    names_settle v g (n.result_granted (record { grant = g; host = i; outcome = may.outcome }) may.result) n
names_kept {v} (settles_at_house i g may) n =
    names_settle v g (n.result_granted (record { grant = g; host = i; outcome = may.outcome }) may.result) n

names_first : (epoch : ℕ) (stored : Option (Option ℤ)) → Names (first_over epoch stored)
names_first epoch stored = record {
  up_used = λ i w. w;
  from_used = λ t m. absurd m;
  to_used = λ t m. absurd m;
  minter_used = λ t m. absurd m;
  thief_used = λ x m. absurd m;
  victim_used = λ x m. absurd m;
  leaver_used = λ l m. absurd m;
  settled_granted = λ g m. absurd m;
  result_granted = λ x m. absurd m;
  sub_granted = λ i g k s n w. absurd w;
  sent_granted = λ t k n m. absurd m;
  root_granted = λ k e. cc;
  acked_sent = λ a m. absurd m;
  counted = λ t m w. absurd m;
  minted_by = λ t m. absurd m;
  minted_for = λ t m. absurd m;
  joins_unseen = λ i g e. refl;
  joins_empty = λ i g e. refl;
  kept_sent = λ i j r t w e f. absurd w;
  one = λ t u m p e f. absurd m;
  path = λ t h m e. absurd m;
  held_seen = λ i g s w e. absurd w;
  held_by = λ i g s w e. absurd w;
  frozen_offered = λ i heir g s e f. cc;
  seen_sent = λ i h g w e. absurd w;
}

pub names_reached : {v : View} → ReachedInTables v → Names v
names_reached (at_first epoch stored) = names_first epoch stored
names_reached (by_act r act) = names_kept act (names_reached r)

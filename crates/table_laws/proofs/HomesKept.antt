-- Homes under each move.
use Rattle.std.proofs.Common.{ℤ, ◌≡◌, ℕ, Bool, true, false, List, [], ◌∷◌, ◌⊎◌, Option, Some, None, refl, sym, inl, inr, ⊎_elim, arith, ap, ◌∙◌}
use Rattle.ids.specs.Names.{Grant}
use Rattle.table_laws.specs.Tables.{◌∈◌, put}
use Rattle.table_laws.specs.Content.{Content, Fill, regrant, rehost}
use Rattle.table_laws.specs.View.{Transfer, Result, Leave, Left, Roster, Sub, Mode, Gone, Joining, Member, House, Leaving, Works, View, first_over}
use Rattle.table_laws.specs.Facts.{of_worker, Live, Host, by_content, by_result, Resolves, stays, follows, ack_of, grant_of}
use Rattle.table_laws.specs.Moves.{start, mint, take, freeze, remove, alter, leave, publish, grant_frame}
use Rattle.table_laws.specs.Guards.{Begins, MayFreeze, MayLeave, MayPublish, ShowsLeft, before, now}
use Rattle.table_laws.specs.Acts.{Act, starts, admits, adopts, fails, goes, marks_lost, opens, grants_root, closes_root, commits, publishes, closes, asks, refuses, grants, takes_grant, hears_refuse, gives_up, freezes, takes_offer, acknowledges, releases, leaves, alters, drops, renames, settles, settles_at_house, ReachedInTables, at_first, by_act}
use Rattle.table_laws.specs.Homes.{Homes}
use Rattle.table_laws.proofs.Lists.{Within, same, either, same_or}
use Rattle.table_laws.proofs.NamesReached.{regranted}
use Rattle.table_laws.proofs.Conts.{Conts, live_cont, no_cont, hosts_by, conts_new, conts_mode, conts_take, conts_freeze, conts_remove, conts_alter, conts_mint}

-- with fewer contents and Results, where the names are in order
homes_by : (v w : View) → Conts v w → Within w.results v.results → w.leaves ≡ v.leaves → w.rosters ≡ v.rosters
    → ((i : ℕ) → w.mode i ≡ House → of_worker i ≡ false)
    → ((i : ℕ) → Works (w.mode i) → (w.mode i ≡ House → ⊥) → of_worker i ≡ true)
    → ((i heir : ℕ) → w.mode i ≡ Leaving heir → of_worker heir ≡ true)
    → Homes v → Homes w
homes_by v w conts results said shown house worker heir h = record {
  house_name = house;
  worker_name = worker;
  heir_name = heir;
  leave_names = λ l m. h.leave_names l (rw said at m);
  left_names = λ r i j m. h.left_names r i j (rw shown at m);
  home = λ g i a. h.home g i (hosts_by v w conts results g i a);
  record_minter = λ g k c n a. h.record_minter g k c n (conts g c a);
}

-- a new name, a worker's or a house's as its mode is
homes_new : (v : View) (i : ℕ) (m : Mode) → (m ≡ House → of_worker i ≡ false) → ((m ≡ House → ⊥) → of_worker i ≡ true)
    → ((heir : ℕ) → m ≡ Leaving heir → ⊥) → Homes v → Homes (record (start v i) { mode = put v.mode i m })
homes_new v i m house worker never h =
    homes_by v (record (start v i) { mode = put v.mode i m }) (conts_new v i m) (same v.results) refl refl
    (λ j e. ⊎_elim (λ (is : j ≡ i). rw is (house (grind (arith, e, is))))
    (λ other. h.house_name j (grind (arith, e, other))) (same_or j i))
    (λ j w e. ⊎_elim (λ (is : j ≡ i). rw is (worker (λ x. e (grind (arith, x, is)))))
    (λ other. h.worker_name j (grind (arith, w, other)) (λ x. e (grind (arith, x, other)))) (same_or j i))
    (λ j heir e. ⊎_elim (λ (is : j ≡ i). absurd (never heir (grind (arith, e, is))))
    (λ other. h.heir_name j heir (grind (arith, e, other))) (same_or j i))
    h

-- another mode of a worker, or of nobody
homes_mode : (v : View) (i : ℕ) (m : Mode) → (m ≡ House → ⊥) → (Works m → Works (v.mode i))
    → (Works m → v.mode i ≡ House → ⊥) → ((heir : ℕ) → m ≡ Leaving heir → of_worker heir ≡ true) → Homes v
    → Homes (record v { mode = put v.mode i m })
homes_mode v i m house works worker heirs h =
    homes_by v (record v { mode = put v.mode i m }) (conts_mode v i m works) (same v.results) refl refl
    (λ j e. ⊎_elim (λ (is : j ≡ i). absurd (house (grind (arith, e, is))))
    (λ other. h.house_name j (grind (arith, e, other))) (same_or j i))
    (λ j w e. ⊎_elim (λ (is : j ≡ i). let up : Works m =
    grind (arith, w, is) in rw is (h.worker_name i (works up) (worker up)))
    (λ other. h.worker_name j (grind (arith, w, other)) (λ x. e (grind (arith, x, other)))) (same_or j i))
    (λ j heir e. ⊎_elim (λ (is : j ≡ i). heirs heir (grind (arith, e, is)))
    (λ other. h.heir_name j heir (grind (arith, e, other))) (same_or j i))
    h

homes_stop : (v : View) (i : ℕ) → Homes v → Homes (record v { mode = put v.mode i Gone })
homes_stop v i h = homes_mode v i Gone (λ e. cc) (λ w. absurd w) (λ w. absurd w) (λ heir e. cc) h

homes_freeze : (v : View) (i heir : ℕ) (offers : List Transfer) → MayFreeze v i heir offers → Homes v
    → Homes (freeze v i heir offers)
homes_freeze v i heir offers may h =
    homes_by v (freeze v i heir offers) (conts_freeze v i heir offers may) (same v.results) refl refl
    (λ j e. h.house_name j (grind (arith, e)))
    (λ j w e. ⊎_elim (λ (is : j ≡ i). rw is
    (h.worker_name i (rw may.member tt) (λ x. let m = may.member in grind (arith, m, x))))
    (λ other. h.worker_name j (grind (arith, w, other)) (λ x. e (grind (arith, x, other)))) (same_or j i))
    (λ j to e. ⊎_elim (λ (is : j ≡ i). let same_heir : heir ≡ to =
    grind (arith, e, is) in rw same_heir at may.heir_worker) (λ other. h.heir_name j to (grind (arith, e, other)))
    (same_or j i))
    h

homes_mint : (v : View) (i thief seq : ℕ) (c : Content) → Begins c i → Homes v → Homes (mint v i thief seq c)
homes_mint v i thief seq c begins h = record {
  house_name = h.house_name;
  worker_name = h.worker_name;
  heir_name = h.heir_name;
  leave_names = h.leave_names;
  left_names = h.left_names;
  home = λ g j a. home g j a;
  record_minter = λ g k d n a e. ⊎_elim (λ old. h.record_minter g k d n old e) (λ new. let none : c.granted n ≡ None =
      begins.bare n in let one : c ≡ d = new.1 in let some : d.granted n ≡ Some k =
      e in cc) (conts_mint v i thief seq c g d a);
}
  where
    home : (g : Grant) (j : ℕ) → Host (mint v i thief seq c) g j → (of_worker j ≡ false) ⊎ (of_worker g.minter ≡ false)
        → j ≡ g.minter
    home g j (by_content d a e) f = ⊎_elim
        (λ old. h.home g j (by_content d old e) f)
        (λ new. sym e ∙ sym (ap (λ (x : Content). x.host) new.1) ∙ begins.host
        ∙ ap (λ (x : Grant). x.minter) (sym new.0))
        (conts_mint v i thief seq c g d a)
    home g j (by_result x m e f) o = h.home g j (by_result x m e f) o

-- by a roster, a worker's work is a worker's, and a house's is its own
pub resolves_name : (v : View) → Homes v → (roster : Roster) → roster ∈ v.rosters → (i j : ℕ) → Resolves roster i j
    → (i ≡ j) ⊎ ((of_worker i ≡ true) × (of_worker j ≡ true))
resolves_name v h r m _ _ (stays i) = inl refl
resolves_name v h r m _ _ (follows i x j e way) =
    let here = h.left_names r i x m e in
    ⊎_elim (λ (is : x ≡ j). inr (here.0, rw is at here.1)) (λ both. inr (here.0, both.1))
    (resolves_name v h r m x j way)

pub house_stays : (v : View) → Homes v → (roster : Roster) → roster ∈ v.rosters → (i j : ℕ) → Resolves roster i j
    → (of_worker i ≡ false) ⊎ (of_worker j ≡ false) → i ≡ j
house_stays v h r m i j way house = ⊎_elim
    (λ is. is)
    (λ both. ⊎_elim (λ (f : of_worker i ≡ false). let t : of_worker i ≡ true =
    both.0 in absurd (apart f t)) (λ (f : of_worker j ≡ false). let t : of_worker j ≡ true =
    both.1 in absurd (apart f t)) house)
    (resolves_name v h r m i j way)
  where
    apart : {b : Bool} → b ≡ false → b ≡ true → ⊥
    apart f t = cc

-- a live sub's content changes: with its own host or another one that is a home of its grant
homes_alter : (v : View) (i : ℕ) (g : Grant) (s : Sub) (c : Content) (fill : Option Fill) (results : List Result)
    (gone : List Grant) → Live v i g s
    → ((of_worker c.host ≡ false) ⊎ (of_worker g.minter ≡ false) → c.host ≡ g.minter)
    → ((x : Result) → x ∈ results → (x.grant ≡ g) × (x.host ≡ s.content.host))
    → ((n : ℕ) (k : Grant) → c.granted n ≡ Some k → of_worker k.minter ≡ true) → Homes v
    → Homes (alter v i g s c fill results gone)
homes_alter v i g s c fill results gone here host tells records h = record {
  house_name = h.house_name;
  worker_name = h.worker_name;
  heir_name = h.heir_name;
  leave_names = h.leave_names;
  left_names = h.left_names;
  home = λ k j a. home k j a;
  record_minter = λ k x d n a e. ⊎_elim (λ old. h.record_minter k x d n old e) (λ new. records n x (rw new.1 e))
      (conts_alter v i g s c k d a);
}
  where
    home : (k : Grant) (j : ℕ) → Host (alter v i g s c fill results gone) k j
        → (of_worker j ≡ false) ⊎ (of_worker k.minter ≡ false) → j ≡ k.minter
    home k j (by_content d a e) f = ⊎_elim
        (λ old. h.home k j (by_content d old e) f)
        (λ new. let to : c.host ≡ j = ap (λ (x : Content). x.host) new.1 ∙ e in
        let of : k ≡ g = new.0 in
        rw (← to, of) (host (rw (← to, of) at f)))
        (conts_alter v i g s c k d a)
    home k j (by_result x m e f) o = ⊎_elim
        (λ l. let own = tells x l in
        h.home k j (by_content s.content (rw (sym e ∙ own.0) (live_cont v i g s here)) (sym own.1 ∙ f)) o)
        (λ r. h.home k j (by_result x r e f) o)
        (either results v.results x m)

-- a live sub's host is a home of its grant
live_home : (v : View) (i : ℕ) (g : Grant) (s : Sub) → Live v i g s → Homes v
    → (of_worker s.content.host ≡ false) ⊎ (of_worker g.minter ≡ false) → s.content.host ≡ g.minter
live_home v i g s here h = h.home g s.content.host (by_content s.content (live_cont v i g s here) refl)

live_minters : (v : View) (i : ℕ) (g : Grant) (s : Sub) → Live v i g s → Homes v → (n : ℕ) (k : Grant)
    → s.content.granted n ≡ Some k → of_worker k.minter ≡ true
live_minters v i g s here h n k e = h.record_minter g k s.content n (live_cont v i g s here) e

homes_grant : (v : View) (i : ℕ) (g : Grant) (s : Sub) (m thief seq : ℕ) (c : Content) → Live v i g s → Begins c i
    → Homes v → Homes (grant_frame v i g s m thief seq c)
homes_grant v i g s m thief seq c here begins h =
    let u = mint v i thief seq c in
    let now_here : Live u i g s = record { member = here.member; holds = here.holds } in
    let minted = homes_mint v i thief seq c begins h in
    let member = here.member in
    let worker : of_worker i ≡ true = h.worker_name i (rw member tt) (λ x. grind (arith, member, x)) in
    homes_alter u i g s (regrant s.content m (Some (grant_of v i thief seq c).grant)) None [] [] now_here
    (live_home u i g s now_here minted) (λ x p. absurd p)
    (λ o k e. ⊎_elim (λ (is : k ≡ (grant_of v i thief seq c).grant). rw is worker)
    (λ old. live_minters u i g s now_here minted o k old)
    (regranted s.content m o (grant_of v i thief seq c).grant k e))
    minted

homes_rename : (v : View) (i : ℕ) (g : Grant) (s : Sub) (roster : Roster) (host : ℕ) → Live v i g s → roster ∈ v.rosters
    → Resolves roster s.content.host host → Homes v → Homes (alter v i g s (rehost s.content host) None [] [])
homes_rename v i g s roster host here listed way h =
    homes_alter v i g s (rehost s.content host) None [] [] here home (λ x p. absurd p) (live_minters v i g s here h) h
  where
    home : (of_worker host ≡ false) ⊎ (of_worker g.minter ≡ false) → host ≡ g.minter
    home (inl f) = let is : s.content.host ≡ host =
        house_stays v h roster listed s.content.host host way (inr f) in sym is
        ∙ live_home v i g s here h (inl (rw is f))
    home (inr f) = let old : s.content.host ≡ g.minter = live_home v i g s here h (inr f) in
        let is : s.content.host ≡ host = house_stays v h roster listed s.content.host host way
        (inl (rw old f)) in sym is ∙ old

homes_leave : (v : View) (i heir epoch : ℕ) → MayLeave v i heir → Homes v → Homes (leave v i heir epoch)
homes_leave v i heir epoch may h =
    let leaving = may.leaving in
    let names : (l : Leave) → l ∈ (leave v i heir epoch).leaves
    → (of_worker l.from ≡ true) × (of_worker l.heir ≡ true) = λ l. elim [
      | inl e ↦ rw e (h.worker_name i (rw leaving tt) (λ x. grind (arith, leaving, x)), h.heir_name i heir leaving)
      | inr m ↦ h.leave_names l m
    ] in
    assumption (names, h)

homes_publish : (v : View) (house roster : Roster) → MayPublish v house roster → Homes v → Homes (publish v roster)
homes_publish v house roster may h =
    let names : (r : Roster) (i j : ℕ) → r ∈ (publish v roster).rosters → r.status i ≡ Left j
    → (of_worker i ≡ true) × (of_worker j ≡ true) =
    λ r i j. elim [ inl e ↦ λ f. shown i j (may.left i j (rw e at f)) | inr m ↦ h.left_names r i j m ] in
    assumption (names, h)
  where
    shown : (i j : ℕ) → ShowsLeft v roster.epoch i j → (of_worker i ≡ true) × (of_worker j ≡ true)
    shown i j (before r m same e) = h.left_names r i j m e
    shown i j (now r l m o e same way) =
        let both = h.leave_names l o in
        (rw e at both.0, ⊎_elim (λ (is : l.heir ≡ j). rw is at both.1) (λ x. x.1) (resolves_name v h r m l.heir j way))

pub homes_kept : {v w : View} → Act v w → Homes v → Homes w
homes_kept {v} (starts i new worker) h = homes_new v i Joining (λ e. cc) (λ e. worker) (λ heir e. cc) h
homes_kept {v} (admits i roster joins listed) h = let admitted =
    homes_mode v i Member (λ e. cc) (λ w. rw joins tt) (λ w e. grind (arith, joins, e))
    (λ heir e. cc) h in assumption admitted
homes_kept (adopts i old roster may) h = assumption h
homes_kept {v} (fails i may) h = let stopped = homes_stop v i h in assumption stopped
homes_kept {v} (goes i said) h = homes_stop v i h
homes_kept (marks_lost i used worker lost) h = assumption h
homes_kept {v} (opens i lost roster may) h = let opened =
    homes_new v i House (λ e. may.house) (λ e. absurd (e refl)) (λ heir e. cc) h in assumption opened
homes_kept {v} (grants_root i thief seq c house new may begins) h = let minted =
    homes_mint v i thief seq c begins h in assumption minted
homes_kept (closes_root k is) h = assumption h
homes_kept (commits i k o may) h = assumption h
homes_kept {v} (publishes house roster may) h = homes_publish v house roster may h
homes_kept {v} (closes i house) h = let stopped = homes_stop v i h in assumption stopped
homes_kept (asks i victim may) h = assumption h
homes_kept (refuses i thief seq works may) h = assumption h
homes_kept {v} (grants i g s m thief seq c here may begins frame) h = homes_grant v i g s m thief seq c here begins h
homes_kept {v} (takes_grant i t may hop asked) h =
    homes_by v (take v i t None []) (conts_take v i t None [] may)
    (same v.results) refl refl h.house_name h.worker_name h.heir_name h
homes_kept (hears_refuse i x refused thief asked) h = assumption h
homes_kept (gives_up i why) h = assumption h
homes_kept {v} (freezes i heir offers may) h = homes_freeze v i heir offers may h
homes_kept {v} (takes_offer i t hop may is) h =
    homes_by v (take v i t (v.pending i) (ack_of t ∷ [])) (conts_take v i t (v.pending i) (ack_of t ∷ []) may)
    (same v.results) refl refl h.house_name h.worker_name h.heir_name h
homes_kept (acknowledges t there seen works) h = assumption h
homes_kept {v} (releases i heir g s may) h =
    homes_by v (remove v i g []) (conts_remove v i g [])
    (same v.results) refl refl h.house_name h.worker_name h.heir_name h
homes_kept {v} (leaves i heir roster keeps may) h = homes_leave v i heir roster.epoch may h
homes_kept {v} (alters i g s c fill results gone here change is) h =
    homes_alter v i g s c fill results gone here (rw is.host (live_home v i g s here h))
    (λ x m. (is.result_own x m, is.result_host x m)) (λ n k e. live_minters v i g s here h n k (is.fewer n k e)) h
homes_kept {v} (drops i g s gone here had why) h =
    homes_by v (remove v i g gone) (conts_remove v i g gone)
    (same v.results) refl refl h.house_name h.worker_name h.heir_name h
homes_kept {v} (renames i g s roster host here listed way) h = homes_rename v i g s roster host here listed way h
homes_kept (settles i g may) h = assumption h
homes_kept (settles_at_house i g may) h = assumption h

homes_first : (epoch : ℕ) (stored : Option (Option ℤ)) → Homes (first_over epoch stored)
homes_first epoch stored = record {
  house_name = λ i e. cc;
  worker_name = λ i w. absurd w;
  heir_name = λ i heir e. cc;
  leave_names = λ l m. absurd m;
  left_names = λ r i h m. absurd m;
  home = λ g i a. absurd (none g i a);
  record_minter = λ g k c n a. absurd (no_cont epoch stored g c a);
}
  where
    none : (g : Grant) (i : ℕ) → Host (first_over epoch stored) g i → ⊥
    none g i (by_content c a e) = no_cont epoch stored g c a
    none g i (by_result x m e f) = m

pub homes_reached : {v : View} → ReachedInTables v → Homes v
homes_reached (at_first epoch stored) = homes_first epoch stored
homes_reached (by_act r act) = homes_kept act (homes_reached r)

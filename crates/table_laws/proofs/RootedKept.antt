-- The root record under each move.
use Rattle.std.proofs.Common.{◌≡◌, ℕ, false, List, ◌∷◌, ◌++◌, Some, None, refl, sym, inl, inr, ⊎_elim, arith, ap, ◌∙◌}
use Rattle.ids.specs.Names.{Grant}
use Rattle.table_laws.specs.Tables.{◌∈◌, put}
use Rattle.table_laws.specs.Content.{Content}
use Rattle.table_laws.specs.View.{Roster, Sub, Mode, Gone, Joining, Member, House, Leaving, View, first_over}
use Rattle.table_laws.specs.Facts.{of_worker, Said, Live, Cont, Host, by_result, RecordOf, grant_of}
use Rattle.table_laws.specs.Moves.{start, open_house, close_house, stop, fail, mark_lost, remove, alter, grant_root, settle, close_root}
use Rattle.table_laws.specs.Guards.{MayOpen, MayFail, MaySettle}
use Rattle.table_laws.specs.Acts.{Act, starts, admits, adopts, fails, goes, marks_lost, opens, grants_root, closes_root, commits, publishes, closes, asks, refuses, grants, takes_grant, hears_refuse, gives_up, freezes, takes_offer, acknowledges, releases, leaves, alters, drops, renames, settles, settles_at_house, ReachedInTables, at_first, by_act}
use Rattle.table_laws.specs.Names.{Names}
use Rattle.table_laws.specs.Homes.{Homes}
use Rattle.table_laws.specs.Leavers.{Leavers}
use Rattle.table_laws.specs.Rooted.{Rooted}
use Rattle.table_laws.proofs.Lists.{either, same_or, some_same}
use Rattle.table_laws.proofs.Sent.{unminted}
use Rattle.table_laws.proofs.NamesReached.{names_reached}
use Rattle.table_laws.proofs.LeaversKept.{leavers_reached}
use Rattle.table_laws.proofs.HomesKept.{homes_reached}
use Rattle.table_laws.proofs.Conts.{live_cont}

-- the root's grant was minted by a house
pub root_minter : (v : View) → Homes v → Rooted v → (k : Grant) → v.root ≡ Some k → of_worker k.minter ≡ false
root_minter v h r k e = h.house_name k.minter (r.root_house k e)

-- so its parent host is the open house
pub root_host : (v : View) → Homes v → Rooted v → (k : Grant) (i : ℕ) → v.root ≡ Some k → Host v k i → i ≡ k.minter
root_host v h r k i e a = h.home k i a (inr (root_minter v h r k e))

-- and no content has its record
pub root_alone : (v : View) → Homes v → Rooted v → (k g : Grant) (c : Content) (n : ℕ) → v.root ≡ Some k → Cont v g c
    → c.granted n ≡ Some k → ⊥
root_alone v h r k g c n e a f = let house = root_minter v h r k e in let worker = h.record_minter g k c n a f in cc

-- one that isn't the house comes to another mode, which isn't the house's
rooted_mode : (v : View) (i : ℕ) (m : Mode) → (v.mode i ≡ House → ⊥) → (m ≡ House → ⊥) → Rooted v
    → Rooted (record v { mode = put v.mode i m })
rooted_mode v i m other never r = record {
  root_house = λ k e. let house = r.root_house k e in grind (arith, house, other);
  root_unsettled = r.root_unsettled;
  house_up = λ j e p. r.house_up j (⊎_elim (λ (is : j ≡ i). absurd (never (grind (arith, e, is))))
      (λ apart. grind (arith, e, apart)) (same_or j i)) p;
}

-- without a root record
rooted_none : (v : View) → v.root ≡ None → ((i : ℕ) → v.mode i ≡ House → i ∈ v.lost → ⊥) → Rooted v
rooted_none v none up = record { root_house = λ k e. cc; root_unsettled = λ k e m. cc; house_up = up }

rooted_start : (v : View) (i : ℕ) → (i ∈ v.used → ⊥) → Names v → Rooted v → Rooted (start v i)
rooted_start v i new n r =
    let other : v.mode i ≡ House → ⊥ = λ e. new (n.up_used i (rw e tt)) in
    let moved = rooted_mode v i Joining other (λ e. cc) r in
    assumption moved

rooted_open : (v : View) (i : ℕ) (lost : List ℕ) (roster : Roster) → MayOpen v i lost roster
    → Rooted (open_house v i lost roster)
rooted_open v i lost roster may = rooted_none (open_house v i lost roster) refl
    (λ j e m. let old = may.lost_old j m in ⊎_elim (λ (is : j ≡ i). may.new (rw is at old.0))
    (λ other. old.1 (grind (arith, e, other))) (same_or j i))

rooted_fail : (v : View) (i : ℕ) → MayFail v i → Rooted v → Rooted (fail v i)
rooted_fail v i may r =
    let stopped = rooted_mode v i Gone may.worker (λ e. cc) r in
    let house_up : (j : ℕ) → put v.mode i Gone j ≡ House → j ∈ (i ∷ v.lost)
    → ⊥ = λ j e. elim [ inl is ↦ grind (arith, e, is) | inr m ↦ stopped.house_up j e m ] in
    assumption (house_up, stopped)

rooted_go : (v : View) (i : ℕ) → Said v.leaves i → Leavers v → Rooted v → Rooted (stop v i)
rooted_go v i said l r = rooted_mode v i Gone
    (λ e. let leaving : v.mode i ≡ Leaving said.leave.heir =
    rw said.from at (l.said_leaving said.leave said.sent (rw (said.from, e) tt)) in grind (arith, leaving, e))
    (λ e. cc) r

rooted_mark_lost : (v : View) (i : ℕ) → (v.mode i ≡ House → ⊥) → Rooted v → Rooted (mark_lost v i)
rooted_mark_lost v i other r =
    let house_up : (j : ℕ) → v.mode j ≡ House → j ∈ (i ∷ v.lost)
    → ⊥ = λ j e. elim [ inl is ↦ other (rw is at e) | inr m ↦ r.house_up j e m ] in
    assumption (house_up, r)

-- what is settled besides isn't the root's grant
rooted_settled : (v w : View) → w.root ≡ v.root → ((i : ℕ) → w.mode i ≡ v.mode i) → w.lost ≡ v.lost
    → ((k : Grant) → v.root ≡ Some k → k ∈ w.settled → k ∈ v.settled) → Rooted v → Rooted w
rooted_settled v w root mode lost settled r = record {
  root_house = λ k e. mode k.minter ∙ r.root_house k (rw root at e);
  root_unsettled = λ k e m. r.root_unsettled k (rw root at e) (settled k (rw root at e) m);
  house_up = λ i e m. r.house_up i (sym (mode i) ∙ e) (rw lost at m);
}

rooted_root : (v : View) (i thief seq : ℕ) (c : Content) → v.mode i ≡ House → Names v → Rooted v
    → Rooted (grant_root v i thief seq c)
rooted_root v i thief seq c house n r = record {
  root_house = λ k e. let is : (grant_of v i thief seq c).grant ≡ k = some_same e in let to : i ≡ k.minter =
      ap (λ (x : Grant). x.minter) is in rw (← to) house;
  root_unsettled = λ k e m. unminted v i n (rw house tt)
      (n.settled_granted (grant_of v i thief seq c).grant (rw (← (some_same e)) at m));
  house_up = r.house_up;
}

rooted_settle : (v : View) (i : ℕ) (g : Grant) → MaySettle v i g → Homes v → Rooted v → Rooted (settle v g)
rooted_settle v i g may h r = rooted_settled v (settle v g) refl (λ j. refl) refl
    (λ k e. elim [
      | inl e2 ↦ (let is : k ≡ g = e2 in let at : i ≡ k.minter =
          root_host v h r k i e (by_result (record { grant = g; host = i; outcome = may.outcome }) may.result
          (sym is) refl) in
          let house : v.mode k.minter ≡ House = r.root_house k e in let member : v.mode i ≡ Member =
          may.member in let also : v.mode i ≡ House = rw at house in grind (arith, also, member))
      | inr m ↦ m
    ]) r

rooted_gone : (v : View) (i : ℕ) (g : Grant) (s : Sub) (gone : List Grant) → Live v i g s
    → ((k : Grant) → k ∈ gone → RecordOf s.content k) → Homes v → Rooted v → (k : Grant) → v.root ≡ Some k
    → k ∈ (gone ++ v.settled) → k ∈ v.settled
rooted_gone v i g s gone here had h r k e m = ⊎_elim
    (λ l. let record_of = had k l in absurd
    (root_alone v h r k g s.content record_of.number e (live_cont v i g s here) record_of.is))
    (λ old. old)
    (either gone v.settled k m)

pub rooted_kept : {v w : View} → Act v w → Names v → Homes v → Leavers v → Rooted v → Rooted w
rooted_kept {v} (starts i new worker) n h l r = rooted_start v i new n r
rooted_kept {v} (admits i roster joins listed) n h l r = let admitted =
    rooted_mode v i Member (λ e. grind (arith, joins, e)) (λ e. cc) r in assumption admitted
rooted_kept (adopts i old roster may) n h l r = assumption r
rooted_kept {v} (fails i may) n h l r = rooted_fail v i may r
rooted_kept {v} (goes i said) n h l r = rooted_go v i said l r
rooted_kept {v} (marks_lost i used worker lost) n h l r = rooted_mark_lost v i worker r
rooted_kept {v} (opens i lost roster may) n h l r = rooted_open v i lost roster may
rooted_kept {v} (grants_root i thief seq c house new may begins) n h l r = rooted_root v i thief seq c house n r
rooted_kept {v} (closes_root k is) n h l r = rooted_none (close_root v k) refl r.house_up
rooted_kept {v} (commits i k o may) n h l r = let closed =
    rooted_none (close_root v k) refl r.house_up in assumption closed
rooted_kept (publishes house roster may) n h l r = assumption r
rooted_kept {v} (closes i house) n h l r =
    rooted_none (close_house v i) refl (λ j e m. r.house_up j (grind (arith, e)) m)
rooted_kept (asks i victim may) n h l r = assumption r
rooted_kept (refuses i thief seq works may) n h l r = assumption r
rooted_kept (grants i g s m thief seq c here may begins frame) n h l r = assumption r
rooted_kept (takes_grant i t may hop asked) n h l r = assumption r
rooted_kept (hears_refuse i x refused thief asked) n h l r = assumption r
rooted_kept (gives_up i why) n h l r = assumption r
rooted_kept {v} (freezes i heir offers may) n h l r =
    let moved = rooted_mode v i (Leaving heir) (λ e. let member =
    may.member in grind (arith, member, e)) (λ e. cc) r in assumption moved
rooted_kept (takes_offer i t hop may is) n h l r = assumption r
rooted_kept (acknowledges t sent seen works) n h l r = assumption r
rooted_kept (releases i heir g s may) n h l r = assumption r
rooted_kept (leaves i heir roster keeps may) n h l r = assumption r
rooted_kept {v} (alters i g s c fill results gone here change is) n h l r =
    rooted_settled v (alter v i g s c fill results gone) refl (λ j. refl) refl
    (rooted_gone v i g s gone here is.had h r) r
rooted_kept {v} (drops i g s gone here had why) n h l r =
    rooted_settled v (remove v i g gone) refl (λ j. refl) refl (rooted_gone v i g s gone here had h r) r
rooted_kept (renames i g s roster host here listed way) n h l r = assumption r
rooted_kept {v} (settles i g may) n h l r = rooted_settle v i g may h r
rooted_kept {v} (settles_at_house i g may) n h l r =
    rooted_settled v (settle v g) refl (λ j. refl) refl
    (λ k e. elim [ inl e2 ↦ (let is : k ≡ g = e2 in absurd (may.other (rw is at e))) | inr m ↦ m ]) r

pub rooted_reached : {v : View} → ReachedInTables v → Rooted v
rooted_reached (at_first epoch stored) = rooted_none (first_over epoch stored) refl (λ i e m. cc)
rooted_reached (by_act r act) = rooted_kept act (names_reached r) (homes_reached r) (leavers_reached r)
    (rooted_reached r)

-- Thieves are known, under each move.
use Rattle.std.proofs.Common.{◌≡◌, ℕ, ◌⊎◌, Some, None, refl, sym, inl, inr, ⊎_elim, arith, ◌∙◌}
use Rattle.table_laws.specs.Tables.{put, put_at}
use Rattle.table_laws.specs.View.{Status, Unlisted, Live, Dead, Left, Roster, Reply, Mode, Joining, Member, House, Leaving, Works, View}
use Rattle.table_laws.specs.Facts.{Said, Lost, grant_of}
use Rattle.table_laws.specs.Moves.{start, admit, adopt, stop}
use Rattle.table_laws.specs.Guards.{MayAnswer, MayAdopt}
use Rattle.table_laws.specs.Acts.{Act, starts, admits, adopts, fails, goes, marks_lost, opens, grants_root, closes_root, commits, publishes, closes, asks, refuses, grants, takes_grant, hears_refuse, gives_up, freezes, takes_offer, acknowledges, releases, leaves, alters, drops, renames, settles, settles_at_house, ReachedInTables, at_first, by_act}
use Rattle.table_laws.specs.Rosters.{Rosters}
use Rattle.table_laws.specs.Known.{Known}
use Rattle.table_laws.proofs.Lists.{same_or, some_same}
use Rattle.table_laws.proofs.LeaversKept.{leavers_reached}
use Rattle.table_laws.proofs.RostersKept.{verdict}
use Rattle.table_laws.proofs.RostersReached.{rosters_reached}

known_new : (v : View) (i : ℕ) (m : Mode) → Known v → Known (record (start v i) { mode = put v.mode i m })
known_new v i m h = record {
  joins_unkept = λ j k e. grind (arith, h.joins_unkept j k);
  thief_listed = λ j k reply r w o e f g.
      h.thief_listed j k reply r (grind arith) (λ x. o (grind (arith, x))) (grind arith) (grind arith) g;
}

known_admit : (v : View) (i : ℕ) (roster : Roster) → v.mode i ≡ Joining → Known v → Known (adopt (admit v i) i roster)
known_admit v i roster joins h = record {
  joins_unkept = λ j k e. h.joins_unkept j k (grind (arith, e));
  thief_listed = λ j k reply r w o e f g. ⊎_elim
      (λ (is : j ≡ i). let none : v.kept i k ≡ None = h.joins_unkept i k joins in let some : v.kept i k ≡ Some reply =
      rw is at e in cc)
      (λ other. h.thief_listed j k reply r (grind (arith, w, other)) (λ x. o (grind (arith, x, other))) e
      (grind (arith, f, other)) g)
      (same_or j i);
}

-- a later roster lists whom the earlier one did
known_adopt : (v : View) (i : ℕ) (old roster : Roster) → MayAdopt v i old roster → Rosters v → Known v
    → Known (adopt v i roster)
known_adopt v i old roster may k h = record {
  joins_unkept = h.joins_unkept;
  thief_listed = λ j thief reply r w o e f g. ⊎_elim
      (λ (is : j ≡ i). let at : Some roster ≡ Some r = grind (arith, f, is) in
      let one : roster ≡ r = some_same at in
      let grown = k.grows old roster (k.kept_had i old may.keeps) may.sent may.epoch may.newer in
      h.thief_listed j thief reply old w o e (rw is may.keeps) (grown.listed thief (rw one g)))
      (λ other. h.thief_listed j thief reply r w o e (grind (arith, f, other)) g)
      (same_or j i);
}

known_stop : (v : View) (i : ℕ) → Known v → Known (stop v i)
known_stop v i h = record {
  joins_unkept = λ j k e. h.joins_unkept j k (grind arith);
  thief_listed = λ j k reply r w o e f g. h.thief_listed j k reply r (grind arith) (λ x. o (grind (arith, x, w))) e f g;
}

known_freeze : (v : View) (i heir : ℕ) → v.mode i ≡ Member → Known v
    → Known (record v { mode = put v.mode i (Leaving heir) })
known_freeze v i heir member h = record {
  joins_unkept = λ j k e. h.joins_unkept j k (grind arith);
  thief_listed = λ j k reply r w o e f g.
      h.thief_listed j k reply r (grind (arith, member)) (λ x. o (grind (arith, x, member))) e f g;
}

-- a reply: its thief is live in the victim's roster
known_answer : (v : View) (i thief seq : ℕ) (answer : Reply) → MayAnswer v i thief seq → Rosters v → Known v
    → Known (record v { kept = put_at v.kept i thief (Some answer) })
known_answer v i thief seq answer may k h = record {
  joins_unkept = λ j l e. ⊎_elim
      (λ (is : j ≡ i). absurd (never may.listed (rw is at e)))
      (λ other. let x = h.joins_unkept j l e in grind (arith, x, other))
      (same_or j i);
  thief_listed = λ j l reply r w o e f g. ⊎_elim
      (λ (is : j ≡ i). ⊎_elim
      (λ (too : l ≡ thief). here may.listed r (λ x. o (rw is x)) (rw is at f) (rw too at g))
      (λ other. h.thief_listed j l reply r w o (grind (arith, e, other)) f g)
      (same_or l thief))
      (λ other. h.thief_listed j l reply r w o (grind (arith, e, other)) f g)
      (same_or j i);
}
  where
    never : (v.mode i ≡ House) ⊎ ((r : Roster) × (v.roster i ≡ Some r) × (r.status thief ≡ Live)) → v.mode i ≡ Joining
        → ⊥
    never (inl house) e = grind (arith, house, e)
    never (inr shows) e = let none = k.joins_without i e in let some = shows.1 in cc

    here : (v.mode i ≡ House) ⊎ ((r : Roster) × (v.roster i ≡ Some r) × (r.status thief ≡ Live)) → (r : Roster)
        → (v.mode i ≡ House → ⊥) → v.roster i ≡ Some r → r.status thief ≡ Unlisted → ⊥
    here (inl house) r o e f = o house
    here (inr shows) r o e f = let one : shows.0 ≡ r = some_same (sym shows.1 ∙ e) in let live : r.status thief ≡ Live =
        rw one at shows.2 in cc

pub known_kept : {v w : View} → Act v w → Rosters v → Known v → Known w
known_kept {v} (starts i new worker) k h = let started = known_new v i Joining h in assumption started
known_kept {v} (admits i roster joins listed) k h = known_admit v i roster joins h
known_kept {v} (adopts i old roster may) k h = known_adopt v i old roster may k h
known_kept {v} (fails i may) k h = let stopped = known_stop v i h in assumption stopped
known_kept {v} (goes i said) k h = known_stop v i h
known_kept (marks_lost i used worker lost) k h = assumption h
known_kept {v} (opens i lost roster may) k h = let opened = known_new v i House h in assumption opened
known_kept {v} (grants_root i thief seq c house new may begins) k h = let answered =
    known_answer v i thief seq (record {
      seq = seq;
      given = Some (grant_of v i thief seq c);
    }) may k h in assumption answered
known_kept (closes_root root is) k h = assumption h
known_kept (commits i root o may) k h = assumption h
known_kept (publishes house roster may) k h = assumption h
known_kept {v} (closes i house) k h = let stopped = known_stop v i h in assumption stopped
known_kept (asks i victim may) k h = assumption h
known_kept {v} (refuses i thief seq works may) k h = let answered =
    known_answer v i thief seq (record { seq = seq; given = None }) may k h in assumption answered
known_kept {v} (grants i g s m thief seq c here may begins frame) k h = let answered =
    known_answer v i thief seq (record {
      seq = seq;
      given = Some (grant_of v i thief seq c);
    }) may k h in assumption answered
known_kept (takes_grant i t may hop asked) k h = assumption h
known_kept (hears_refuse i x refused thief asked) k h = assumption h
known_kept (gives_up i why) k h = assumption h
known_kept {v} (freezes i heir offers may) k h = let moved = known_freeze v i heir may.member h in assumption moved
known_kept (takes_offer i t hop may is) k h = assumption h
known_kept (acknowledges t there seen works) k h = assumption h
known_kept (releases i heir g s may) k h = assumption h
known_kept (leaves i heir roster keeps may) k h = assumption h
known_kept (alters i g s c fill results gone here change is) k h = assumption h
known_kept (drops i g s gone here had why) k h = assumption h
known_kept (renames i g s roster host here listed way) k h = assumption h
known_kept (settles i g may) k h = assumption h
known_kept (settles_at_house i g may) k h = assumption h

pub known_reached : {v : View} → ReachedInTables v → Known v
known_reached (at_first epoch stored) =
    record { joins_unkept = λ i j e. refl; thief_listed = λ i j reply r w. absurd w }
known_reached (by_act r act) = known_kept act (rosters_reached r) (known_reached r)

-- A thief that was answered and isn't live in its victim's roster is dead there, or left.
pub unheard : (v : View) (house r : Roster) (i thief : ℕ) (reply : Reply) → ReachedInTables v
    → v.house ≡ Some house → Works (v.mode i) → (v.mode i ≡ House → ⊥) → v.roster i ≡ Some r
    → v.kept i thief ≡ Some reply → (r.status thief ≡ Live → ⊥)
    → (Lost v house thief ⊎ Lost v house i) ⊎ Said v.leaves thief
unheard v house r i thief reply reached open_now works worker keeps answered dead_or_left = at (r.status thief) refl
  where
    at : (o : Status) → r.status thief ≡ o → (Lost v house thief ⊎ Lost v house i) ⊎ Said v.leaves thief
    at Unlisted e = absurd ((known_reached reached).thief_listed i thief reply r works worker answered keeps e)
    at Live e = absurd (dead_or_left e)
    at Dead e = let k = rosters_reached reached in inl (verdict v k house r i thief open_now keeps e)
    at (Left h) e = inr ((leavers_reached reached).left_said r thief h ((rosters_reached reached).kept_had i r keeps) e)

-- Each move keeps Steals and replies in order; so they are in each view that moves lead to.
use Rattle.std.proofs.Common.{Option, ℤ, ◌≡◌, ℕ, List, [], ◌∷◌, None, inl, inr, arith}
use Rattle.table_laws.specs.Tables.{◌∈◌, put}
use Rattle.table_laws.specs.View.{Steal, Roster, Joining, House, View, first_over}
use Rattle.table_laws.specs.Facts.{stolen_by, ack_of}
use Rattle.table_laws.specs.Moves.{start, open_house}
use Rattle.table_laws.specs.Guards.{MayOpen}
use Rattle.table_laws.specs.Acts.{Act, starts, admits, adopts, fails, goes, marks_lost, opens, grants_root, closes_root, commits, publishes, closes, asks, refuses, grants, takes_grant, hears_refuse, gives_up, freezes, takes_offer, acknowledges, releases, leaves, alters, drops, renames, settles, settles_at_house, ReachedInTables, at_first, by_act}
use Rattle.table_laws.specs.Names.{Names}
use Rattle.table_laws.specs.Leavers.{Leavers}
use Rattle.table_laws.specs.Requests.{Awaits, Requests}
use Rattle.table_laws.proofs.NamesReached.{names_reached}
use Rattle.table_laws.proofs.LeaversKept.{leavers_reached}
use Rattle.table_laws.proofs.RequestsKept.{requests_admit, requests_fail, requests_go, requests_close, requests_mark_lost, requests_freeze, requests_new, requests_refused, requests_give_up, requests_take_grant, requests_take_offer}
use Rattle.table_laws.proofs.RequestsAnswered.{requests_ask, requests_mint, requests_refuse, requests_leave}

requests_start : (v : View) (i : ℕ) → (i ∈ v.used → ⊥) → Names v → Requests v → Requests (start v i)
requests_start v i new n q = let started =
    requests_new v i Joining v.lost new waits (λ t m e l. l) n q in assumption started
  where
    waits : (x : Steal) → x ∈ v.steals → Awaits v.mode v.pending v.lost x → (x.thief ≡ i → ⊥)
        → Awaits (put v.mode i Joining) (put v.pending i None) v.lost x
    waits x m (inl p) other = let w = p.0 in let e = p.1 in inl (grind (arith, w, other), grind (arith, e, other))
    waits x m (inr l) other = inr l

-- to a new house all who asked are lost
requests_open : (v : View) (i : ℕ) (lost : List ℕ) (roster : Roster) → MayOpen v i lost roster → Names v → Requests v
    → Requests (open_house v i lost roster)
requests_open v i lost roster may n q =
    let opened = requests_new v i House lost may.new
    (λ x m a other. inr (inl (may.lost_all x.thief (n.thief_used x m) (q.joins_unasked x m))))
    (λ t m e l. inl (may.lost_all t.to (n.to_used t m) (q.joins_unasked (stolen_by t) (q.grant_asked t m e)))) n q in
    assumption opened

pub requests_kept : {v w : View} → Act v w → Names v → Leavers v → Requests v → Requests w
requests_kept {v} (starts i new worker) n l q = requests_start v i new n q
requests_kept {v} (admits i roster joins listed) n l q = let admitted =
    requests_admit v i joins q in assumption admitted
requests_kept (adopts i old roster may) n l q = assumption q
requests_kept {v} (fails i may) n l q = requests_fail v i q
requests_kept {v} (goes i said) n l q = requests_go v i said l q
requests_kept {v} (marks_lost i used worker lost) n l q = requests_mark_lost v i q
requests_kept {v} (opens i lost roster may) n l q = requests_open v i lost roster may n q
requests_kept {v} (grants_root i thief seq c house new may begins) n l q = let minted =
    requests_mint v i thief seq c (inr house) (rw house tt) may n l q in assumption minted
requests_kept (closes_root k is) n l q = assumption q
requests_kept (commits i k o may) n l q = assumption q
requests_kept (publishes house roster may) n l q = assumption q
requests_kept {v} (closes i house) n l q = let stopped = requests_close v i house q in assumption stopped
requests_kept {v} (asks i victim may) n l q = requests_ask v i victim may q
requests_kept {v} (refuses i thief seq works may) n l q = requests_refuse v i thief seq works may q
requests_kept {v} (grants i g s m thief seq c here may begins frame) n l q = let minted =
    requests_mint v i thief seq c (inl (rw here.member tt)) (rw here.member tt) may n l q in assumption minted
requests_kept {v} (takes_grant i t may hop asked) n l q = requests_take_grant v i t may hop asked q
requests_kept {v} (hears_refuse i x refused thief asked) n l q = requests_refused v i x refused thief asked q
requests_kept {v} (gives_up i why) n l q = requests_give_up v i why l q
requests_kept {v} (freezes i heir offers may) n l q = requests_freeze v i heir offers may q
requests_kept {v} (takes_offer i t h may hop) n l q = requests_take_offer v i t h (ack_of t ∷ []) may hop n q
requests_kept (acknowledges t there seen works) n l q = assumption q
requests_kept (releases i heir g s may) n l q = assumption q
requests_kept {v} (leaves i heir roster keeps may) n l q = requests_leave v i heir roster.epoch may n l q
requests_kept (alters i g s c fill results gone here change is) n l q = assumption q
requests_kept (drops i g s gone here had why) n l q = assumption q
requests_kept (renames i g s roster host here listed way) n l q = assumption q
requests_kept (settles i g may) n l q = assumption q
requests_kept (settles_at_house i g may) n l q = assumption q

requests_first : (epoch : ℕ) (stored : Option (Option ℤ)) → Requests (first_over epoch stored)
requests_first epoch stored = record {
  joins_unasked = λ x m. absurd m;
  kept_grant = λ i j r t w. absurd w;
  kept_refuse = λ i j r w. absurd w;
  member_waits = λ i q w. absurd w;
  one_victim = λ x y m. absurd m;
  asked_most = λ x m. absurd m;
  asked_last = λ i q w. absurd w;
  asked_sent = λ i q w. absurd w;
  grant_asked = λ t m. absurd m;
  refuse_asked = λ x m. absurd m;
  one_grant = λ t u m. absurd m;
  one_reply = λ t x m. absurd m;
  grant_kept = λ t m. absurd m;
  refuse_kept = λ x m. absurd m;
  unseen = λ t m. absurd m;
  unanswered = λ x m. absurd m;
  awaited = λ l t m. absurd m;
}

pub requests_reached : {v : View} → ReachedInTables v → Requests v
requests_reached (at_first epoch stored) = requests_first epoch stored
requests_reached (by_act r act) = requests_kept act (names_reached r) (leavers_reached r) (requests_reached r)

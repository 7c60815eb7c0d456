-- Each move leads from cases to cases; so each open record is in one, in each view that moves lead
-- to.
use Rattle.std.proofs.Common.{Option, ℤ, ℕ, [], ◌∷◌, None, refl, inl, arith}
use Rattle.ids.specs.Names.{Grant}
use Rattle.table_laws.specs.Content.{rehost}
use Rattle.table_laws.specs.View.{View, first_over}
use Rattle.table_laws.specs.Facts.{ack_of}
use Rattle.table_laws.specs.Moves.{ask, close_root}
use Rattle.table_laws.specs.Guards.{MayAsk}
use Rattle.table_laws.specs.Acts.{Act, starts, admits, adopts, fails, goes, marks_lost, opens, grants_root, closes_root, commits, publishes, closes, asks, refuses, grants, takes_grant, hears_refuse, gives_up, freezes, takes_offer, acknowledges, releases, leaves, alters, drops, renames, settles, settles_at_house, ReachedInTables, at_first, by_act}
use Rattle.table_laws.specs.Names.{Names}
use Rattle.table_laws.specs.Homes.{Homes}
use Rattle.table_laws.specs.Leavers.{Leavers}
use Rattle.table_laws.specs.Rooted.{Rooted}
use Rattle.table_laws.specs.Kin.{Kin}
use Rattle.table_laws.specs.Requests.{Requests}
use Rattle.table_laws.specs.Cases.{alive, awaited, frozen, cut_off, Case, Cases}
use Rattle.table_laws.proofs.NamesReached.{names_reached}
use Rattle.table_laws.proofs.HomesKept.{homes_reached}
use Rattle.table_laws.proofs.LeaversKept.{leavers_reached}
use Rattle.table_laws.proofs.RootedKept.{rooted_reached}
use Rattle.table_laws.proofs.KinReached.{kin_reached}
use Rattle.table_laws.proofs.RequestsReached.{requests_reached}
use Rattle.table_laws.proofs.Conts.{head_cont, no_cont}
use Rattle.table_laws.proofs.CasesKept.{cases_fail, cases_go, cases_start, cases_admit, cases_mark_lost, cases_close, cases_refused, cases_give_up, cases_release, cases_drop}
use Rattle.table_laws.proofs.CasesTaken.{cases_take, cases_freeze, cases_acknowledge}
use Rattle.table_laws.proofs.CasesGranted.{cases_alter, cases_grant, cases_root, cases_open}

-- all groups of clauses that the cases rest on
pub record Before (v : View) : Type 0 where
  pub names : Names v
  pub homes : Homes v
  pub leavers : Leavers v
  pub rooted : Rooted v
  pub kin : Kin v
  pub requests : Requests v

-- who asks waited on nothing
cases_ask : (v : View) (i victim : ℕ) → MayAsk v i victim → Cases v → Cases (ask v i victim)
cases_ask v i victim may c = record {
  taken_acked = c.taken_acked;
  passed_acked = c.passed_acked;
  record_case = λ g x d m h e. kept g x (c.record_case g x d m h e);
  root_case = λ x e. kept x x (c.root_case x e);
}
  where
    kept : (g x : Grant) → Case v g x → Case (ask v i victim) g x
    kept g x (alive j s y) = alive j s y
    kept g x (awaited t m e f w p) = awaited t m e f w (let idle = may.idle in grind (arith, p, idle))
    kept g x (frozen j h s y b z) = frozen j h s y b z
    kept g x (cut_off j m y) = cut_off j m y

cases_close_root : (v : View) (k : Grant) → Cases v → Cases (close_root v k)
cases_close_root v k c = record {
  taken_acked = c.taken_acked;
  passed_acked = c.passed_acked;
  record_case = c.record_case;
  root_case = λ h z. cc;
}

pub cases_kept : {v w : View} → Act v w → Before v → Cases v → Cases w
cases_kept {v} (starts i new worker) b c = cases_start v i new b.names c
cases_kept {v} (admits i roster joins listed) b c = let admitted =
    cases_admit v i joins b.names c in assumption admitted
cases_kept (adopts i old roster may) b c = assumption c
cases_kept {v} (fails i may) b c = cases_fail v i b.names c
cases_kept {v} (goes i said) b c = cases_go v i said b.leavers b.requests c
cases_kept {v} (marks_lost i used worker lost) b c = cases_mark_lost v i c
cases_kept {v} (opens i lost roster may) b c = cases_open v i lost roster may b.names b.requests c
cases_kept {v} (grants_root i thief seq d house new may begins) b c =
    cases_root v i thief seq d house may (b.rooted.house_up i house) begins b.names b.requests c
cases_kept {v} (closes_root k is) b c = cases_close_root v k c
cases_kept {v} (commits i k o may) b c = let closed = cases_close_root v k c in assumption closed
cases_kept (publishes house roster may) b c = assumption c
cases_kept {v} (closes i house) b c = let closed = cases_close v i house b.requests c in assumption closed
cases_kept {v} (asks i victim may) b c = cases_ask v i victim may c
cases_kept (refuses i thief seq works may) b c = assumption c
cases_kept {v} (grants i g s m thief seq d here may begins frame) b c =
    cases_grant v i g s m thief seq d here may begins b.names b.requests c
cases_kept {v} (takes_grant i t may hop asked) b c =
    cases_take v i t None [] may (record { grant = λ e. asked; offer = λ h e. absurd (omega (arith, hop, e)) })
    (λ h e. absurd (omega (arith, hop, e))) b.names b.requests c
cases_kept {v} (hears_refuse i x refused thief asked) b c = cases_refused v i x refused thief asked b.requests c
cases_kept {v} (gives_up i why) b c = cases_give_up v i why b.names b.homes b.rooted b.kin b.requests c
cases_kept {v} (freezes i heir offers may) b c = cases_freeze v i heir offers may b.names c
cases_kept {v} (takes_offer i t h may hop) b c =
    cases_take v i t (v.pending i) (ack_of t ∷ []) may
    (record { grant = λ e. absurd (omega (arith, hop, e)); offer = λ k e. refl })
    (λ k e. inl refl) b.names b.requests c
cases_kept {v} (acknowledges t there seen works) b c = cases_acknowledge v t there seen works b.names c
cases_kept {v} (releases i heir g s may) b c = cases_release v i heir g s may c
cases_kept (leaves i heir roster keeps may) b c = assumption c
cases_kept {v} (alters i g s d fill results gone here change is) b c =
    cases_alter v i g s d fill results gone here is.fewer c
cases_kept {v} (drops i g s gone here had why) b c = cases_drop v i g s gone here why b.names b.homes b.rooted b.kin c
cases_kept {v} (renames i g s roster host here listed way) b c =
    cases_alter v i g s (rehost s.content host) None [] [] here (λ n k e. e) c
cases_kept (settles i g may) b c = assumption c
cases_kept (settles_at_house i g may) b c = assumption c

cases_first : (epoch : ℕ) (stored : Option (Option ℤ)) → Cases (first_over epoch stored)
cases_first epoch stored = record {
  taken_acked = λ t h i m. absurd m;
  passed_acked = λ t u h m. absurd m;
  record_case = λ g k c n a. absurd (no_cont epoch stored g c (head_cont (first_over epoch stored) g c a));
  root_case = λ k e. cc;
}

pub before_reached : {v : View} → ReachedInTables v → Before v
before_reached r = record {
  names = names_reached r;
  homes = homes_reached r;
  leavers = leavers_reached r;
  rooted = rooted_reached r;
  kin = kin_reached r;
  requests = requests_reached r;
}

pub cases_reached : {v : View} → ReachedInTables v → Cases v
cases_reached (at_first epoch stored) = cases_first epoch stored
cases_reached (by_act r act) = cases_kept act (before_reached r) (cases_reached r)

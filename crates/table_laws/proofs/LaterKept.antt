-- Children are later, under each move.
use Rattle.std.proofs.Common.{ℤ, ◌≡◌, ℕ, ◌<◌, ◌≤◌, suc, List, [], ◌∷◌, ◌++◌, length, Option, Some, None, refl, inl, inr, ⊎_elim, arith, ap}
use Rattle.ids.specs.Names.{Grant}
use Rattle.table_laws.specs.Tables.{◌∈◌, put}
use Rattle.table_laws.specs.Content.{Content, Fill, regrant, rehost}
use Rattle.table_laws.specs.View.{Transfer, Result, Sub, Gone, Joining, Member, House, Works, View, first_over}
use Rattle.table_laws.specs.Facts.{Granted, Live, ack_of, grant_of}
use Rattle.table_laws.specs.Moves.{start, stop, admit, mint, take, freeze, remove, alter, grant_frame}
use Rattle.table_laws.specs.Guards.{MayAnswer, Begins, MayFreeze}
use Rattle.table_laws.specs.Acts.{Act, starts, admits, adopts, fails, goes, marks_lost, opens, grants_root, closes_root, commits, publishes, closes, asks, refuses, grants, takes_grant, hears_refuse, gives_up, freezes, takes_offer, acknowledges, releases, leaves, alters, drops, renames, settles, settles_at_house, ReachedInTables, at_first, by_act}
use Rattle.table_laws.specs.Names.{Names}
use Rattle.table_laws.specs.Later.{born, Later}
use Rattle.table_laws.proofs.Sent.{unminted}
use Rattle.table_laws.proofs.NamesReached.{regranted, names_reached}
use Rattle.table_laws.proofs.Conts.{Conts, live_cont, no_cont, cont_sent, record_sent, conts_new, conts_mode, conts_take, conts_freeze, conts_remove, conts_alter, cont_before}
use Rattle.table_laws.proofs.KinAltered.{record_old}

pub born_within : (transfers : List Transfer) (g : Grant) → born transfers g ≤ length transfers
born_within [] g = omega arith
born_within (t ∷ transfers) g = let rest = born_within transfers g in grind (arith, rest)

-- Offers move nothing
born_offers : (offers transfers : List Transfer) (g : Grant) → ((t : Transfer) → t ∈ offers → t.hop ≡ 0 → ⊥)
    → born (offers ++ transfers) g ≡ born transfers g
born_offers [] transfers g late = refl
born_offers (t ∷ offers) transfers g late = let rest = born_offers offers transfers g (λ u m. late u (inr m)) in let x =
    late t (inl refl) in grind (arith, rest, x)

-- nor does a Grant of another name
born_other : (t : Transfer) (transfers : List Transfer) (g : Grant) → (t.grant ≡ g → ⊥)
    → born (t ∷ transfers) g ≡ born transfers g
born_other t transfers g other = grind (arith, other)

born_new : (t : Transfer) (transfers : List Transfer) → t.hop ≡ 0
    → born (t ∷ transfers) t.grant ≡ suc (length transfers)
born_new t transfers e = grind (arith, e)

-- contents come from contents, and no Grant is new
later_by : (v w : View) → Conts v w → w.transfers ≡ v.transfers → Later v → Later w
later_by v w conts same_net l = record { later = λ g k c n a e. rw same_net (l.later g k c n (conts g c a) e) }

later_alter : (v : View) (i : ℕ) (g : Grant) (s : Sub) (c : Content) (fill : Option Fill) (results : List Result)
    (gone : List Grant) → Live v i g s → ((n : ℕ) (k : Grant) → c.granted n ≡ Some k → s.content.granted n ≡ Some k)
    → Later v → Later (alter v i g s c fill results gone)
later_alter v i g s c fill results gone here fewer l =
    record {
      later = λ h k d n a e. let old =
          cont_before v i g s c here fewer h d a in l.later h k old.content n old.there (old.records n k e);
    }

later_freeze : (v : View) (i heir : ℕ) (offers : List Transfer) → MayFreeze v i heir offers → Later v
    → Later (freeze v i heir offers)
later_freeze v i heir offers may l = record {
  later = λ g k c n a e.
      let late : (t : Transfer) → t ∈ offers → t.hop ≡ 0
      → ⊥ = λ t m z. let hop : t.hop ≡ suc (may.each t m).sub.hop =
      ap (λ (x : Transfer). x.hop) (may.each t m).is in omega (arith, hop, z) in
      let x = born_offers offers v.transfers g late in
      let y = born_offers offers v.transfers k late in
      let z = l.later g k c n (conts_freeze v i heir offers may g c a) e in
      omega (arith, x, y, z);
}

later_mint : (v : View) (i thief seq : ℕ) (c : Content) → Works (v.mode i) → MayAnswer v i thief seq → Begins c i
    → Names v → Later v → Later (mint v i thief seq c)
later_mint v i thief seq c works may begins n l = record {
  later = λ g k d m a e.
      let old = record_old v i thief seq c works may begins n g k d m a e in
      let x = born_other (grant_of v i thief seq c) v.transfers g (apart g (cont_sent v n g d old)) in
      let y = born_other (grant_of v i thief seq c) v.transfers k (apart k (record_sent v n g k d m old e)) in
      let z = l.later g k d m old e in
      omega (arith, x, y, z);
}
  where
    apart : (g : Grant) → Granted v.transfers g → (grant_of v i thief seq c).grant ≡ g → ⊥
    apart g a e = unminted v i n works (rw e a)

later_grant : (v : View) (i : ℕ) (g : Grant) (s : Sub) (m thief seq : ℕ) (c : Content) → Live v i g s
    → MayAnswer v i thief seq → Begins c i → Names v → Later v → Later (grant_frame v i g s m thief seq c)
later_grant v i g s m thief seq c here may begins n l = record {
  later = λ h k d o a e. ⊎_elim
      (λ old. minted.later h k d o old e)
      (λ new. ⊎_elim
      (λ is. rw (new.0, is) newest)
      (λ old. rw new.0 (minted.later g k s.content o (live_cont u i g s now_here) old))
      (regranted s.content m o name k (rw (← new.1) at e)))
      (conts_alter u i g s (regrant s.content m (Some name)) h d a);
}
  where
    u : View
    u = mint v i thief seq c

    name : Grant
    name = (grant_of v i thief seq c).grant

    now_here : Live (mint v i thief seq c) i g s
    now_here = record { member = here.member; holds = here.holds }

    minted : Later (mint v i thief seq c)
    minted = later_mint v i thief seq c (rw here.member tt) may begins n l

    newest : born (grant_of v i thief seq c ∷ v.transfers) g
        < born (grant_of v i thief seq c ∷ v.transfers) (grant_of v i thief seq c).grant
    newest =
        let x = born_other (grant_of v i thief seq c) v.transfers g
        (λ e. unminted v i n (rw here.member tt) (rw e (cont_sent v n g s.content (live_cont v i g s here)))) in
        let y = born_new (grant_of v i thief seq c) v.transfers refl in
        let z = born_within v.transfers g in
        omega (arith, x, y, z)

pub later_kept : {v w : View} → Act v w → Names v → Later v → Later w
later_kept {v} (starts i new worker) n l = let started =
    later_by v (record (start v i) { mode = put v.mode i Joining }) (conts_new v i Joining) refl l in assumption started
later_kept {v} (admits i roster joins listed) n l = let admitted =
    later_by v (admit v i) (conts_mode v i Member (λ w. rw joins tt)) refl l in assumption admitted
later_kept (adopts i old roster may) n l = assumption l
later_kept {v} (fails i may) n l = let stopped =
    later_by v (stop v i) (conts_mode v i Gone (λ w. absurd w)) refl l in assumption stopped
later_kept {v} (goes i said) n l = later_by v (stop v i) (conts_mode v i Gone (λ w. absurd w)) refl l
later_kept (marks_lost i used worker lost) n l = assumption l
later_kept {v} (opens i lost roster may) n l = let opened =
    later_by v (record (start v i) { mode = put v.mode i House }) (conts_new v i House) refl l in assumption opened
later_kept {v} (grants_root i thief seq c house new may begins) n l = let minted =
    later_mint v i thief seq c (rw house tt) may begins n l in assumption minted
later_kept (closes_root k is) n l = assumption l
later_kept (commits i k o may) n l = assumption l
later_kept (publishes house roster may) n l = assumption l
later_kept {v} (closes i house) n l = let stopped =
    later_by v (stop v i) (conts_mode v i Gone (λ w. absurd w)) refl l in assumption stopped
later_kept (asks i victim may) n l = assumption l
later_kept (refuses i thief seq works may) n l = assumption l
later_kept {v} (grants i g s m thief seq c here may begins frame) n l =
    later_grant v i g s m thief seq c here may begins n l
later_kept {v} (takes_grant i t may hop asked) n l =
    later_by v (take v i t None []) (conts_take v i t None [] may) refl l
later_kept (hears_refuse i x refused thief asked) n l = assumption l
later_kept (gives_up i why) n l = assumption l
later_kept {v} (freezes i heir offers may) n l = later_freeze v i heir offers may l
later_kept {v} (takes_offer i t hop may is) n l =
    later_by v (take v i t (v.pending i) (ack_of t ∷ [])) (conts_take v i t (v.pending i) (ack_of t ∷ []) may) refl l
later_kept (acknowledges t there seen works) n l = assumption l
later_kept {v} (releases i heir g s may) n l = later_by v (remove v i g []) (conts_remove v i g []) refl l
later_kept (leaves i heir roster keeps may) n l = assumption l
later_kept {v} (alters i g s c fill results gone here change is) n l =
    later_alter v i g s c fill results gone here is.fewer l
later_kept {v} (drops i g s gone here had why) n l = later_by v (remove v i g gone) (conts_remove v i g gone) refl l
later_kept {v} (renames i g s roster host here listed way) n l =
    later_alter v i g s (rehost s.content host) None [] [] here (λ m k e. e) l
later_kept (settles i g may) n l = assumption l
later_kept (settles_at_house i g may) n l = assumption l

later_first : (epoch : ℕ) (stored : Option (Option ℤ)) → Later (first_over epoch stored)
later_first epoch stored = record { later = λ g k c n a. absurd (no_cont epoch stored g c a) }

pub later_reached : {v : View} → ReachedInTables v → Later v
later_reached (at_first epoch stored) = later_first epoch stored
later_reached (by_act r act) = later_kept act (names_reached r) (later_reached r)

-- Departures under each move.
use Rattle.std.proofs.Common.{ℤ, ◌≡◌, ℕ, ◌<◌, suc, List, [], ◌∷◌, Option, Some, None, refl, sym, inl, inr, ⊎_elim, arith, ap, ◌∙◌}
use Rattle.ids.specs.Names.{Grant}
use Rattle.table_laws.specs.Tables.{◌∈◌, put, put_grant}
use Rattle.table_laws.specs.Content.{Content, Fill, regrant, rehost}
use Rattle.table_laws.specs.View.{Transfer, Ack, Result, Leave, Left, Roster, Sub, Request, Mode, Joining, Member, House, Leaving, View, first_over}
use Rattle.table_laws.specs.Facts.{Said, Above, Live, ack_of, offer_of, grant_of}
use Rattle.table_laws.specs.Moves.{start, admit, stop, mint, take, acknowledge, freeze, remove, alter, leave, publish}
use Rattle.table_laws.specs.Guards.{MayTake, MayFreeze, MayRelease, MayLeave, MayPublish, ShowsLeft, before, now}
use Rattle.table_laws.specs.Acts.{Act, starts, admits, adopts, fails, goes, marks_lost, opens, grants_root, closes_root, commits, publishes, closes, asks, refuses, grants, takes_grant, hears_refuse, gives_up, freezes, takes_offer, acknowledges, releases, leaves, alters, drops, renames, settles, settles_at_house, ReachedInTables, at_first, by_act}
use Rattle.table_laws.specs.Names.{Names}
use Rattle.table_laws.specs.Leavers.{Leavers}
use Rattle.table_laws.proofs.Lists.{later, either, spot_or, above, some_same}
use Rattle.table_laws.proofs.NamesReached.{names_reached}

-- where i's mode changes, and i didn't say Leave if it is up now
leavers_new : (v : View) (i : ℕ) (m : Mode) → ((heir : ℕ) → m ≡ Leaving heir → ⊥) → (i ∈ v.used → ⊥) → Names v
    → Leavers v → Leavers (record (start v i) { mode = put v.mode i m })
leavers_new v i m stays new n k =
    let unsaid : (l : Leave) → l ∈ v.leaves → l.from ≡ i → ⊥ = λ l o e. new (rw e at (n.leaver_used l o)) in
    let unsent : (t : Transfer) → t ∈ v.transfers → t.from ≡ i → ⊥ = λ t o e. new (rw e at (n.from_used t o)) in
    let unacked : (a : Ack) → a ∈ v.acks → a.from ≡ i
    → ⊥ = λ a o e. let b = n.acked_sent a o in new (rw (b.to ∙ e) at (n.to_used b.transfer b.sent)) in
    record {
      left_said = k.left_said;
      offer_heir = λ t j heir h o e f w. k.offer_heir t j heir h o e f (grind (arith, unsent t o));
      offer_waits = λ t j heir h o e f w. ⊎_elim
          (λ a. inl record { sub = a.sub; holds = grind (arith, unsent t o, a.holds); hop = a.hop })
          (λ b. inr b)
          (k.offer_waits t j heir h o e f (grind (arith, unsent t o)));
      acked_shut = λ a o w b. k.acked_shut a o (grind (arith, unacked a o)) (grind (arith, unacked a o));
      said_leaving = λ l o w. grind (arith, k.said_leaving l o, unsaid l o);
      said_empty = λ l g o w. grind (arith, k.said_empty l g o, unsaid l o);
      said_heir = k.said_heir;
      said_acked = k.said_acked;
    }

leavers_admit : (v : View) (i : ℕ) → v.mode i ≡ Joining → Leavers v → Leavers (admit v i)
leavers_admit v i joins k = record {
  left_said = k.left_said;
  offer_heir = λ t j heir h m e f w. k.offer_heir t j heir h m e f (grind arith);
  offer_waits = λ t j heir h m e f w. k.offer_waits t j heir h m e f (grind arith);
  acked_shut = λ a m w. k.acked_shut a m (grind arith);
  said_leaving = λ l m w. grind (arith, k.said_leaving l m);
  said_empty = λ l g m w. k.said_empty l g m (grind arith);
  said_heir = k.said_heir;
  said_acked = k.said_acked;
}

leavers_stop : (v : View) (i : ℕ) → Leavers v → Leavers (stop v i)
leavers_stop v i k = record {
  left_said = k.left_said;
  offer_heir = λ t j heir h m e f w. grind (arith, k.offer_heir t j heir h m e f);
  offer_waits = λ t j heir h m e f w. k.offer_waits t j heir h m e f (grind arith);
  acked_shut = λ a m w. k.acked_shut a m (grind arith);
  said_leaving = λ l m w. grind (arith, k.said_leaving l m);
  said_empty = λ l g m w. k.said_empty l g m (grind arith);
  said_heir = k.said_heir;
  said_acked = k.said_acked;
}

leavers_mint : (v : View) (i thief seq : ℕ) (c : Content) → Leavers v → Leavers (mint v i thief seq c)
leavers_mint v i thief seq c k = record {
  left_said = k.left_said;
  offer_heir = λ t j heir h. elim [ inl e ↦ λ f. grind (arith, e) | inr m ↦ k.offer_heir t j heir h m ];
  offer_waits = λ t j heir h. elim [ inl e ↦ λ f. grind (arith, e) | inr m ↦ k.offer_waits t j heir h m ];
  acked_shut = k.acked_shut;
  said_leaving = k.said_leaving;
  said_empty = k.said_empty;
  said_heir = λ l t h p. elim [ inl e ↦ λ f. grind (arith, e) | inr m ↦ k.said_heir l t h p m ];
  said_acked = λ l t h p. elim [ inl e ↦ λ f. grind (arith, e) | inr m ↦ k.said_acked l t h p m ];
}

-- what is above the hops seen after a take was so before
pub was_above : (v : View) (i : ℕ) (t : Transfer) (new : List Ack) → MayTake v i t new → (j : ℕ) (g : Grant) (h : ℕ)
    → Above (put_grant v.seen i t.grant (Some t.hop) j g) h → Above (v.seen j g) h
was_above v i t new may j g h a = ⊎_elim
    (λ both. let less : t.hop < h = grind (arith, a, both) in rw (both.0, both.1)
    (above (v.seen i t.grant) t.hop h may.above less))
    (λ other. grind (arith, a, other))
    (spot_or j i g t.grant)

leavers_take : (v : View) (i : ℕ) (t : Transfer) (request : Option Request) (new : List Ack) → MayTake v i t new
    → Leavers v → Leavers (take v i t request new)
leavers_take v i t request new may k = record {
  left_said = k.left_said;
  offer_heir = k.offer_heir;
  offer_waits = λ u j heir h m e f w. ⊎_elim
      (λ a. inl record { sub = a.sub; holds = grind (arith, a.holds, may.member); hop = a.hop })
      (λ b. inr (later new v.acks (ack_of u) b))
      (k.offer_waits u j heir h m e f w);
  acked_shut = λ a m w b. ⊎_elim
      (λ l. let is : a ≡ ack_of t = may.acks a l in
      let at : Above (put_grant v.seen i t.grant (Some t.hop) t.to t.grant) t.hop = rw is at b in
      grind (arith, at, may.to))
      (λ r. k.acked_shut a r w (was_above v i t new may a.from a.grant a.hop b))
      (either new v.acks a m);
  said_leaving = k.said_leaving;
  said_empty = λ l g m w. grind (arith, k.said_empty l g m w, k.said_leaving l m w, may.member);
  said_heir = k.said_heir;
  said_acked = λ l u h m q e f. later new v.acks (ack_of u) (k.said_acked l u h m q e f);
}

leavers_acknowledge : (v : View) (a : Ack) → (Above (v.seen a.from a.grant) a.hop → ⊥) → Leavers v
    → Leavers (acknowledge v a)
leavers_acknowledge v a shut k = record {
  left_said = k.left_said;
  offer_heir = k.offer_heir;
  offer_waits = λ t j heir h m e f w. ⊎_elim (λ x. inl x) (λ y. inr (inr y)) (k.offer_waits t j heir h m e f w);
  acked_shut = λ b. elim [ inl e ↦ λ w c. shut (rw e at c) | inr m ↦ k.acked_shut b m ];
  said_leaving = k.said_leaving;
  said_empty = k.said_empty;
  said_heir = k.said_heir;
  said_acked = λ l u h m q e f. inr (k.said_acked l u h m q e f);
}

member_unsaid : (v : View) (i : ℕ) → v.mode i ≡ Member → Leavers v → (l : Leave) → l ∈ v.leaves → l.from ≡ i → ⊥
member_unsaid v i member k l m e = let w : v.mode l.from ≡ Leaving l.heir =
    k.said_leaving l m (rw (e, member) tt) in grind (arith, member)

leavers_freeze : (v : View) (i heir : ℕ) (offers : List Transfer) → MayFreeze v i heir offers → Names v → Leavers v
    → Leavers (freeze v i heir offers)
leavers_freeze v i heir offers may n k =
    let unsaid : (l : Leave) → l ∈ v.leaves → l.from ≡ i → ⊥ = member_unsaid v i may.member k in
    let unoffered : (t : Transfer) (j h : ℕ) → t ∈ v.transfers → t.hop ≡ suc h → t.from ≡ j → j ≡ i
    → ⊥ = λ t j h m e f x. (n.path t h m e).stopped (rw (f ∙ x, may.member) tt) in
    let from_of : (t : Transfer) → t ∈ offers → t.from ≡ i = λ t l. ap (λ (x : Transfer). x.from) (may.each t l).is in
    let to_of : (t : Transfer) → t ∈ offers → t.to ≡ heir = λ t l. ap (λ (x : Transfer). x.to) (may.each t l).is in
    record {
      left_said = k.left_said;
      offer_heir = λ t j other h m e f w. ⊎_elim
          (λ l. let to = to_of t l in let from = from_of t l in grind (arith, to, from, f))
          (λ r. k.offer_heir t j other h r e f (grind (arith, unoffered t j h r e f)))
          (either offers v.transfers t m);
      offer_waits = λ t j other h m e f w. ⊎_elim
          (λ l. let offer = may.each t l in
          let hop : t.hop ≡ suc offer.sub.hop = ap (λ (x : Transfer). x.hop) offer.is in
          inl record { sub = offer.sub; holds = rw (sym f ∙ from_of t l) offer.holds; hop = omega arith })
          (λ r. k.offer_waits t j other h r e f (grind (arith, unoffered t j h r e f)))
          (either offers v.transfers t m);
      acked_shut = λ a m w. k.acked_shut a m (grind arith);
      said_leaving = λ l m w. grind (arith, k.said_leaving l m, unsaid l m);
      said_empty = λ l g m w. grind (arith, k.said_empty l g m, may.member);
      said_heir = λ l t h m p e f. ⊎_elim (λ x. absurd (unsaid l m (sym f ∙ from_of t x)))
          (λ r. k.said_heir l t h m r e f) (either offers v.transfers t p);
      said_acked = λ l t h m p e f. ⊎_elim (λ x. absurd (unsaid l m (sym f ∙ from_of t x)))
          (λ r. k.said_acked l t h m r e f) (either offers v.transfers t p);
    }

pub same_ack : {g g2 : Grant} {h h2 i i2 j j2 : ℕ} → g ≡ g2 → h ≡ h2 → i ≡ i2 → j ≡ j2
    → (let a : Ack = record { grant = g; hop = h; from = i; to = j } in a)
    ≡ record { grant = g2; hop = h2; from = i2; to = j2 }
same_ack e f x y = rw (e, f, x, y) refl

-- a sub goes that wasn't frozen, or whose Offer was acknowledged
leavers_release : (v : View) (i heir : ℕ) (g : Grant) (s : Sub) → MayRelease v i heir g s → Leavers v
    → Leavers (remove v i g [])
leavers_release v i heir g s may k = record {
  left_said = k.left_said;
  offer_heir = k.offer_heir;
  offer_waits = λ t j other h m e f w. ⊎_elim
      (λ a. ⊎_elim
      (λ both. let twice : a.sub ≡ s = some_same (sym a.holds ∙ rw (both.0, both.1) may.holds) in
      let to : t.to ≡ other = k.offer_heir t j other h m e f w in
      let heir_is : heir ≡ other = grind (arith, may.leaving, w, both) in
      let hop : s.hop ≡ h = ap (λ (y : Sub). y.hop) (sym twice) ∙ a.hop in
      let is : ack_of (offer_of i heir g s) ≡ ack_of t =
      same_ack (sym both.1) (omega (arith, hop, e)) (heir_is ∙ sym to) (sym both.0 ∙ sym f) in
      inr (rw is at may.acked))
      (λ apart. inl record { sub = a.sub; holds = grind (arith, a.holds, apart); hop = a.hop })
      (spot_or j i t.grant g))
      (λ b. inr b)
      (k.offer_waits t j other h m e f w);
  acked_shut = k.acked_shut;
  said_leaving = k.said_leaving;
  said_empty = λ l x m w. grind (arith, k.said_empty l x m);
  said_heir = k.said_heir;
  said_acked = k.said_acked;
}

leavers_drop : (v : View) (i : ℕ) (g : Grant) (gone : List Grant) → v.mode i ≡ Member → Leavers v
    → Leavers (remove v i g gone)
leavers_drop v i g gone member k = record {
  left_said = k.left_said;
  offer_heir = k.offer_heir;
  offer_waits = λ t j other h m e f w.
      ⊎_elim (λ a. inl record { sub = a.sub; holds = grind (arith, a.holds); hop = a.hop }) (λ b. inr b)
      (k.offer_waits t j other h m e f w);
  acked_shut = k.acked_shut;
  said_leaving = k.said_leaving;
  said_empty = λ l x m w. grind (arith, k.said_empty l x m);
  said_heir = k.said_heir;
  said_acked = k.said_acked;
}

leavers_alter : (v : View) (i : ℕ) (g : Grant) (s : Sub) (c : Content) (fill : Option Fill) (results : List Result)
    (gone : List Grant) → Live v i g s → Leavers v → Leavers (alter v i g s c fill results gone)
leavers_alter v i g s c fill results gone here k = record {
  left_said = k.left_said;
  offer_heir = k.offer_heir;
  offer_waits = λ t j other h m e f w.
      ⊎_elim (λ a. inl record { sub = a.sub; holds = grind (arith, a.holds, here.member); hop = a.hop }) (λ b. inr b)
      (k.offer_waits t j other h m e f w);
  acked_shut = k.acked_shut;
  said_leaving = k.said_leaving;
  said_empty = λ l x m w. grind (arith, k.said_empty l x m, here.holds);
  said_heir = k.said_heir;
  said_acked = k.said_acked;
}

leavers_leave : (v : View) (i heir epoch : ℕ) → MayLeave v i heir → Leavers v → Leavers (leave v i heir epoch)
leavers_leave v i heir epoch may k = record {
  left_said = λ roster j h m e. let a =
      k.left_said roster j h m e in record { leave = a.leave; sent = inr a.sent; from = a.from };
  offer_heir = k.offer_heir;
  offer_waits = k.offer_waits;
  acked_shut = k.acked_shut;
  said_leaving = λ l. elim [ inl e ↦ λ w. rw e may.leaving | inr m ↦ k.said_leaving l m ];
  said_empty = λ l g. elim [ inl e ↦ λ w. rw e (may.empty g) | inr m ↦ k.said_empty l g m ];
  said_heir = λ l t h. elim [
    | inl e ↦ λ p f q.
        rw e (k.offer_heir t i heir h p f (q ∙ ap (λ (x : Leave). x.from) e) may.leaving)
    | inr m ↦ k.said_heir l t h m
  ];
  said_acked = λ l t h. elim [
    | inl e ↦ λ p f q. ⊎_elim
        (λ a. let none : v.subs i t.grant ≡ None = may.empty t.grant in let some : v.subs i t.grant ≡ Some a.sub =
        a.holds in cc)
        (λ b. b)
        (k.offer_waits t i heir h p f (q ∙ ap (λ (x : Leave). x.from) e) may.leaving)
    | inr m ↦ k.said_acked l t h m
  ];
}

leavers_publish : (v : View) (house roster : Roster) → MayPublish v house roster → Leavers v
    → Leavers (publish v roster)
leavers_publish v house roster may k =
    let left_said : (r : Roster) (i h : ℕ) → r ∈ (publish v roster).rosters → r.status i ≡ Left h
    → Said v.leaves i = λ r i h. elim [
      | inl e ↦ λ f. said i h (may.left i h (rw e at f))
      | inr m ↦ k.left_said r i h m
    ] in
    assumption (left_said, k)
  where
    said : (i h : ℕ) → ShowsLeft v roster.epoch i h → Said v.leaves i
    said i h (before r m same e) = k.left_said r i h m e
    said i h (now r l m o e same way) = record { leave = l; sent = o; from = e }

pub leavers_kept : {v w : View} → Act v w → Names v → Leavers v → Leavers w
leavers_kept {v} (starts i new worker) n k = leavers_new v i Joining (λ heir e. cc) new n k
leavers_kept {v} (admits i roster joins listed) n k = let admitted = leavers_admit v i joins k in assumption admitted
leavers_kept (adopts i old roster may) n k = assumption k
leavers_kept {v} (fails i may) n k = let stopped = leavers_stop v i k in assumption stopped
leavers_kept {v} (goes i said) n k = leavers_stop v i k
leavers_kept (marks_lost i used worker lost) n k = assumption k
leavers_kept {v} (opens i lost roster may) n k = let opened =
    leavers_new v i House (λ heir e. cc) may.new n k in assumption opened
leavers_kept {v} (grants_root i thief seq c house new may begins) n k = let minted =
    leavers_mint v i thief seq c k in assumption minted
leavers_kept (closes_root root is) n k = assumption k
leavers_kept (commits i root o may) n k = assumption k
leavers_kept {v} (publishes house roster may) n k = leavers_publish v house roster may k
leavers_kept {v} (closes i house) n k = let stopped = leavers_stop v i k in assumption stopped
leavers_kept (asks i victim may) n k = assumption k
leavers_kept (refuses i thief seq works may) n k = assumption k
leavers_kept {v} (grants i g s m thief seq c here may begins frame) n k =
    leavers_alter (mint v i thief seq c) i g s (regrant s.content m (Some (grant_of v i thief seq c).grant)) None [] []
    (record { member = here.member; holds = here.holds }) (leavers_mint v i thief seq c k)
leavers_kept {v} (takes_grant i t may hop asked) n k = leavers_take v i t None [] may k
leavers_kept (hears_refuse i x refused thief asked) n k = assumption k
leavers_kept (gives_up i why) n k = assumption k
leavers_kept {v} (freezes i heir offers may) n k = leavers_freeze v i heir offers may n k
leavers_kept {v} (takes_offer i t h may hop) n k = leavers_take v i t (v.pending i) (ack_of t ∷ []) may k
leavers_kept {v} (acknowledges t sent seen works) n k = leavers_acknowledge v (ack_of t) seen k
leavers_kept {v} (releases i heir g s may) n k = leavers_release v i heir g s may k
leavers_kept {v} (leaves i heir roster keeps may) n k = leavers_leave v i heir roster.epoch may k
leavers_kept {v} (alters i g s c fill results gone here change is) n k =
    leavers_alter v i g s c fill results gone here k
leavers_kept {v} (drops i g s gone here had why) n k = leavers_drop v i g gone here.member k
leavers_kept {v} (renames i g s roster host here listed way) n k =
    leavers_alter v i g s (rehost s.content host) None [] [] here k
leavers_kept (settles i g may) n k = assumption k
leavers_kept (settles_at_house i g may) n k = assumption k

leavers_first : (epoch : ℕ) (stored : Option (Option ℤ)) → Leavers (first_over epoch stored)
leavers_first epoch stored = record {
  left_said = λ r i h m. absurd m;
  offer_heir = λ t i heir h m. absurd m;
  offer_waits = λ t i heir h m. absurd m;
  acked_shut = λ a m. absurd m;
  said_leaving = λ l m. absurd m;
  said_empty = λ l g m. absurd m;
  said_heir = λ l t h m. absurd m;
  said_acked = λ l t h m. absurd m;
}

pub leavers_reached : {v : View} → ReachedInTables v → Leavers v
leavers_reached (at_first epoch stored) = leavers_first epoch stored
leavers_reached (by_act r act) = leavers_kept act (names_reached r) (leavers_reached r)

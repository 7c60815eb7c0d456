-- Steals and their replies where modes change, and where a thief waits no longer.
use Rattle.std.proofs.Common.{◌≡◌, ℕ, suc, List, [], ◌∷◌, ◌++◌, ◌⊎◌, Some, None, refl, sym, inl, inr, ⊎_elim, arith, ap, ◌∙◌}
use Rattle.table_laws.specs.Tables.{◌∈◌, put, put_grant}
use Rattle.table_laws.specs.View.{Transfer, Ack, Steal, Leave, Request, Mode, Gone, Joining, Member, House, Leaving, Works, View}
use Rattle.table_laws.specs.Facts.{Said, Answered, request_of}
use Rattle.table_laws.specs.Moves.{start, admit, stop, fail, mark_lost, unpend, take, freeze}
use Rattle.table_laws.specs.Guards.{MayTake, MayFreeze, GivesUp, lost_thief, lost_victim, left_victim}
use Rattle.table_laws.specs.Names.{Names}
use Rattle.table_laws.specs.Leavers.{Leavers}
use Rattle.table_laws.specs.Requests.{Grants, Awaits, Requests}
use Rattle.table_laws.proofs.Lists.{Within, same, either, same_or, spot_or, some_same}
use Rattle.table_laws.proofs.OneHead.{none_later}

pub grants_work : (m : Mode) → Grants m → Works m
grants_work m (inl t) = grind arith
grants_work m (inr e) = rw e tt

-- who said Leave grants nothing
pub mute : (v : View) (i : ℕ) (l : Leave) → Leavers v → l ∈ v.leaves → l.from ≡ i → Grants (v.mode i) → ⊥
mute v i l k m e a = let leaving : v.mode i ≡ Leaving l.heir =
    rw e at (k.said_leaving l m (rw e (grants_work (v.mode i) a))) in at a leaving
  where
    at : Grants (v.mode i) → v.mode i ≡ Leaving l.heir → ⊥
    at (inl t) z = grind arith
    at (inr y) z = grind (arith, y, z)

-- one of two is lost, also where more are
either_lost : (lost all : List ℕ) (i j : ℕ) → Within lost all → (i ∈ lost) ⊎ (j ∈ lost) → (i ∈ all) ⊎ (j ∈ all)
either_lost lost all i j more (inl m) = inl (more i m)
either_lost lost all i j more (inr m) = inr (more j m)

-- modes change so that nobody works or grants who didn't; Offers are sent, and more are lost
requests_mode : (v : View) (mode : ℕ → Mode) (transfers : List Transfer) (lost : List ℕ)
    → ((j : ℕ) → Works (mode j) → Works (v.mode j)) → ((j : ℕ) → mode j ≡ Joining → v.mode j ≡ Joining)
    → ((j : ℕ) → Grants (mode j) → Grants (v.mode j))
    → ((t : Transfer) → t ∈ transfers → t.hop ≡ 0 → t ∈ v.transfers) → Within v.lost lost
    → ((j : ℕ) (q : Request) → Works (mode j) → v.pending j ≡ Some q → v.mode j ≡ Member → mode j ≡ Member)
    → ((x : Steal) → x ∈ v.steals → Works (v.mode x.thief)
    → v.pending x.thief ≡ Some (record { victim = x.victim; seq = x.seq }) → Awaits mode v.pending lost x)
    → Requests v → Requests (record v { mode = mode; transfers = transfers; lost = lost })
requests_mode v mode transfers lost works joins grants old more members waits q = record {
  joins_unasked = λ x m e. q.joins_unasked x m (joins x.thief e);
  kept_grant = λ i j r t w e f. q.kept_grant i j r t (works i w) e f;
  kept_refuse = λ i j r w e f. q.kept_refuse i j r (works i w) e f;
  member_waits = λ j r w e. members j r w e (q.member_waits j r (works j w) e);
  one_victim = q.one_victim;
  asked_most = λ x m w. q.asked_most x m (works x.thief w);
  asked_last = λ j r w e. q.asked_last j r (works j w) e;
  asked_sent = λ j r w e. q.asked_sent j r (works j w) e;
  grant_asked = λ t m e. q.grant_asked t (old t m e) e;
  refuse_asked = q.refuse_asked;
  one_grant = λ t u m o e f. q.one_grant t u (old t m e) (old u o f) e f;
  one_reply = λ t x m o e. q.one_reply t x (old t m e) o e;
  grant_kept = λ t m e w. q.grant_kept t (old t m e) e (works t.from w);
  refuse_kept = λ x m w. q.refuse_kept x m (works x.victim w);
  unseen = λ t m e w p. q.unseen t (old t m e) e (works t.to w) p;
  unanswered = λ x m a f. ⊎_elim (λ p. waits x m p.0 p.1) (λ l. inr (either_lost v.lost lost x.thief x.victim more l))
      (q.unanswered x m (grants x.victim a) f);
  awaited = λ l t m o e f w p. either_lost v.lost lost t.to t.from more
      (q.awaited l t m (old t o e) e f (works t.to w) p);
}

pub requests_admit : (v : View) (i : ℕ) → v.mode i ≡ Joining → Requests v → Requests (admit v i)
requests_admit v i joins q = requests_mode v (put v.mode i Member) v.transfers v.lost (λ j w. grind (arith, joins))
    (λ j e. grind (arith, e)) grants (λ t m e. m) (same v.lost) (λ j r w e f. grind (arith, f))
    (λ x m w p. inl (grind (arith, w), p)) q
  where
    grants : (j : ℕ) → Grants (put v.mode i Member j) → Grants (v.mode j)
    grants j (inl t) = inl (grind arith)
    grants j (inr e) = inr (grind arith)

stopped_grants : (v : View) (i : ℕ) (j : ℕ) → Grants (put v.mode i Gone j) → Grants (v.mode j)
stopped_grants v i j (inl t) = inl (grind arith)
stopped_grants v i j (inr e) = inr (grind arith)

-- one that fails is lost
pub requests_fail : (v : View) (i : ℕ) → Requests v → Requests (fail v i)
requests_fail v i q = requests_mode v (put v.mode i Gone) v.transfers (i ∷ v.lost) (λ j w. grind arith)
    (λ j e. grind arith) (stopped_grants v i) (λ t m e. m) (λ j m. inr m) (λ j r w e f. grind (arith, f)) waits q
  where
    waits : (x : Steal) → x ∈ v.steals → Works (v.mode x.thief)
        → v.pending x.thief ≡ Some (record { victim = x.victim; seq = x.seq })
        → Awaits (put v.mode i Gone) v.pending (i ∷ v.lost) x
    waits x m w p = ⊎_elim (λ is. inr (inl (inl is))) (λ other. inl (grind (arith, w, other), p)) (same_or x.thief i)

-- one that isn't a member waits on nobody
requests_stop : (v : View) (i : ℕ) → (v.mode i ≡ Member → ⊥) → Requests v → Requests (stop v i)
requests_stop v i other q = requests_mode v (put v.mode i Gone) v.transfers v.lost (λ j w. grind arith)
    (λ j e. grind arith) (stopped_grants v i) (λ t m e. m) (same v.lost) (λ j r w e f. grind (arith, f)) waits q
  where
    waits : (x : Steal) → x ∈ v.steals → Works (v.mode x.thief)
        → v.pending x.thief ≡ Some (record { victim = x.victim; seq = x.seq })
        → Awaits (put v.mode i Gone) v.pending v.lost x
    waits x m w p = ⊎_elim
        (λ (is : x.thief ≡ i). absurd (other
        (rw is at (q.member_waits x.thief (record { victim = x.victim; seq = x.seq }) w p))))
        (λ apart. inl (grind (arith, w, apart), p))
        (same_or x.thief i)

pub requests_go : (v : View) (i : ℕ) → Said v.leaves i → Leavers v → Requests v → Requests (stop v i)
requests_go v i said k q = requests_stop v i
    (λ e. let leaving : v.mode i ≡ Leaving said.leave.heir =
    rw said.from at (k.said_leaving said.leave said.sent (rw (said.from, e) tt)) in grind (arith, leaving, e)) q

pub requests_close : (v : View) (i : ℕ) → v.mode i ≡ House → Requests v → Requests (stop v i)
requests_close v i house q = requests_stop v i (λ e. grind (arith, house, e)) q

pub requests_mark_lost : (v : View) (i : ℕ) → Requests v → Requests (mark_lost v i)
requests_mark_lost v i q = requests_mode v v.mode v.transfers (i ∷ v.lost) (λ j w. w) (λ j e. e) (λ j a. a) (λ t m e. m)
    (λ j m. inr m) (λ j r w e f. f) (λ x m w p. inl (w, p)) q

pub requests_freeze : (v : View) (i heir : ℕ) (offers : List Transfer) → MayFreeze v i heir offers → Requests v
    → Requests (freeze v i heir offers)
requests_freeze v i heir offers may q =
    requests_mode v (put v.mode i (Leaving heir)) (offers ++ v.transfers) v.lost (λ j w. grind (arith, may.member))
    (λ j e. grind arith) grants old (same v.lost)
    (λ j r w e f. let idle = may.idle in grind (arith, f, e, idle))
    (λ x m w p. inl (grind (arith, w), p)) q
  where
    grants : (j : ℕ) → Grants (put v.mode i (Leaving heir) j) → Grants (v.mode j)
    grants j (inl t) = inl (grind arith)
    grants j (inr e) = inr (grind arith)

    old : (t : Transfer) → t ∈ (offers ++ v.transfers) → t.hop ≡ 0 → t ∈ v.transfers
    old t m e = ⊎_elim (λ l. let hop : t.hop ≡ suc (may.each t l).sub.hop =
        ap (λ (x : Transfer). x.hop) (may.each t l).is in absurd (omega (arith, hop, e))) (λ r. r)
        (either offers v.transfers t m)

-- a new name; the lost may be told anew
pub requests_new : (v : View) (i : ℕ) (m : Mode) (lost : List ℕ) → (i ∈ v.used → ⊥)
    → ((x : Steal) → x ∈ v.steals → Awaits v.mode v.pending v.lost x → (x.thief ≡ i → ⊥)
    → Awaits (put v.mode i m) (put v.pending i None) lost x)
    → ((t : Transfer) → t ∈ v.transfers → t.hop ≡ 0 → (t.to ∈ v.lost) ⊎ (t.from ∈ v.lost)
    → (t.to ∈ lost) ⊎ (t.from ∈ lost))
    → Names v → Requests v → Requests (record (start v i) { mode = put v.mode i m; lost = lost })
requests_new v i m lost new awaits still n q = record {
  joins_unasked = λ x o e. let other = thief x o in grind (arith, q.joins_unasked x o, other);
  kept_grant = λ a b r t w e f. q.kept_grant a b r t (grind arith) (grind arith) f;
  kept_refuse = λ a b r w e f. q.kept_refuse a b r (grind arith) (grind arith) f;
  member_waits = λ j r w e. grind (arith, q.member_waits j r);
  one_victim = q.one_victim;
  asked_most = λ x o w. let other = thief x o in let most =
      q.asked_most x o (grind (arith, w, other)) in grind (arith, most, other);
  asked_last = λ j r w e. let was : v.pending j ≡ Some r = grind (arith, e) in let up : Works (v.mode j) =
      grind (arith, e, w) in let at = q.asked_last j r up was in grind (arith, e, at);
  asked_sent = λ j r w e. q.asked_sent j r (grind arith) (grind arith);
  grant_asked = q.grant_asked;
  refuse_asked = q.refuse_asked;
  one_grant = q.one_grant;
  one_reply = q.one_reply;
  grant_kept = λ t o e w. grind (arith, q.grant_kept t o e, from t o);
  refuse_kept = λ x o w. grind (arith, q.refuse_kept x o, victim x (q.refuse_asked x o));
  unseen = λ t o e w p. grind (arith, q.unseen t o e, p);
  unanswered = λ x o a f. awaits x o (q.unanswered x o (grants x o a) (λ b. f (grind (arith, b, victim x o))))
      (thief x o);
  awaited = λ l t o p e f w r. still t p e (q.awaited l t o p e f (grind arith) (grind arith));
}
  where
    thief : (x : Steal) → x ∈ v.steals → x.thief ≡ i → ⊥
    thief x o e = new (rw e at (n.thief_used x o))

    victim : (x : Steal) → x ∈ v.steals → x.victim ≡ i → ⊥
    victim x o e = new (rw e at (n.victim_used x o))

    from : (t : Transfer) → t ∈ v.transfers → t.from ≡ i → ⊥
    from t o e = new (rw e at (n.from_used t o))

    grants : (x : Steal) → x ∈ v.steals → Grants (put v.mode i m x.victim) → Grants (v.mode x.victim)
    grants x o (inl t) = let other = victim x o in inl (grind (arith, other))
    grants x o (inr e) = let other = victim x o in inr (grind (arith, other))

-- i waits no longer: what it waited on is answered, or somebody is lost
requests_unpend : (v : View) (i : ℕ)
    → ((x : Steal) → x ∈ v.steals → x.thief ≡ i → v.pending i ≡ Some (record { victim = x.victim; seq = x.seq })
    → Grants (v.mode x.victim) → (Answered (v.kept x.victim x.thief) x.seq → ⊥)
    → (x.thief ∈ v.lost) ⊎ (x.victim ∈ v.lost))
    → Requests v → Requests (unpend v i)
requests_unpend v i free q = record {
  joins_unasked = q.joins_unasked;
  kept_grant = q.kept_grant;
  kept_refuse = q.kept_refuse;
  member_waits = λ j r w e. q.member_waits j r w (grind arith);
  one_victim = q.one_victim;
  asked_most = q.asked_most;
  asked_last = λ j r w e. q.asked_last j r w (grind arith);
  asked_sent = λ j r w e. q.asked_sent j r w (grind arith);
  grant_asked = q.grant_asked;
  refuse_asked = q.refuse_asked;
  one_grant = q.one_grant;
  one_reply = q.one_reply;
  grant_kept = q.grant_kept;
  refuse_kept = q.refuse_kept;
  unseen = λ t m e w r. q.unseen t m e w (grind arith);
  unanswered = λ x m a f. at x m a f (q.unanswered x m a f);
  awaited = λ l t m o e f w r. q.awaited l t m o e f w (grind arith);
}
  where
    at : (x : Steal) → x ∈ v.steals → Grants (v.mode x.victim) → (Answered (v.kept x.victim x.thief) x.seq → ⊥)
        → Awaits v.mode v.pending v.lost x → Awaits v.mode (put v.pending i None) v.lost x
    at x m a f (inl p) = let e = p.1 in ⊎_elim (λ (is : x.thief ≡ i). inr (free x m is (rw is at e) a f))
        (λ other. inl (p.0, grind (arith, e, other))) (same_or x.thief i)
    at x m a f (inr l) = inr l

pub requests_refused : (v : View) (i : ℕ) (y : Steal) → y ∈ v.refusals → y.thief ≡ i
    → v.pending i ≡ Some (record { victim = y.victim; seq = y.seq }) → Requests v → Requests (unpend v i)
requests_refused v i y o z p q = requests_unpend v i
    (λ x m is e a f.
    let two = some_same (sym p ∙ e) in
    let victim : y.victim ≡ x.victim = ap (λ (r : Request). r.victim) two in
    let seq : y.seq ≡ x.seq = ap (λ (r : Request). r.seq) two in
    absurd (f (rw (← victim, is, ← z, ← seq) (q.refuse_kept y o (rw victim (grants_work (v.mode x.victim) a)))))) q

pub requests_give_up : (v : View) (i : ℕ) → GivesUp v i → Leavers v → Requests v → Requests (unpend v i)
requests_give_up v i up l q = requests_unpend v i (λ x m is e a f. gone x a e is up) q
  where
    gone : (x : Steal) → Grants (v.mode x.victim) → v.pending i ≡ Some (record { victim = x.victim; seq = x.seq })
        → x.thief ≡ i → GivesUp v i → (x.thief ∈ v.lost) ⊎ (x.victim ∈ v.lost)
    gone x a e is (lost_thief m) = inl (rw is m)
    gone x a e is (lost_victim r p m) = let victim : r.victim ≡ x.victim =
        ap (λ (z : Request). z.victim) (some_same (sym p ∙ e)) in inr (rw victim at m)
    gone x a e is (left_victim r k p m f) = let victim : r.victim ≡ x.victim =
        ap (λ (z : Request). z.victim) (some_same (sym p ∙ e)) in absurd (mute v x.victim k l m (f ∙ victim) a)

pub requests_take_grant : (v : View) (i : ℕ) (t : Transfer) → MayTake v i t [] → t.hop ≡ 0
    → v.pending i ≡ Some (request_of t) → Requests v → Requests (take v i t None [])
requests_take_grant v i t may hop p q =
    let waits_no_more = requests_unpend v i
    (λ x m is e a f.
    let two = some_same (sym p ∙ e) in
    let victim : t.from ≡ x.victim = ap (λ (r : Request). r.victim) two in
    let seq : t.seq ≡ x.seq = ap (λ (r : Request). r.seq) two in
    absurd (f (rw (← victim, is, ← may.to, ← seq)
    (q.grant_kept t may.sent hop (rw victim (grants_work (v.mode x.victim) a)))))) q in
    let unseen : (u : Transfer) → u ∈ v.transfers → u.hop ≡ 0 → Works (v.mode u.to)
    → put v.pending i None u.to ≡ Some (request_of u)
    → put_grant v.seen i t.grant (Some t.hop) u.to u.grant ≡ None = λ u m e w r. let s =
    q.unseen u m e w (grind (arith, r)) in grind (arith, s, r) in
    assumption (unseen, waits_no_more)

-- who takes an Offer of g waits on no Grant of g: it would have sent an Offer before
pub requests_take_offer : (v : View) (i : ℕ) (t : Transfer) (h : ℕ) (new : List Ack) → MayTake v i t new → t.hop ≡ suc h
    → Names v → Requests v → Requests (take v i t (v.pending i) new)
requests_take_offer v i t h new may hop n q = record {
  joins_unasked = q.joins_unasked;
  kept_grant = q.kept_grant;
  kept_refuse = q.kept_refuse;
  member_waits = λ j r w e. q.member_waits j r w (grind arith);
  one_victim = q.one_victim;
  asked_most = q.asked_most;
  asked_last = λ j r w e. q.asked_last j r w (grind arith);
  asked_sent = λ j r w e. q.asked_sent j r w (grind arith);
  grant_asked = q.grant_asked;
  refuse_asked = q.refuse_asked;
  one_grant = q.one_grant;
  one_reply = q.one_reply;
  grant_kept = q.grant_kept;
  refuse_kept = q.refuse_kept;
  unseen = λ u m e w r. ⊎_elim
      (λ both. absurd (none_later v n u.grant 0 u.to h
      (record { transfer = u; sent = m; grant = refl; hop = e; to = refl }) (rw (both.0, may.member) tt) t may.sent
      (sym both.1) (hop ∙ omega arith)))
      (λ other. let s = q.unseen u m e w (grind arith) in grind (arith, s, other))
      (spot_or u.to i u.grant t.grant);
  unanswered = λ x m a f. ⊎_elim (λ p. inl (p.0, let e = p.1 in grind (arith, e))) (λ l. inr l) (q.unanswered x m a f);
  awaited = λ l u m o e f w r. q.awaited l u m o e f w (grind arith);
}

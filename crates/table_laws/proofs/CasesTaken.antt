-- The four cases of a record where transfers are taken, acknowledged and offered.
use Rattle.std.proofs.Common.{◌≡◌, ℕ, ◌+◌, ◌-◌, suc, zero, List, ◌⊎◌, Option, Some, None, refl, sym, inl, inr, ⊎_elim, arith, ap, ◌∙◌}
use Rattle.ids.specs.Names.{Grant}
use Rattle.table_laws.specs.Tables.{◌∈◌, put_grant}
use Rattle.table_laws.specs.View.{Transfer, Ack, Sub, Request, Works, View}
use Rattle.table_laws.specs.Facts.{SentTo, Above, request_of, ack_of, offer_of}
use Rattle.table_laws.specs.Moves.{take, acknowledge, freeze}
use Rattle.table_laws.specs.Guards.{MayTake, MayFreeze}
use Rattle.table_laws.specs.Names.{Names}
use Rattle.table_laws.specs.Requests.{Requests}
use Rattle.table_laws.specs.Cases.{alive, awaited, frozen, cut_off, Case, Cases}
use Rattle.table_laws.proofs.Lists.{later, early, either, same_or, grant_or, spot_or, some_same}
use Rattle.table_laws.proofs.Sent.{one_to, held_sent}
use Rattle.table_laws.proofs.NamesFrozen.{unoffered}
use Rattle.table_laws.proofs.OneHead.{last}
use Rattle.table_laws.proofs.Heads.{heads_take, heads_freeze}
use Rattle.table_laws.proofs.Paths.{next_hop}
use Rattle.table_laws.proofs.CasesKept.{cases_by, came_either}

-- what a thief waits on after it took t: nothing after a Grant, which it waited on, and the same as
-- before after an Offer
pub record Clears (v : View) (i : ℕ) (t : Transfer) (request : Option Request) : Type 0 where
  pub grant : t.hop ≡ 0 → v.pending i ≡ Some (request_of t)
  pub offer : (h : ℕ) → t.hop ≡ suc h → request ≡ v.pending i

pub cases_take : (v : View) (i : ℕ) (t : Transfer) (request : Option Request) (new : List Ack) → MayTake v i t new
    → Clears v i t request → ((h : ℕ) → t.hop ≡ suc h → ack_of t ∈ new) → Names v → Requests v → Cases v
    → Cases (take v i t request new)
cases_take v i t request new may clears acks n q c =
    cases_by v (take v i t request new) (heads_take v i t request new may) refl (λ g k d m h e. kept g k)
    (λ k e. kept k k)
    (λ u h j m e f w s. ⊎_elim
    (λ both. let is : u ≡ t = n.one u t m may.sent both.1 (some_same (hops u j both s)) in
    let hop : t.hop ≡ suc h = ap (λ (y : Transfer). y.hop) (sym is) ∙ e in
    early new v.acks (ack_of u) (rw is (acks h hop)))
    (λ other. later new v.acks (ack_of u) (c.taken_acked u h j m e f w (grind (arith, s, other))))
    (spot_or j i u.grant t.grant))
    (λ u x h m o e f z. later new v.acks (ack_of u) (c.passed_acked u x h m o e f z)) c
  where
    hops : (u : Transfer) (j : ℕ) → ((j ≡ i) × (u.grant ≡ t.grant))
        → put_grant v.seen i t.grant (Some t.hop) j u.grant ≡ Some u.hop → Some u.hop ≡ Some t.hop
    hops u j both s = grind (arith, s, both)

    -- what i waits on isn't answered by another Grant
    waits : (u : Transfer) → u ∈ v.transfers → u.hop ≡ 0 → v.pending u.to ≡ Some (request_of u) → u.to ≡ i
        → (u.grant ≡ t.grant → ⊥) → (h : ℕ) → t.hop ≡ h → request ≡ v.pending i
    waits u m f r is other zero z =
        let two : v.pending i ≡ Some (request_of u) = rw is at r in
        let seq : u.seq ≡ t.seq = ap (λ (y : Request). y.seq) (some_same (sym two ∙ clears.grant z)) in
        absurd (other (ap (λ (y : Transfer). y.grant) (q.one_grant u t m may.sent f z (is ∙ sym may.to) seq)))
    waits u m f r is other (suc h) z = clears.offer h z

    here : (g k : Grant) → k ≡ t.grant → Case (take v i t request new) g k
    here g k is = alive i (record { hop = t.hop; content = t.content })
        (record { member = may.member; holds = grind (arith, is) })

    kept_other : (g k : Grant) → (k ≡ t.grant → ⊥) → Case v g k → Case (take v i t request new) g k
    kept_other g k other (alive j s a) = alive j s (record { member = a.member; holds = grind (arith, a.holds, other) })
    kept_other g k other (awaited u m e f w r) = awaited u m e f w (⊎_elim
        (λ is. let still : request ≡ v.pending i =
        waits u m f r is (λ x. other (sym e ∙ x)) t.hop refl in grind (arith, r, is, still))
        (λ apart. grind (arith, r, apart))
        (same_or u.to i))
    kept_other g k other (frozen j h s a b y) = frozen j h s a (grind (arith, b, other))
        (λ x. ⊎_elim (λ l. other (ap (λ (z : Ack). z.grant) (may.acks (ack_of (offer_of j h k s)) l))) y
        (either new v.acks (ack_of (offer_of j h k s)) x))
    kept_other g k other (cut_off j m y) = cut_off j m y

    kept : (g k : Grant) → Case v g k → Case (take v i t request new) g k
    kept g k a = ⊎_elim (λ is. here g k is) (λ other. kept_other g k other a) (grant_or k t.grant)

-- i departs: what it held live is frozen, and its Offer is new, so not acknowledged
pub cases_freeze : (v : View) (i heir : ℕ) (offers : List Transfer) → MayFreeze v i heir offers → Names v → Cases v
    → Cases (freeze v i heir offers)
cases_freeze v i heir offers may n c =
    cases_by v (freeze v i heir offers) (heads_freeze v i heir offers may) refl (λ g k d m h e. kept g k)
    (λ k e. kept k k)
    (λ t h j m e f w s. ⊎_elim
    (λ l. let b = n.seen_sent j t.hop t.grant (grind (arith, may.member)) s in absurd
    (unoffered v i heir t b.transfer may.member n (may.each t l) b.sent (sym b.grant) (sym b.hop)))
    (λ r. c.taken_acked t h j r e f (grind (arith, may.member)) s)
    (either offers v.transfers t m))
    (λ t u h m o e f z. passed t u h e f z (either offers v.transfers t m) (either offers v.transfers u o)) c
  where
    hop_of : (t : Transfer) (l : t ∈ offers) → t.hop ≡ suc (may.each t l).sub.hop
    hop_of t l = ap (λ (x : Transfer). x.hop) (may.each t l).is

    came : (t : Transfer) (l : t ∈ offers) → SentTo v.transfers t.grant (may.each t l).sub.hop i
    came t l = let o = may.each t l in held_sent v n i t.grant o.sub (rw may.member tt) o.holds

    -- what i took it has acknowledged, and offers only now
    passed : (t u : Transfer) (h : ℕ) → t.grant ≡ u.grant → t.hop ≡ suc h → u.hop ≡ suc t.hop
        → (t ∈ offers) ⊎ (t ∈ v.transfers) → (u ∈ offers) ⊎ (u ∈ v.transfers) → ack_of t ∈ v.acks
    passed t u h e f z (inl x) (inl y) =
        let a = may.each t x in let b = may.each u y in
        let one : v.subs i t.grant ≡ Some a.sub = a.holds in
        let two : v.subs i u.grant ≡ Some b.sub = b.holds in
        let same : a.sub ≡ b.sub = cc in
        let level : a.sub.hop ≡ b.sub.hop = ap (λ (s : Sub). s.hop) same in
        let hx = hop_of t x in let hy = hop_of u y in absurd (omega (arith, hx, hy, level, z))
    passed t u h e f z (inl x) (inr y) =
        let low = last v n t.grant (may.each t x).sub.hop i (came t x) (rw may.member tt) u y (sym e) in
        let hx = hop_of t x in absurd (omega (arith, hx, low, z))
    passed t u h e f z (inr x) (inl y) =
        let b = may.each u y in
        let hy = hop_of u y in
        let level : t.hop ≡ b.sub.hop = omega (arith, hy, z) in
        let to : t.to ≡ i = one_to n (record { transfer = t; sent = x; grant = e; hop = level; to = refl })
        (came u y) in
        let seen : v.seen i u.grant ≡ Some b.sub.hop = n.held_seen i u.grant b.sub (rw may.member tt) b.holds in
        c.taken_acked t h i x f to (rw may.member tt) (rw (e, level) seen)
    passed t u h e f z (inr x) (inr y) = c.passed_acked t u h x y e f z

    unacked : (k : Grant) (s : Sub) → v.subs i k ≡ Some s → ack_of (offer_of i heir k s) ∈ v.acks → ⊥
    unacked k s e x =
        let b = n.acked_sent (ack_of (offer_of i heir k s)) x in
        let low = last v n k s.hop i (held_sent v n i k s (rw may.member tt) e)
        (rw may.member tt) b.transfer b.sent b.grant in
        omega (arith, low, b.hop)

    kept : (g k : Grant) → Case v g k → Case (freeze v i heir offers) g k
    kept g k (alive j s a) = ⊎_elim
        (λ is. frozen i heir s (grind arith) (rw is at a.holds) (λ x. unacked k s (rw is at a.holds) x))
        (λ other. alive j s (record { member = grind (arith, a.member, other); holds = a.holds }))
        (same_or j i)
    kept g k (awaited t m e f w p) = awaited t (later offers v.transfers t m) e f (grind arith) p
    kept g k (frozen j h s a b y) = frozen j h s (grind (arith, a, may.member)) b y
    kept g k (cut_off j m y) = cut_off j m (came_either (later offers v.transfers) y)

-- An acknowledgement again: of what was taken at that hop it was sent before; where more was taken,
-- what came at that hop was offered on, and so acknowledged too.
pub cases_acknowledge : (v : View) (t : Transfer) → t ∈ v.transfers → (Above (v.seen t.to t.grant) t.hop → ⊥)
    → Works (v.mode t.to) → Names v → Cases v → Cases (acknowledge v (ack_of t))
cases_acknowledge v t m seen works n c =
    cases_by v (acknowledge v (ack_of t)) (λ g d h. h) refl (λ g k d o h e. kept g k) (λ k e. kept k k)
    (λ u h j o e f w s. inr (c.taken_acked u h j o e f w s))
    (λ u x h o z e f y. inr (c.passed_acked u x h o z e f y)) c
  where
    before : (k : ℕ) (o : Option ℕ) → t.hop ≡ suc k → v.seen t.to t.grant ≡ o → (Above o t.hop → ⊥) → ack_of t ∈ v.acks
    before k None f e a = absurd (a tt)
    before k (Some h) f e a = ⊎_elim
        (λ level. c.taken_acked t k t.to m f refl works (e ∙ ap Some level))
        (λ apart.
        let far : h ≡ suc (t.hop + (h - suc t.hop)) = omega (arith, a, apart) in
        let b = n.seen_sent t.to h t.grant works e in
        let x = (next_hop v n t.grant t.hop t.to (h - suc t.hop) (rw (← far) b)).1 in
        c.passed_acked t x.transfer k m x.sent (sym x.grant) f x.hop)
        (same_or h t.hop)

    kept : (g k : Grant) → Case v g k → Case (acknowledge v (ack_of t)) g k
    kept g k (alive j s a) = alive j s a
    kept g k (awaited u o e f w p) = awaited u o e f w p
    kept g k (frozen j h s a b y) = frozen j h s a b
        (elim [
          | inl e ↦ y (rw e (before s.hop (v.seen t.to t.grant) (sym (ap (λ (z : Ack). z.hop) e)) refl seen))
          | inr x ↦ y x
        ])
    kept g k (cut_off j o y) = cut_off j o y

-- A grant has at most one head: it stands at the last transfer.
use Rattle.std.proofs.Common.{◌≡◌, ℕ, ◌+◌, ◌-◌, ◌<◌, ◌≤◌, suc, zero, ◌⊎◌, Option, Some, sym, ⊎_elim, arith, ap, ◌∙◌}
use Rattle.ids.specs.Names.{Grant}
use Rattle.table_laws.specs.Tables.{◌∈◌}
use Rattle.table_laws.specs.Content.{Content}
use Rattle.table_laws.specs.View.{Transfer, Sub, Takes, View}
use Rattle.table_laws.specs.Facts.{SentTo, Above, Live, Open, Head, live_at, open_at}
use Rattle.table_laws.specs.Names.{Names}
use Rattle.table_laws.proofs.Sent.{one_to, held_sent, sent_as}

-- no transfer follows that to one who still takes: hop by hop, its sender would have stopped
pub none_later : (v : View) → Names v → (g : Grant) (h i d : ℕ) → SentTo v.transfers g h i → Takes (v.mode i)
    → (u : Transfer) → u ∈ v.transfers → u.grant ≡ g → u.hop ≡ suc (h + d) → ⊥
none_later v n g h i zero s takes u m e f =
    let handed = n.path u h m (omega arith) in
    let is : u.from ≡ i = one_to n handed.before (rw e s) in
    handed.stopped (rw is takes)
none_later v n g h i (suc d) s takes u m e f =
    let before = (n.path u (suc (h + d)) m (omega arith)).before in
    none_later v n g h i d s takes before.transfer before.sent (before.grant ∙ e) before.hop

-- so it is the last
pub last : (v : View) → Names v → (g : Grant) (h i : ℕ) → SentTo v.transfers g h i → Takes (v.mode i) → (u : Transfer)
    → u ∈ v.transfers → u.grant ≡ g → u.hop ≤ h
last v n g h i s takes u m e =
    ⊎_elim (λ less. less) (λ more. absurd (none_later v n g h i (u.hop - suc h) s takes u m e (omega arith)))
    (at_most u.hop h)
  where
    at_most : (a b : ℕ) → (a ≤ b) ⊎ (b < a)
    at_most a b = grind arith

-- the transfer at which a head stands went to one who still takes
pub record Stands (v : View) (g : Grant) (i : ℕ) : Type 0 where
  pub hop : ℕ
  pub sent : SentTo v.transfers g hop i
  pub takes : Takes (v.mode i)

-- all such transfers are one
pub one_place : (v : View) → Names v → (g : Grant) (i j : ℕ) → (a : Stands v g i) → (b : Stands v g j)
    → (a.hop ≡ b.hop) × (i ≡ j)
one_place v n g i j a b =
    let up = last v n g a.hop i a.sent a.takes b.sent.transfer b.sent.sent b.sent.grant in
    let down = last v n g b.hop j b.sent b.takes a.sent.transfer a.sent.sent a.sent.grant in
    let level : a.hop ≡ b.hop = omega (arith, a.sent.hop, b.sent.hop) in
    (level, one_to n a.sent (rw level b.sent))

abbrev pub live_stands : (v : View) → Names v → (i : ℕ) (g : Grant) (s : Sub) → Live v i g s → Stands v g i
live_stands v n i g s live = record {
  hop = s.hop;
  sent = held_sent v n i g s (rw live.member tt) live.holds;
  takes = rw live.member tt;
}

abbrev pub open_stands : (v : View) (t : Transfer) → Open v t → Stands v t.grant t.to
open_stands v t open_now = record { hop = t.hop; sent = sent_as t open_now.sent; takes = open_now.takes }

-- one name at most holds a grant live
pub one_live : (v : View) → Names v → (i j : ℕ) (g : Grant) (s t : Sub) → Live v i g s → Live v j g t → i ≡ j
one_live v n i j g s t a b = (one_place v n g i j (live_stands v n i g s a) (live_stands v n j g t b)).1

-- what is held live can't be taken besides
pub not_both : (v : View) → Names v → (i : ℕ) (g : Grant) (s : Sub) (t : Transfer) → Live v i g s → Open v t
    → t.grant ≡ g → ⊥
not_both v n i g s t a o e =
    let p = one_place v n g i t.to (live_stands v n i g s a) (rw e at (open_stands v t o)) in
    let here : v.seen i g ≡ Some s.hop = n.held_seen i g s (rw a.member tt) a.holds in
    let hop : s.hop ≡ t.hop = p.0 in
    let to : i ≡ t.to = p.1 in
    let seen : v.seen t.to t.grant ≡ Some t.hop = cc in
    irreflexive (v.seen t.to t.grant) t.hop seen o.above
  where
    irreflexive : (x : Option ℕ) (h : ℕ) → x ≡ Some h → Above x h → ⊥
    irreflexive x h f l = grind arith

-- so a grant's heads have one content
pub one_head : (v : View) → Names v → (g : Grant) (c d : Content) → Head v g c → Head v g d → c ≡ d
one_head v n g c d (live_at i s a x) (live_at j t b y) =
    let to : i ≡ j = one_live v n i j g s t a b in
    let first : v.subs i g ≡ Some s = a.holds in
    let second : v.subs j g ≡ Some t = b.holds in
    let same : s ≡ t = cc in
    sym x ∙ ap (λ (z : Sub). z.content) same ∙ y
one_head v n g c d (live_at i s a x) (open_at t o e y) = absurd (not_both v n i g s t a o e)
one_head v n g c d (open_at t o e x) (live_at i s a y) = absurd (not_both v n i g s t a o e)
one_head v n g c d (open_at t o e x) (open_at u p f y) =
    let here = one_place v n g t.to u.to (rw e at (open_stands v t o)) (rw f at (open_stands v u p)) in
    sym x ∙ ap (λ (z : Transfer). z.content) (n.one t u o.sent p.sent (e ∙ sym f) here.0) ∙ y

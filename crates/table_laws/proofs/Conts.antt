-- Contents come from contents: after a move, each content of a grant was one before, or is the one
-- that the move made.
use Rattle.std.proofs.Common.{◌≡◌, ℕ, ℤ, List, [], ◌⊎◌, Option, Some, None, refl, sym, inl, inr, ⊎_elim, arith, ap, ◌∙◌}
use Rattle.ids.specs.Names.{Grant}
use Rattle.table_laws.specs.Tables.{put}
use Rattle.table_laws.specs.Content.{Content}
use Rattle.table_laws.specs.View.{Transfer, Ack, Sub, Request, Mode, Works, View, first_over}
use Rattle.table_laws.specs.Facts.{Granted, Live, Head, live_at, open_at, Cont, held, sent, Host, by_content, by_result, grant_of}
use Rattle.table_laws.specs.Moves.{start, mint, take, freeze, remove, alter}
use Rattle.table_laws.specs.Guards.{MayTake, MayFreeze}
use Rattle.table_laws.specs.Names.{Names}
use Rattle.table_laws.proofs.Lists.{Within, either, spot_or}
use Rattle.table_laws.proofs.Sent.{held_sent, granted_of}
use Rattle.table_laws.proofs.Heads.{written, heads_alter}

abbrev pub Conts : View → View → Type 0
Conts v w = (g : Grant) (c : Content) → Cont w g c → Cont v g c

-- a head's content, and a live sub's, is one
pub head_cont : (v : View) (g : Grant) (c : Content) → Head v g c → Cont v g c
head_cont v g c (live_at i s a q) = held i s (rw a.member tt) a.holds q
head_cont v g c (open_at t o e q) = sent t o.sent e q

pub live_cont : (v : View) (i : ℕ) (g : Grant) (s : Sub) → Live v i g s → Cont v g s.content
live_cont v i g s here = held i s (rw here.member tt) here.holds refl

-- at first nothing has one
pub no_cont : (epoch : ℕ) (stored : Option (Option ℤ)) (g : Grant) (c : Content) → Cont (first_over epoch stored) g c
    → ⊥
no_cont epoch stored g c (held i s w e q) = w
no_cont epoch stored g c (sent t m e q) = m

-- what has a content was granted, and so was what has a record in it
pub cont_sent : (v : View) → Names v → (g : Grant) (c : Content) → Cont v g c → Granted v.transfers g
cont_sent v n g c (held i s w e q) = granted_of (held_sent v n i g s w e)
cont_sent v n g c (sent t m e q) = record { transfer = t; sent = m; grant = e }

pub record_sent : (v : View) → Names v → (g k : Grant) (c : Content) (o : ℕ) → Cont v g c → c.granted o ≡ Some k
    → Granted v.transfers k
record_sent v n g k c o (held i s w e q) f = n.sub_granted i g k s o w e (rw q f)
record_sent v n g k c o (sent t m e q) f = n.sent_granted t k o m (rw q f)

-- with fewer contents and Results there are fewer parent hosts
pub hosts_by : (v w : View) → Conts v w → Within w.results v.results → (g : Grant) (i : ℕ) → Host w g i → Host v g i
hosts_by v w conts results g i (by_content c a e) = by_content c (conts g c a) e
hosts_by v w conts results g i (by_result x m e f) = by_result x (results x m) e f

pub conts_new : (v : View) (i : ℕ) (m : Mode) → Conts v (record (start v i) { mode = put v.mode i m })
conts_new v i m g c (held j s w e q) = held j s (grind arith) (grind arith) q
conts_new v i m g c (sent t o e q) = sent t o e q

-- where nobody works that didn't
pub conts_mode : (v : View) (i : ℕ) (m : Mode) → (Works m → Works (v.mode i))
    → Conts v (record v { mode = put v.mode i m })
conts_mode v i m works g c (held j s w e q) = held j s (grind (arith, w, works)) e q
conts_mode v i m works g c (sent t o e q) = sent t o e q

pub conts_take : (v : View) (i : ℕ) (t : Transfer) (request : Option Request) (new : List Ack) → MayTake v i t new
    → Conts v (take v i t request new)
conts_take v i t request new may g c (held j s w e q) = ⊎_elim
    (λ both. let r : Sub = record { hop = t.hop; content = t.content } in let is : Some r ≡ Some s =
    grind (arith, e, both) in sent t may.sent (sym both.1) (written is ∙ q))
    (λ other. held j s w (grind (arith, e, other)) q)
    (spot_or j i g t.grant)
conts_take v i t request new may g c (sent u m e q) = sent u m e q

pub conts_freeze : (v : View) (i heir : ℕ) (offers : List Transfer) → MayFreeze v i heir offers
    → Conts v (freeze v i heir offers)
conts_freeze v i heir offers may g c (held j s w e q) = held j s (grind (arith, may.member)) e q
conts_freeze v i heir offers may g c (sent t m e q) = ⊎_elim
    (λ x. let o = may.each t x in held i o.sub (rw may.member tt) (let h : v.subs i t.grant ≡ Some o.sub =
    o.holds in cc) (sym (ap (λ (y : Transfer). y.content) o.is) ∙ q))
    (λ r. sent t r e q)
    (either offers v.transfers t m)

pub conts_remove : (v : View) (i : ℕ) (x : Grant) (aborted : List Grant) → Conts v (remove v i x aborted)
conts_remove v i x aborted g c (held j s w e q) = held j s w (grind (arith, e)) q
conts_remove v i x aborted g c (sent t m e q) = sent t m e q

pub conts_alter : (v : View) (i : ℕ) (g : Grant) (s : Sub) (c : Content) → (h : Grant) (d : Content)
    → Cont (alter v i g s c None [] []) h d → (Cont v h d) ⊎ ((h ≡ g) × (c ≡ d))
conts_alter v i g s c h d (held j r w e q) = ⊎_elim
    (λ both. let r2 : Sub = record { hop = s.hop; content = c } in
    let is : Some r2 ≡ Some r = grind (arith, e, both) in
    inr (both.1, written is ∙ q))
    (λ other. inl (held j r w (grind (arith, e, other)) q))
    (spot_or j i h g)
conts_alter v i g s c h d (sent t m e q) = inl (sent t m e q)

pub conts_mint : (v : View) (i thief seq : ℕ) (c : Content) → (h : Grant) (d : Content)
    → Cont (mint v i thief seq c) h d → (Cont v h d) ⊎ ((h ≡ (grant_of v i thief seq c).grant) × (c ≡ d))
conts_mint v i thief seq c h d (held j s w e q) = inl (held j s w e q)
conts_mint v i thief seq c h d (sent t m e q) = ⊎_elim
    (λ x. inr (sym e ∙ ap (λ (y : Transfer). y.grant) x, sym (ap (λ (y : Transfer). y.content) x) ∙ q))
    (λ x. inl (sent t x e q))
    m

-- a content before the move that has the records of one after it
pub record Before (P : Content → Type 0) (d : Content) : Type 0 where
  pub content : Content
  pub there : P content
  pub records : (n : ℕ) (k : Grant) → d.granted n ≡ Some k → content.granted n ≡ Some k

pub head_before : (v : View) (i : ℕ) (g : Grant) (s : Sub) (c : Content) → Live v i g s
    → ((n : ℕ) (k : Grant) → c.granted n ≡ Some k → s.content.granted n ≡ Some k) → (h : Grant) (d : Content)
    → Head (alter v i g s c None [] []) h d → Before (Head v h) d
head_before v i g s c here fewer h d a = ⊎_elim
    (λ old. record { content = d; there = old; records = λ n k e. e })
    (λ new. record {
      content = s.content;
      there = rw new.0 (live_at i s here refl);
      records = λ n k e. fewer n k (rw new.1 e);
    })
    (heads_alter v i g s c h d a)

pub cont_before : (v : View) (i : ℕ) (g : Grant) (s : Sub) (c : Content) → Live v i g s
    → ((n : ℕ) (k : Grant) → c.granted n ≡ Some k → s.content.granted n ≡ Some k) → (h : Grant) (d : Content)
    → Cont (alter v i g s c None [] []) h d → Before (Cont v h) d
cont_before v i g s c here fewer h d a = ⊎_elim
    (λ old. record { content = d; there = old; records = λ n k e. e })
    (λ new. record {
      content = s.content;
      there = rw new.0 (live_cont v i g s here);
      records = λ n k e. fewer n k (rw new.1 e);
    })
    (conts_alter v i g s c h d a)

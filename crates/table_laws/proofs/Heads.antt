-- Heads come from heads: after a move, each head was one before, with the same content; or its sub
-- was changed by the move; or its grant is new.
use Rattle.std.proofs.Common.{◌≡◌, ℕ, ◌<◌, List, [], ◌⊎◌, Option, Some, None, sym, inl, inr, ⊎_elim, arith, ap, ◌∙◌}
use Rattle.ids.specs.Names.{Grant}
use Rattle.table_laws.specs.Tables.{◌∈◌, put}
use Rattle.table_laws.specs.Content.{Content}
use Rattle.table_laws.specs.View.{Transfer, Ack, Sub, Request, Mode, Joining, View}
use Rattle.table_laws.specs.Facts.{Head, live_at, open_at, grant_of}
use Rattle.table_laws.specs.Moves.{start, admit, stop, mint, take, freeze, remove, alter}
use Rattle.table_laws.specs.Guards.{MayTake, MayFreeze}
use Rattle.table_laws.specs.Names.{Names}
use Rattle.table_laws.proofs.Lists.{either, spot_or, some_same, above}

abbrev pub Heads : View → View → Type 0
Heads v w = (g : Grant) (c : Content) → Head w g c → Head v g c

-- a sub that was just written
pub written : {a b : Sub} → Some a ≡ Some b → a.content ≡ b.content
written e = ap (λ (s : Sub). s.content) (some_same e)

pub heads_new : (v : View) (i : ℕ) (m : Mode) → (i ∈ v.used → ⊥) → Names v
    → Heads v (record (start v i) { mode = put v.mode i m })
heads_new v i m new n g c (live_at j s a q) =
    live_at j s (record { member = grind (arith, a.member, a.holds); holds = grind (arith, a.member, a.holds) }) q
heads_new v i m new n g c (open_at t o e q) =
    let other : t.to ≡ i → ⊥ = λ same. new (rw same at (n.to_used t o.sent)) in
    open_at t (record { sent = o.sent; takes = grind (arith, o.takes); above = grind (arith, o.above) }) e q

pub heads_admit : (v : View) (i : ℕ) → v.mode i ≡ Joining → Names v → Heads v (admit v i)
heads_admit v i joins n g c (live_at j s a q) =
    live_at j s (record { member = grind (arith, a.member, a.holds, n.joins_empty i g joins); holds = a.holds }) q
heads_admit v i joins n g c (open_at t o e q) =
    open_at t (record { sent = o.sent; takes = grind (arith, o.takes); above = o.above }) e q

pub heads_stop : (v : View) (i : ℕ) → Heads v (stop v i)
heads_stop v i g c (live_at j s a q) = live_at j s (record { member = grind (arith, a.member); holds = a.holds }) q
heads_stop v i g c (open_at t o e q) =
    open_at t (record { sent = o.sent; takes = grind (arith, o.takes); above = o.above }) e q

pub heads_remove : (v : View) (i : ℕ) (k : Grant) (aborted : List Grant) → Heads v (remove v i k aborted)
heads_remove v i k aborted g c (live_at j s a q) =
    live_at j s (record { member = a.member; holds = grind (arith, a.holds) }) q
heads_remove v i k aborted g c (open_at t o e q) = open_at t o e q

-- what is taken was open
pub heads_take : (v : View) (i : ℕ) (t : Transfer) (request : Option Request) (new : List Ack) → MayTake v i t new
    → Heads v (take v i t request new)
heads_take v i t request new may g c (live_at j s a q) = ⊎_elim
    (λ both. let r : Sub = record { hop = t.hop; content = t.content } in
    let is : Some r ≡ Some s = grind (arith, a.holds, both) in
    open_at t (record { sent = may.sent; takes = rw (may.to, may.member) tt; above = rw may.to may.above }) (sym both.1)
    (written is ∙ q))
    (λ other. live_at j s (record { member = a.member; holds = grind (arith, a.holds, other) }) q)
    (spot_or j i g t.grant)
heads_take v i t request new may g c (open_at u o e q) = open_at u (record {
  sent = o.sent;
  takes = o.takes;
  above = ⊎_elim
      (λ both. let less : t.hop < u.hop =
      grind (arith, o.above, both) in rw (both.0, both.1) (above (v.seen i t.grant) t.hop u.hop may.above less))
      (λ other. grind (arith, o.above, other))
      (spot_or u.to i u.grant t.grant);
}) e q

-- what is offered was live
pub heads_freeze : (v : View) (i heir : ℕ) (offers : List Transfer) → MayFreeze v i heir offers
    → Heads v (freeze v i heir offers)
heads_freeze v i heir offers may g c (live_at j s a q) =
    live_at j s (record { member = grind (arith, a.member); holds = a.holds }) q
heads_freeze v i heir offers may g c (open_at u o e q) = ⊎_elim
    (λ l. let f = may.each u l in live_at i f.sub
    (record { member = may.member; holds = let h : v.subs i u.grant ≡ Some f.sub = f.holds in cc })
    (sym (ap (λ (x : Transfer). x.content) f.is) ∙ q))
    (λ r. open_at u (record { sent = r; takes = grind (arith, o.takes); above = o.above }) e q)
    (either offers v.transfers u o.sent)

-- after a change: a head before, or the changed sub
pub heads_alter : (v : View) (i : ℕ) (k : Grant) (s : Sub) (d : Content) (g : Grant) (c : Content)
    → Head (alter v i k s d None [] []) g c → (Head v g c) ⊎ ((g ≡ k) × (d ≡ c))
heads_alter v i k s d g c (live_at j r a q) = ⊎_elim
    (λ both. let r2 : Sub = record { hop = s.hop; content = d } in
    let is : Some r2 ≡ Some r = grind (arith, a.holds, both) in
    inr (both.1, written is ∙ q))
    (λ other. inl (live_at j r (record { member = a.member; holds = grind (arith, a.holds, other) }) q))
    (spot_or j i g k)
heads_alter v i k s d g c (open_at u o e q) = inl (open_at u o e q)

-- after a Grant: a head before, or the new grant
pub heads_mint : (v : View) (i thief seq : ℕ) (d : Content) (g : Grant) (c : Content) → Head (mint v i thief seq d) g c
    → (Head v g c) ⊎ (g ≡ (grant_of v i thief seq d).grant)
heads_mint v i thief seq d g c (live_at j r a q) = inl (live_at j r a q)
heads_mint v i thief seq d g c (open_at u o e q) = ⊎_elim
    (λ new. inr (sym e ∙ ap (λ (x : Transfer). x.grant) new))
    (λ old. inl (open_at u (record { sent = old; takes = o.takes; above = o.above }) e q))
    o.sent

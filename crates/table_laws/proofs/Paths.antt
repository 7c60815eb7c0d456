-- Paths of grants: they only grow, end at the head, and go on from each who left to its heir.
use Rattle.std.proofs.Common.{◌≡◌, ℕ, ◌+◌, ◌-◌, ◌<◌, ◌≤◌, suc, zero, Some, refl, ⊎_elim, arith, ◌∙◌}
use Rattle.ids.specs.Names.{Grant}
use Rattle.table_laws.specs.Tables.{◌∈◌}
use Rattle.table_laws.specs.Content.{Content}
use Rattle.table_laws.specs.View.{Transfer, Leave, Left, Roster, Sub, Mode, Member, Leaving, Works, Takes, View}
use Rattle.table_laws.specs.Facts.{SentTo, Granted, Above, Live, Head, live_at, open_at, Path, Resolves, stays, follows, ack_of}
use Rattle.table_laws.specs.Names.{Names}
use Rattle.table_laws.specs.Leavers.{Leavers}
use Rattle.table_laws.specs.Kin.{Kin}
use Rattle.table_laws.proofs.Lists.{Within, same_or}
use Rattle.table_laws.proofs.Sent.{one_to, held_sent}
use Rattle.table_laws.proofs.OneHead.{last, Stands, live_stands, open_stands, one_place}

-- where a head stands
pub record At (v : View) (g : Grant) : Type 0 where
  pub at : ℕ
  pub stands : Stands v g at

pub head_at : (v : View) → Names v → (g : Grant) (c : Content) → Head v g c → At v g
head_at v n g c (live_at i s a q) = record { at = i; stands = live_stands v n i g s a }
head_at v n g c (open_at t o e q) = record { at = t.to; stands = rw e at (open_stands v t o) }

-- i holds g, with content c
pub record Holds (v : View) (i : ℕ) (g : Grant) (c : Content) : Type 0 where
  pub sub : Sub
  pub holds : v.subs i g ≡ Some sub
  pub is : sub.content ≡ c

-- a member on the path of a grant that has a head holds it
pub end_of_path : (v : View) → Names v → (g : Grant) (c : Content) (i : ℕ) → v.mode i ≡ Member → Path v g i → Head v g c
    → Holds v i g c
end_of_path v n g c i member p (live_at j s a q) =
    let here : Stands v g i = record {
      hop = p.transfer.hop;
      sent = record { transfer = p.transfer; sent = p.sent; grant = p.grant; hop = refl; to = p.to };
      takes = rw member tt;
    } in
    let place : i ≡ j = (one_place v n g i j here (live_stands v n j g s a)).1 in
    record { sub = s; holds = rw place a.holds; is = q }
end_of_path v n g c i member p (open_at t o e q) =
    let here : Stands v g i = record {
      hop = p.transfer.hop;
      sent = record { transfer = p.transfer; sent = p.sent; grant = p.grant; hop = refl; to = p.to };
      takes = rw member tt;
    } in
    let there : Stands v g t.to = rw e at (open_stands v t o) in
    let both = one_place v n g i t.to here there in
    let hop : p.transfer.hop ≡ t.hop = both.0 in
    let above : Above (v.seen t.to g) t.hop = rw e at o.above in
    absurd (p.shut (rw member tt) (rw hop (rw both.1 above)))

-- a path only grows
pub path_by : (v w : View) {g : Grant} {i : ℕ} → Within v.transfers w.transfers → (Takes (w.mode i) → Takes (v.mode i))
    → ((h : ℕ) → Takes (w.mode i) → Above (w.seen i g) h → Above (v.seen i g) h) → Path v g i → Path w g i
path_by v w more takes seen p = record {
  transfer = p.transfer;
  sent = more p.transfer p.sent;
  grant = p.grant;
  to = p.to;
  shut = λ k a. p.shut (takes k) (seen p.transfer.hop k a);
}

-- who holds a grant live is on its path
pub live_path : (v : View) → Names v → (i : ℕ) (g : Grant) (s : Sub) → Live v i g s → Path v g i
live_path v n i g s here =
    let b = held_sent v n i g s (rw here.member tt) here.holds in
    let seen : v.seen i g ≡ Some s.hop = n.held_seen i g s (rw here.member tt) here.holds in
    record {
      transfer = b.transfer;
      sent = b.sent;
      grant = b.grant;
      to = b.to;
      shut = λ t a. let c : Above (Some s.hop) b.transfer.hop = rw seen at a in omega (arith, c, b.hop);
    }

-- along the heirs of a roster
pub walk : (v : View) → Kin v → (r : Roster) → r ∈ v.rosters → (g : Grant) (c : Content) → Head v g c → (i j : ℕ)
    → Resolves r i j → Path v g i → Path v g j
walk v k r m g c h _ _ (stays i) p = p
walk v k r m g c h _ _ (follows i x j e way) p = walk v k r m g c h x j way (k.left_path r i x g c m e p h)

-- who said Leave takes nothing
pub silent : (v : View) → Leavers v → (l : Leave) → l ∈ v.leaves → Takes (v.mode l.from) → ⊥
silent v k l m t = gone (v.mode l.from) t (k.said_leaving l m)
  where
    gone : {h : ℕ} (y : Mode) → Takes y → (Works y → y ≡ Leaving h) → ⊥
    gone y t f = grind (arith, f)

-- nor does who is shown left
pub stopped : (v : View) → Leavers v → (r : Roster) (i h : ℕ) → r ∈ v.rosters → r.status i ≡ Left h → Takes (v.mode i)
    → ⊥
stopped v k r i h m e t = let a = k.left_said r i h m e in silent v k a.leave a.sent (rw a.from t)

-- so it is on the path of all that was sent to it
pub stopped_path : (v : View) → (t : Transfer) (g : Grant) (i : ℕ) → (Takes (v.mode i) → ⊥) → t ∈ v.transfers
    → t.grant ≡ g → t.to ≡ i → Path v g i
stopped_path v t g i never m e f = record { transfer = t; sent = m; grant = e; to = f; shut = λ k a. never k }

-- where there is a later transfer, there is one a hop further
pub next_hop : (v : View) → Names v → (g : Grant) (h i d : ℕ) → SentTo v.transfers g (suc (h + d)) i
    → (j : ℕ) × (SentTo v.transfers g (suc h) j)
next_hop v n g h i zero s = (
  i,
  record {
    transfer = s.transfer;
    sent = s.sent;
    grant = s.grant;
    hop = s.hop ∙ omega arith;
    to = s.to;
  },
)
next_hop v n g h i (suc d) s =
    let a = n.path s.transfer (suc (h + d)) s.sent (s.hop ∙ omega arith) in
    next_hop v n g h s.transfer.from d (rw s.grant at a.before)

-- what came to one that said Leave, of a grant that has a head, went on to its heir
pub leaver_path : (v : View) → Names v → Leavers v → (l : Leave) → l ∈ v.leaves → (g : Grant) (c : Content)
    → Path v g l.from → Head v g c → Path v g l.heir
leaver_path v n k l m g c p h =
    let a = head_at v n g c h in
    let s = a.stands in
    let t = p.transfer in
    let came : SentTo v.transfers g t.hop l.from =
    record { transfer = t; sent = p.sent; grant = p.grant; hop = refl; to = p.to } in
    let up : t.hop ≤ s.hop = last v n g s.hop a.at s.sent s.takes t p.sent p.grant in
    ⊎_elim
    (λ level. let at : a.at ≡ l.from = one_to n s.sent (rw level came) in absurd (silent v k l m (rw at at s.takes)))
    (λ apart.
    let less : t.hop < s.hop = grind (arith, up, apart) in
    let far : s.hop ≡ suc (t.hop + (s.hop - suc t.hop)) = omega arith in
    let b = (next_hop v n g t.hop a.at (s.hop - suc t.hop) (rw (← far) s.sent)).1 in
    let u = b.transfer in
    let back : u.from ≡ l.from = one_to n (rw b.grant at (n.path u t.hop b.sent b.hop).before) came in
    let to : u.to ≡ l.heir = k.said_heir l u t.hop m b.sent b.hop back in
    let shut = k.acked_shut (ack_of u) (k.said_acked l u t.hop m b.sent b.hop back) in
    record { transfer = u; sent = b.sent; grant = b.grant; to = to; shut = λ x y. shut (rw to x) (rw (to, b.grant) y) })
    (same_or s.hop t.hop)

-- a transfer of a grant leads back, hop by hop, to its Grant
pub granted_first : (v : View) → Names v → (g : Grant) (h i : ℕ) → SentTo v.transfers g h i
    → (j : ℕ) × (SentTo v.transfers g 0 j)
granted_first v n g zero i s = (i, s)
granted_first v n g (suc h) i s = let a =
    n.path s.transfer h s.sent s.hop in granted_first v n g h s.transfer.from (rw s.grant at a.before)

pub grant_of_transfer : (v : View) → Names v → (g : Grant) → Granted v.transfers g
    → (i : ℕ) × (SentTo v.transfers g 0 i)
grant_of_transfer v n g s = granted_first v n g s.transfer.hop s.transfer.to
    (record { transfer = s.transfer; sent = s.sent; grant = s.grant; hop = refl; to = refl })

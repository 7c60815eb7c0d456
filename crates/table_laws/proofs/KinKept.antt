-- Records and parent hosts under the moves that make no record and no parent host.
use Rattle.std.proofs.Common.{◌≡◌, ℕ, true, false, ◌≤◌, suc, List, [], Option, Some, refl, sym, inl, inr, ⊎_elim, arith, ap, ◌∙◌}
use Rattle.ids.specs.Names.{Grant}
use Rattle.table_laws.specs.Tables.{◌∈◌, put}
use Rattle.table_laws.specs.Content.{Content}
use Rattle.table_laws.specs.View.{Transfer, Ack, Left, Roster, Sub, Request, Mode, Gone, Joining, Member, Leaving, Takes, View}
use Rattle.table_laws.specs.Facts.{of_worker, SentTo, Live, Head, live_at, open_at, by_result, Path, RecordOf}
use Rattle.table_laws.specs.Moves.{start, admit, stop, take, freeze, remove, settle, publish}
use Rattle.table_laws.specs.Guards.{MayTake, MayFreeze, MaySettle, MaySettleAtHouse, MayPublish, ShowsLeft, before, now}
use Rattle.table_laws.specs.Names.{Names}
use Rattle.table_laws.specs.Homes.{Homes}
use Rattle.table_laws.specs.Leavers.{Leavers}
use Rattle.table_laws.specs.Kin.{Kin}
use Rattle.table_laws.proofs.Lists.{Within, same, later, early, either}
use Rattle.table_laws.proofs.Sent.{one_to, held_sent, sent_as}
use Rattle.table_laws.proofs.NamesFrozen.{names_freeze}
use Rattle.table_laws.proofs.OneHead.{last, live_stands, one_place, not_both}
use Rattle.table_laws.proofs.Heads.{Heads, heads_new, heads_admit, heads_stop, heads_remove, heads_take, heads_freeze}
use Rattle.table_laws.proofs.LeaversKept.{was_above}
use Rattle.table_laws.proofs.Conts.{Conts, head_cont, live_cont, hosts_by, conts_new, conts_mode, conts_take, conts_freeze, conts_remove}
use Rattle.table_laws.proofs.Paths.{At, head_at, end_of_path, path_by, walk, stopped, stopped_path, leaver_path}

-- what is kept where no record is new, nothing more is settled, and paths grow
kin_by : (v w : View) → Heads v w → Conts v w → Within w.results v.results → Within w.settled v.settled
    → Within w.rosters v.rosters
    → ((g : Grant) (i : ℕ) → Path v g i → Path w g i)
    → ((r : Roster) (i h : ℕ) (g : Grant) (c : Content) → r ∈ v.rosters → r.status i ≡ Left h → Path w g i → Head w g c
    → Path v g i)
    → Kin v → Kin w
kin_by v w heads conts results settled rosters paths back k = record {
  one_record = λ g h x c d n m a b e f. k.one_record g h x c d n m (conts g c a) (conts h d b) e f;
  on_path = λ g x c n i h e p. paths g i (k.on_path g x c n i (heads g c h) e (hosts_by v w conts results x i p));
  unsettled = λ g x c n m h e. k.unsettled g x c n (settled x m) (heads g c h) e;
  left_path = λ r i h g c m e p a. paths g h
      (k.left_path r i h g c (rosters r m) e (back r i h g c (rosters r m) e p a) (heads g c a));
}

pub kin_new : (v : View) (i : ℕ) (m : Mode) → (i ∈ v.used → ⊥) → Names v → Leavers v → Kin v
    → Kin (record (start v i) { mode = put v.mode i m })
kin_new v i m new n l k = kin_by v w (heads_new v i m new n) (conts_new v i m) (same v.results) (same v.settled)
    (same v.rosters)
    (λ g j p. path_by v w (same v.transfers) (λ t. grind (arith, other g j p)) (λ h t a. grind (arith, other g j p)) p)
    (λ r j h g c o e p a. stopped_path v p.transfer g j (stopped v l r j h o e) p.sent p.grant p.to) k
  where
    w : View
    w = record (start v i) { mode = put v.mode i m }

    other : (g : Grant) (j : ℕ) → Path v g j → j ≡ i → ⊥
    other g j p e = new (rw (p.to ∙ e) at (n.to_used p.transfer p.sent))

pub kin_admit : (v : View) (i : ℕ) → v.mode i ≡ Joining → Names v → Leavers v → Kin v → Kin (admit v i)
kin_admit v i joins n l k = kin_by v (admit v i) (heads_admit v i joins n) (conts_mode v i Member (λ w. rw joins tt))
    (same v.results) (same v.settled) (same v.rosters)
    (λ g j p. path_by v (admit v i) (same v.transfers) (λ t. grind arith) (λ h t a. a) p)
    (λ r j h g c m e p a. stopped_path v p.transfer g j (stopped v l r j h m e) p.sent p.grant p.to) k

pub kin_stop : (v : View) (i : ℕ) → Leavers v → Kin v → Kin (stop v i)
kin_stop v i l k = kin_by v (stop v i) (heads_stop v i) (conts_mode v i Gone (λ w. absurd w)) (same v.results)
    (same v.settled) (same v.rosters)
    (λ g j p. path_by v (stop v i) (same v.transfers) (λ t. grind arith) (λ h t a. a) p)
    (λ r j h g c m e p a. stopped_path v p.transfer g j (stopped v l r j h m e) p.sent p.grant p.to) k

pub kin_take : (v : View) (i : ℕ) (t : Transfer) (request : Option Request) (new : List Ack) → MayTake v i t new
    → Leavers v → Kin v → Kin (take v i t request new)
kin_take v i t request new may l k =
    kin_by v (take v i t request new) (heads_take v i t request new may) (conts_take v i t request new may)
    (same v.results) (same v.settled) (same v.rosters)
    (λ g j q. path_by v (take v i t request new) (same v.transfers) (λ x. x)
    (λ h x a. was_above v i t new may j g h a) q)
    (λ r j h g c m e q a. stopped_path v q.transfer g j (stopped v l r j h m e) q.sent q.grant q.to) k

pub kin_release : (v : View) (i : ℕ) (x : Grant) → Kin v → Kin (remove v i x [])
kin_release v i x k = kin_by v (remove v i x []) (heads_remove v i x []) (conts_remove v i x []) (same v.results)
    (same v.settled) (same v.rosters)
    (λ g j p. p) (λ r j h g c m e p a. p) k

-- where a grant has a head after a freeze, its Offer can be taken
offered_last : (v : View) (i heir : ℕ) (offers : List Transfer) → MayFreeze v i heir offers → Names v → (t : Transfer)
    → t ∈ offers → At (freeze v i heir offers) t.grant → Takes (put v.mode i (Leaving heir) t.to)
offered_last v i heir offers may n t m a =
    let w = freeze v i heir offers in
    let after = names_freeze v i heir offers may n in
    let s = a.stands in
    let o = may.each t m in
    let hop : t.hop ≡ suc o.sub.hop = ap (λ (x : Transfer). x.hop) o.is in
    let up : t.hop ≤ s.hop = last w after t.grant s.hop a.at s.sent s.takes t (early offers v.transfers t m) refl in
    let u = s.sent.transfer in
    let sent_now : SentTo w.transfers t.grant t.hop t.to = sent_as t (early offers v.transfers t m) in
    ⊎_elim
    (λ x. let b = may.each u x in
    let grant : u.grant ≡ t.grant = s.sent.grant in
    let there : v.subs i u.grant ≡ Some b.sub = b.holds in
    let also : v.subs i t.grant ≡ Some o.sub = o.holds in
    let twice : o.sub ≡ b.sub = cc in
    let level : s.hop ≡ t.hop = sym s.sent.hop ∙ ap (λ (y : Transfer). y.hop) b.is
    ∙ ap (λ (y : Sub). suc y.hop) (sym twice) ∙ sym hop in
    let here : a.at ≡ t.to = one_to after s.sent (rw level sent_now) in rw here at s.takes)
    (λ x. let low : u.hop ≤ o.sub.hop =
    last v n t.grant o.sub.hop i (held_sent v n i t.grant o.sub (rw may.member tt) o.holds)
    (rw may.member tt) u x s.sent.grant in
    absurd (omega (arith, low, up, hop, s.sent.hop)))
    (either offers v.transfers u s.sent.sent)

pub kin_freeze : (v : View) (i heir : ℕ) (offers : List Transfer) → MayFreeze v i heir offers → Names v → Leavers v
    → Kin v → Kin (freeze v i heir offers)
kin_freeze v i heir offers may n l k =
    kin_by v w (heads_freeze v i heir offers may) (conts_freeze v i heir offers may) (same v.results) (same v.settled)
    (same v.rosters)
    (λ g j p. path_by v w (later offers v.transfers) (λ t. grind arith) (λ h t a. a) p)
    back k
  where
    w : View
    w = freeze v i heir offers

    back : (r : Roster) (j h : ℕ) (g : Grant) (c : Content) → r ∈ v.rosters → r.status j ≡ Left h
        → Path (freeze v i heir offers) g j → Head (freeze v i heir offers) g c → Path v g j
    back r j h g c m e p a = ⊎_elim
        (λ x. let b = offered_last v i heir offers may n p.transfer x
        (rw p.grant (head_at (freeze v i heir offers) (names_freeze v i heir offers may n) g c a)) in
        let at : Takes (put v.mode i (Leaving heir) j) = rw p.to at b in
        absurd (stopped v l r j h m e (grind arith)))
        (λ x. stopped_path v p.transfer g j (stopped v l r j h m e) x p.grant p.to)
        (either offers v.transfers p.transfer p.sent)

pub kin_publish : (v : View) (house roster : Roster) → MayPublish v house roster → Names v → Leavers v → Kin v
    → Kin (publish v roster)
kin_publish v house roster may n l k =
    let left_path : (r : Roster) (i h : ℕ) (g : Grant) (c : Content) → r ∈ (publish v roster).rosters
    → r.status i ≡ Left h → Path v g i → Head v g c → Path v g h =
    λ r i h g c. elim [
      | inl e ↦ λ f p a. shown i h g c p a (may.left i h (rw e at f))
      | inr m ↦ k.left_path r i h g c m
    ] in
    assumption (left_path, k)
  where
    shown : (i h : ℕ) (g : Grant) (c : Content) → Path v g i → Head v g c → ShowsLeft v roster.epoch i h → Path v g h
    shown i h g c p a (before r m same_epoch e) = k.left_path r i h g c m e p a
    shown i h g c p a (now r x m s e same_epoch way) =
        walk v k r m g c a x.heir h way (leaver_path v n l x s g c (rw (← e) at p) a)

-- a member that gets a Result without having its record: no head has it, since this member would be
-- its holder
pub kin_settle : (v : View) (i : ℕ) (g : Grant) → MaySettle v i g → Names v → Kin v → Kin (settle v g)
kin_settle v i g may n k =
    let unsettled : (h x : Grant) (c : Content) (m : ℕ) → x ∈ (settle v g).settled → Head v h c → c.granted m ≡ Some x
    → ⊥ = λ h x c m. elim [
      | inl e ↦ λ a f. (let p = k.on_path h x c m i a f
          (rw e (by_result (record { grant = g; host = i; outcome = may.outcome }) may.result refl refl)) in
          let b = end_of_path v n h c i may.member p a in
          may.without h b.sub b.holds (record { number = m; is = rw (b.is, ← e) f }))
      | inr p ↦ k.unsettled h x c m p
    ] in
    assumption (unsettled, k)

-- a house that gets a Result: its grant was minted by a house, and so is no record's
pub kin_settle_at_house : (v : View) (i : ℕ) (g : Grant) → MaySettleAtHouse v i g → Homes v → Kin v → Kin (settle v g)
kin_settle_at_house v i g may h k =
    let house : of_worker i ≡ false = h.house_name i may.house in
    let is : i ≡ g.minter = h.home g i (by_result
    (record { grant = g; host = i; outcome = may.outcome }) may.result refl refl) (inl house) in
    let unsettled : (j x : Grant) (c : Content) (m : ℕ) → x ∈ (settle v g).settled → Head v j c → c.granted m ≡ Some x
    → ⊥ = λ j x c m. elim [
      | inl e ↦ λ a f. (let worker : of_worker g.minter ≡ true =
          h.record_minter j g c m (head_cont v j c a) (rw (← e) f) in let same_name : of_worker g.minter ≡ false =
          rw is at house in cc)
      | inr p ↦ k.unsettled j x c m p
    ] in
    assumption (unsettled, k)

-- a sub that is dropped was the only head of its grant
no_head : (v : View) (i : ℕ) (g : Grant) (s : Sub) (gone : List Grant) → Live v i g s → Names v → (c : Content)
    → Head (remove v i g gone) g c → ⊥
no_head v i g s gone here n c (live_at j r a q) =
    let b : Live v j g r = record { member = a.member; holds = grind (arith, a.holds) } in
    let at : j ≡ i = (one_place v n g j i (live_stands v n j g r b) (live_stands v n i g s here)).1 in
    grind (arith, a.holds)
no_head v i g s gone here n c (open_at t o e q) = not_both v n i g s t here o e

pub kin_drop : (v : View) (i : ℕ) (g : Grant) (s : Sub) (gone : List Grant) → Live v i g s
    → ((k : Grant) → k ∈ gone → RecordOf s.content k) → Names v → Kin v → Kin (remove v i g gone)
kin_drop v i g s gone here had n k = record {
  one_record = λ h j x c d m l a b e f. k.one_record h j x c d m l (conts h c a) (conts j d b) e f;
  on_path = λ h x c m j a e b. k.on_path h x c m j (heads_remove v i g gone h c a) e
      (hosts_by v (remove v i g gone) conts (same v.results) x j b);
  unsettled = λ h x c m p a e. ⊎_elim
      (λ l. let b = had x l in
      let old = heads_remove v i g gone h c a in
      let own : h ≡ g = k.one_record h g x c s.content m b.number (head_cont v h c old)
      (live_cont v i g s here) e b.is in
      no_head v i g s gone here n c (rw own at a))
      (λ r. k.unsettled h x c m r (heads_remove v i g gone h c a) e)
      (either gone v.settled x p);
  left_path = λ r j h x c m e p a. k.left_path r j h x c m e p (heads_remove v i g gone x c a);
}
  where
    conts : Conts v (remove v i g gone)
    conts = conts_remove v i g gone

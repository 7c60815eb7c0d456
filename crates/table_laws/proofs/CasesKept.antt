-- The four cases of a record, move by move.
use Rattle.std.proofs.Common.{◌≡◌, ℕ, false, suc, List, [], ◌⊎◌, Some, None, refl, sym, inl, inr, ⊎_elim, arith, ap, ◌∙◌}
use Rattle.ids.specs.Names.{Grant}
use Rattle.table_laws.specs.Tables.{◌∈◌}
use Rattle.table_laws.specs.Content.{Content}
use Rattle.table_laws.specs.View.{Transfer, Steal, Sub, Request, Joining, House, Leaving, Works, View}
use Rattle.table_laws.specs.Facts.{of_worker, Came, Said, Live, Head, sent, Host, by_content, request_of, ack_of, offer_of}
use Rattle.table_laws.specs.Moves.{start, admit, stop, fail, mark_lost, unpend, remove}
use Rattle.table_laws.specs.Guards.{GivesUp, lost_thief, lost_victim, left_victim, MayRelease, Drops, by_settled, by_verdict}
use Rattle.table_laws.specs.Names.{Names}
use Rattle.table_laws.specs.Homes.{Homes}
use Rattle.table_laws.specs.Leavers.{Leavers}
use Rattle.table_laws.specs.Rooted.{Rooted}
use Rattle.table_laws.specs.Kin.{Kin}
use Rattle.table_laws.specs.Requests.{Requests}
use Rattle.table_laws.specs.Cases.{alive, awaited, frozen, cut_off, Case, Cases}
use Rattle.table_laws.proofs.Lists.{Within, same_or, spot_or, some_same}
use Rattle.table_laws.proofs.Sent.{came_within, came_of, held_sent}
use Rattle.table_laws.proofs.Heads.{Heads, heads_new, heads_admit, heads_stop, heads_remove}
use Rattle.table_laws.proofs.LeaversKept.{same_ack}
use Rattle.table_laws.proofs.HomesKept.{house_stays}
use Rattle.table_laws.proofs.RootedKept.{root_minter, root_host}
use Rattle.table_laws.proofs.Conts.{live_cont}
use Rattle.table_laws.proofs.Paths.{walk}

-- where heads are heads, and each case leads to one
pub cases_by : (v w : View) → Heads v w → w.root ≡ v.root
    → ((g k : Grant) (c : Content) (n : ℕ) → Head v g c → c.granted n ≡ Some k → Case v g k → Case w g k)
    → ((k : Grant) → v.root ≡ Some k → Case v k k → Case w k k)
    → ((t : Transfer) (h i : ℕ) → t ∈ w.transfers → t.hop ≡ suc h → t.to ≡ i → Works (w.mode i)
    → w.seen i t.grant ≡ Some t.hop → ack_of t ∈ w.acks)
    → ((t u : Transfer) (h : ℕ) → t ∈ w.transfers → u ∈ w.transfers → t.grant ≡ u.grant → t.hop ≡ suc h
    → u.hop ≡ suc t.hop → ack_of t ∈ w.acks)
    → Cases v → Cases w
cases_by v w heads root kept kept_root taken passed c = record {
  taken_acked = taken;
  passed_acked = passed;
  record_case = λ g k d n h e. kept g k d n (heads g d h) e (c.record_case g k d n (heads g d h) e);
  root_case = λ k e. kept_root k (rw root at e) (c.root_case k (rw root at e));
}

pub came_either : {ts us : List Transfer} {g h : Grant} {i : ℕ} → Within ts us → (Came ts g i) ⊎ (Came ts h i)
    → (Came us g i) ⊎ (Came us h i)
came_either w = elim [ inl a ↦ inl (came_within w a) | inr b ↦ inr (came_within w b) ]

pub held_came : (v : View) → Names v → (i : ℕ) (g : Grant) (s : Sub) → Works (v.mode i) → v.subs i g ≡ Some s
    → Came v.transfers g i
held_came v n i g s w e = came_of (held_sent v n i g s w e)

-- one fails: what it held, and what it waited for, is cut off
pub cases_fail : (v : View) (i : ℕ) → Names v → Cases v → Cases (fail v i)
cases_fail v i n c = cases_by v (fail v i) (heads_stop v i) refl (λ g k d m h e. kept g k) (λ k e. kept k k)
    (λ t h j m e f w. c.taken_acked t h j m e f (grind arith)) c.passed_acked c
  where
    kept : (g k : Grant) → Case v g k → Case (fail v i) g k
    kept g k (alive j s a) = ⊎_elim (λ is.
        cut_off i (inl refl) (inl (rw is at (held_came v n j k s (rw a.member tt) a.holds))))
        (λ other. alive j s (record { member = grind (arith, a.member, other); holds = a.holds })) (same_or j i)
    kept g k (awaited t m e f w p) = ⊎_elim (λ is.
        cut_off i (inl refl) (inl (record { transfer = t; sent = m; grant = e; to = is })))
        (λ other. awaited t m e f (grind (arith, other)) p) (same_or t.to i)
    kept g k (frozen j heir s a b x) = ⊎_elim (λ is.
        cut_off i (inl refl) (inl (rw is at (held_came v n j k s (rw a tt) b))))
        (λ other. frozen j heir s (grind (arith, other)) b x) (same_or j i)
    kept g k (cut_off j m x) = cut_off j (inr m) x

-- one that said Leave goes: it holds nothing and waits for nothing
pub cases_go : (v : View) (i : ℕ) → Said v.leaves i → Leavers v → Requests v → Cases v → Cases (stop v i)
cases_go v i said k q c = cases_by v (stop v i) (heads_stop v i) refl (λ g x d o h f. kept g x) (λ x f. kept x x)
    (λ t h j o f g w. c.taken_acked t h j o f g (grind arith)) c.passed_acked c
  where
    leaving : Works (v.mode i) → v.mode i ≡ Leaving said.leave.heir
    leaving w = rw said.from at (k.said_leaving said.leave said.sent (rw said.from w))

    kept : (g x : Grant) → Case v g x → Case (stop v i) g x
    kept g x (alive j s a) = alive j s (record { member = grind (arith, a.member, leaving); holds = a.holds })
    kept g x (awaited t o f h w p) = awaited t o f h
        (⊎_elim (λ is. let a = q.member_waits t.to (request_of t) w p in let b =
        leaving (rw is at w) in grind (arith, a, b, is)) (λ other. grind (arith, other)) (same_or t.to i)) p
    kept g x (frozen j heir s a b y) = ⊎_elim
        (λ is. let none : v.subs i x ≡ None =
        rw said.from at (k.said_empty said.leave x said.sent (rw (said.from, ← is, a) tt)) in let some : v.subs i x
        ≡ Some s = rw is at b in cc)
        (λ other. frozen j heir s (grind (arith, other)) b y)
        (same_or j i)
    kept g x (cut_off j o y) = cut_off j o y

pub cases_start : (v : View) (i : ℕ) → (i ∈ v.used → ⊥) → Names v → Cases v → Cases (start v i)
cases_start v i new n c = cases_by v (start v i) (heads_new v i Joining new n) refl (λ g k d m h e. kept g k)
    (λ k e. kept k k)
    (λ t h j m e f w s. c.taken_acked t h j m e f (grind arith) (grind arith)) c.passed_acked c
  where
    other : (j : ℕ) → Works (v.mode j) → j ≡ i → ⊥
    other j w e = new (rw e at (n.up_used j w))

    kept : (g k : Grant) → Case v g k → Case (start v i) g k
    kept g k (alive j s a) = let x = other j (rw a.member tt) in alive j s
        (record { member = grind (arith, a.member, x); holds = grind (arith, a.holds, x) })
    kept g k (awaited t m e f w p) = let x = other t.to w in awaited t m e f (grind (arith, x)) (grind (arith, x, p))
    kept g k (frozen j heir s a b y) = let x =
        other j (rw a tt) in frozen j heir s (grind (arith, a, x)) (grind (arith, b, x)) y
    kept g k (cut_off j m x) = cut_off j m x

pub cases_admit : (v : View) (i : ℕ) → v.mode i ≡ Joining → Names v → Cases v → Cases (admit v i)
cases_admit v i joins n c = cases_by v (admit v i) (heads_admit v i joins n) refl (λ g k d m h e. kept g k)
    (λ k e. kept k k)
    (λ t h j m e f w. c.taken_acked t h j m e f (grind arith)) c.passed_acked c
  where
    kept : (g k : Grant) → Case v g k → Case (admit v i) g k
    kept g k (alive j s a) = alive j s (record { member = grind (arith, a.member); holds = a.holds })
    kept g k (awaited t m e f w p) = awaited t m e f (grind arith) p
    kept g k (frozen j h s a b y) = frozen j h s (grind (arith, a)) b y
    kept g k (cut_off j m y) = cut_off j m y

pub cases_mark_lost : (v : View) (i : ℕ) → Cases v → Cases (mark_lost v i)
cases_mark_lost v i c = cases_by v (mark_lost v i) (λ g d h. h) refl (λ g k d m h e. kept g k)
    (λ k e. kept k k) c.taken_acked c.passed_acked c
  where
    kept : (g k : Grant) → Case v g k → Case (mark_lost v i) g k
    kept g k (alive j s a) = alive j s a
    kept g k (awaited t m e f w p) = awaited t m e f w p
    kept g k (frozen j h s a b y) = frozen j h s a b y
    kept g k (cut_off j m y) = cut_off j (inr m) y

-- the house is down: it waited for nothing, and had the root record
pub cases_close : (v : View) (i : ℕ) → v.mode i ≡ House → Requests v → Cases v
    → Cases (record (stop v i) { root = None })
cases_close v i house q c = record {
  taken_acked = λ t h j m e f w. c.taken_acked t h j m e f (grind arith);
  passed_acked = c.passed_acked;
  record_case = λ g k d m h e. kept g k (c.record_case g k d m (heads_stop v i g d h) e);
  root_case = λ x e. cc;
}
  where
    kept : (g k : Grant) → Case v g k → Case (record (stop v i) { root = None }) g k
    kept g k (alive j s a) = alive j s (record { member = grind (arith, a.member, house); holds = a.holds })
    kept g k (awaited t m e f w p) = let a =
        q.member_waits t.to (request_of t) w p in awaited t m e f (grind (arith, a, house)) p
    kept g k (frozen j h s a b y) = frozen j h s (grind (arith, a, house)) b y
    kept g k (cut_off j m y) = cut_off j m y

-- a Refuse: the Steal that its thief waits on wasn't answered by a Grant
pub cases_refused : (v : View) (i : ℕ) (x : Steal) → x ∈ v.refusals → x.thief ≡ i
    → v.pending i ≡ Some (record { victim = x.victim; seq = x.seq }) → Requests v → Cases v → Cases (unpend v i)
cases_refused v i x m e p q c = cases_by v (unpend v i) (λ g d h. h) refl (λ g k d o h f. kept g k)
    (λ k f. kept k k) c.taken_acked c.passed_acked c
  where
    kept : (g k : Grant) → Case v g k → Case (unpend v i) g k
    kept g k (alive j s a) = alive j s a
    kept g k (awaited t o f h w r) = ⊎_elim
        (λ is. let two : v.pending i ≡ Some (request_of t) = rw is at r in let seq : t.seq ≡ x.seq =
        ap (λ (y : Request). y.seq) (some_same (sym two ∙ p)) in absurd (q.one_reply t x o m h (is ∙ sym e) seq))
        (λ other. awaited t o f h w (grind (arith, r, other)))
        (same_or t.to i)
    kept g k (frozen j heir s a b y) = frozen j heir s a b y
    kept g k (cut_off j o y) = cut_off j o y

-- A request is given up: the Grant that it may have got is cut off by its thief, or by its minter,
-- who was sent the grant that has its record. The root's minter is the open house, which isn't
-- lost.
pub cases_give_up : (v : View) (i : ℕ) → GivesUp v i → Names v → Homes v → Rooted v → Kin v → Requests v → Cases v
    → Cases (unpend v i)
cases_give_up v i up n hm r kin q c = cases_by v (unpend v i) (λ g d h. h) refl
    (λ g k d o h f. kept g k (λ t m e z l. let p =
    kin.on_path g k d o t.from h f (minter k t m e z) in record {
      transfer = p.transfer;
      sent = p.sent;
      grant = p.grant;
      to = p.to;
    }))
    (λ k f. kept k k (λ t m e z l. let is =
    root_host v hm r k t.from f (minter k t m e z) in absurd (r.house_up k.minter (r.root_house k f) (rw is at l))))
    c.taken_acked c.passed_acked c
  where
    minter : (k : Grant) (t : Transfer) → t ∈ v.transfers → t.grant ≡ k → t.hop ≡ 0 → Host v k t.from
    minter k t m e z = by_content t.content (sent t m e refl) (n.minted_for t m z)

    gone : (g k : Grant) (t : Transfer) → t ∈ v.transfers → t.grant ≡ k → t.hop ≡ 0 → Works (v.mode t.to)
        → v.pending t.to ≡ Some (request_of t) → t.to ≡ i → GivesUp v i → (t.from ∈ v.lost → Came v.transfers g t.from)
        → Case (unpend v i) g k
    gone g k t m e z w r is (lost_thief x) came =
        cut_off i x (inl (record { transfer = t; sent = m; grant = e; to = is }))
    gone g k t m e z w r is (lost_victim p y x) came =
        let victim : p.victim ≡ t.from = ap (λ (o : Request). o.victim) (some_same (sym y ∙ rw is at r)) in
        cut_off t.from (rw victim at x) (inr (came (rw victim at x)))
    gone g k t m e z w r is (left_victim p l y x f) came =
        let victim : p.victim ≡ t.from = ap (λ (o : Request). o.victim) (some_same (sym y ∙ rw is at r)) in
        ⊎_elim
        (λ thief. cut_off t.to thief (inl (record { transfer = t; sent = m; grant = e; to = refl })))
        (λ self. cut_off t.from self (inr (came self)))
        (q.awaited l t x m z (sym (f ∙ victim)) w r)

    kept : (g k : Grant) → ((t : Transfer) → t ∈ v.transfers → t.grant ≡ k → t.hop ≡ 0 → t.from ∈ v.lost
        → Came v.transfers g t.from) → Case v g k → Case (unpend v i) g k
    kept g k came (alive j s a) = alive j s a
    kept g k came (awaited t m e z w r) =
        ⊎_elim (λ is. gone g k t m e z w r is up (came t m e z)) (λ other. awaited t m e z w (grind (arith, r, other)))
        (same_or t.to i)
    kept g k came (frozen j h s a x y) = frozen j h s a x y
    kept g k came (cut_off j m y) = cut_off j m y

-- a frozen sub is released once its Offer is acknowledged
pub cases_release : (v : View) (i heir : ℕ) (x : Grant) (r : Sub) → MayRelease v i heir x r → Cases v
    → Cases (remove v i x [])
cases_release v i heir x r may c = cases_by v (remove v i x []) (heads_remove v i x []) refl (λ g k d m h e. kept g k)
    (λ k e. kept k k) c.taken_acked c.passed_acked c
  where
    kept : (g k : Grant) → Case v g k → Case (remove v i x []) g k
    kept g k (alive j s a) = alive j s (record {
      member = a.member;
      holds = grind (arith, a.holds, a.member, may.leaving);
    })
    kept g k (awaited t m e f w p) = awaited t m e f w p
    kept g k (frozen j h s a b y) = ⊎_elim
        (λ both. let sub : s ≡ r = some_same (sym b ∙ rw (both.0, both.1) may.holds) in
        let to : heir ≡ h = grind (arith, a, may.leaving, both) in
        let is : ack_of (offer_of i heir x r) ≡ ack_of (offer_of j h k s) =
        same_ack (sym both.1) (ap (λ (z : Sub). suc z.hop) (sym sub)) to (sym both.0) in
        absurd (y (rw is at may.acked)))
        (λ other. frozen j h s a (grind (arith, b, other)) y)
        (spot_or j i k x)
    kept g k (cut_off j m y) = cut_off j m y

-- A live sub is dropped. If its grant is settled, no open record asks for it. If its parent host's
-- work is with one that is lost, that one was sent the grant that has its record; the root's parent
-- host is the open house, which isn't lost.
pub cases_drop : (v : View) (i : ℕ) (x : Grant) (s : Sub) (gone : List Grant) → Live v i x s → Drops v i x s → Names v
    → Homes v → Rooted v → Kin v → Cases v → Cases (remove v i x gone)
cases_drop v i x s gone here may n hm root kin c = cases_by v (remove v i x gone) (heads_remove v i x gone) refl
    (λ g k d m h e a. kept g k a (dropped g d m h k e may))
    (λ k e a. kept k k a (dropped_root k e may)) c.taken_acked c.passed_acked c
  where
    mine : Host v x s.content.host
    mine = by_content s.content (live_cont v i x s here) refl

    came : Came v.transfers x i
    came = held_came v n i x s (rw here.member tt) here.holds

    dropped : (g : Grant) (d : Content) (m : ℕ) → Head v g d → (k : Grant) → d.granted m ≡ Some k → Drops v i x s
        → k ≡ x → Case (remove v i x gone) g k
    dropped g d m h k e (by_settled o) is = absurd (kin.unsettled g k d m (rw is o) h e)
    dropped g d m h k e (by_verdict r y q z (inl o)) is =
        let p = walk v kin r q g d h s.content.host y z (kin.on_path g k d m s.content.host h e (rw is mine)) in
        cut_off y o (inr (record { transfer = p.transfer; sent = p.sent; grant = p.grant; to = p.to }))
    dropped g d m h k e (by_verdict r y q z (inr o)) is = cut_off i o (inl (rw is came))

    dropped_root : (k : Grant) → v.root ≡ Some k → Drops v i x s → k ≡ x → Case (remove v i x gone) k k
    dropped_root k e (by_settled o) is = absurd (root.root_unsettled k e (rw is o))
    dropped_root k e (by_verdict r y q z (inl o)) is =
        let at : s.content.host ≡ k.minter = root_host v hm root k s.content.host e (rw is mine) in
        let house : of_worker k.minter ≡ false = root_minter v hm root k e in
        let stays : s.content.host ≡ y = house_stays v hm r q s.content.host y z (inl (rw at house)) in
        absurd (root.house_up k.minter (root.root_house k e) (rw (sym stays ∙ at) at o))
    dropped_root k e (by_verdict r y q z (inr o)) is = cut_off i o (inl (rw is came))

    kept : (g k : Grant) → Case v g k → (k ≡ x → Case (remove v i x gone) g k) → Case (remove v i x gone) g k
    kept g k (alive j r a) f = ⊎_elim (λ both. f both.1)
        (λ other. alive j r (record { member = a.member; holds = grind (arith, a.holds, other) })) (spot_or j i k x)
    kept g k (awaited t m e o w p) f = awaited t m e o w p
    kept g k (frozen j h r a b y) f = frozen j h r a (grind (arith, a, b, here.member)) y
    kept g k (cut_off j m y) f = cut_off j m y

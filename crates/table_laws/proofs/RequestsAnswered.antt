-- Steals and their replies where a Steal is sent or answered, and where a victim says Leave.
use Rattle.std.proofs.Common.{◌≡◌, ℕ, ◌+◌, ◌≤◌, ◌⊎◌, Option, Some, None, refl, sym, inl, inr, ⊎_elim, arith, ap, ◌∙◌}
use Rattle.ids.specs.Names.{Grant}
use Rattle.table_laws.specs.Tables.{◌∈◌, put_at}
use Rattle.table_laws.specs.Content.{Content}
use Rattle.table_laws.specs.View.{Transfer, Steal, Leave, Request, Reply, Joining, Works, View}
use Rattle.table_laws.specs.Facts.{Answered, steal_of, stolen_by, request_of, ack_of, grant_of}
use Rattle.table_laws.specs.Moves.{ask, refuse, mint, leave}
use Rattle.table_laws.specs.Guards.{MayAsk, MayAnswer, MayLeave, Free, taken, thief_lost, thief_left, self_lost}
use Rattle.table_laws.specs.Names.{Names}
use Rattle.table_laws.specs.Leavers.{Leavers}
use Rattle.table_laws.specs.Requests.{Grants, Awaits, Requests}
use Rattle.table_laws.proofs.Lists.{same_or, some_same}
use Rattle.table_laws.proofs.Sent.{fresh}
use Rattle.table_laws.proofs.RequestsKept.{mute}

-- a Steal has a new seq
pub requests_ask : (v : View) (i victim : ℕ) → MayAsk v i victim → Requests v → Requests (ask v i victim)
requests_ask v i victim may q = record {
  joins_unasked = λ x. elim [
    | inl e ↦ λ f. (let g : v.mode i ≡ Joining =
        ap (λ (z : Steal). v.mode z.thief) (sym e) ∙ f in let member = may.member in grind (arith, member, g))
    | inr m ↦ q.joins_unasked x m
  ];
  kept_grant = q.kept_grant;
  kept_refuse = q.kept_refuse;
  member_waits = λ j r w e. grind (arith, q.member_waits j r, may.member);
  one_victim = λ x y. elim [
    | inl e ↦ elim [
      | inl f ↦ λ a b. ap (λ (z : Steal). z.victim) (e ∙ sym f)
      | inr m ↦ λ a b. absurd (earlier y m (sym a ∙ ap (λ (z : Steal). z.thief) e) (sym b
          ∙ ap (λ (z : Steal). z.seq) e))
    ]
    | inr m ↦ elim [
      | inl f ↦ λ a b. absurd
          (earlier x m (a ∙ ap (λ (z : Steal). z.thief) f) (b ∙ ap (λ (z : Steal). z.seq) f))
      | inr o ↦ q.one_victim x y m o
    ]
  ];
  asked_most = λ x. elim [
    | inl e ↦ λ w. grind (arith, e)
    | inr m ↦ λ w. let most = q.asked_most x m w in grind (arith, most)
  ];
  asked_last = λ j r w e. grind (arith, q.asked_last j r w);
  asked_sent = λ j r w e. ⊎_elim
      (λ is. let now : record { victim = victim; seq = v.asked i + 1 } ≡ r = some_same (grind (arith, e, is)) in
      let seq : v.asked i + 1 ≡ r.seq = ap (λ (z : Request). z.seq) now in
      let to : victim ≡ r.victim = ap (λ (z : Request). z.victim) now in
      let me : j ≡ i = is in inl cc)
      (λ other. inr (q.asked_sent j r w (grind (arith, e, other))))
      (same_or j i);
  grant_asked = λ t m e. inr (q.grant_asked t m e);
  refuse_asked = λ x m. inr (q.refuse_asked x m);
  one_grant = q.one_grant;
  one_reply = q.one_reply;
  grant_kept = q.grant_kept;
  refuse_kept = q.refuse_kept;
  unseen = λ t m e w p. ⊎_elim (λ is. absurd (unasked t m e is p)) (λ other. q.unseen t m e w (grind (arith, p, other)))
      (same_or t.to i);
  unanswered = λ x. elim [
    | inl e ↦ λ a f. inl (rw e (rw may.member tt, grind arith))
    | inr m ↦ λ a f. waits x (q.unanswered x m a f)
  ];
  awaited = λ l t m o e f w p. ⊎_elim (λ is. absurd (unasked t o e is p))
      (λ other. q.awaited l t m o e f w (grind (arith, p, other))) (same_or t.to i);
}
  where
    earlier : (x : Steal) → x ∈ v.steals → x.thief ≡ i → x.seq ≡ v.asked i + 1 → ⊥
    earlier x m e f = let most = q.asked_most x m (rw (e, may.member) tt) in grind (arith, most, e, f)

    unasked : (t : Transfer) → t ∈ v.transfers → t.hop ≡ 0 → t.to ≡ i
        → (ask v i victim).pending t.to ≡ Some (request_of t) → ⊥
    unasked t m e is p =
        let two : Some (record { victim = victim; seq = v.asked i + 1 }) ≡ Some (request_of t) = grind (arith, p, is) in
        earlier (stolen_by t) (q.grant_asked t m e) is (sym (ap (λ (z : Request). z.seq) (some_same two)))

    waits : (x : Steal) → Awaits v.mode v.pending v.lost x → Awaits v.mode (ask v i victim).pending v.lost x
    waits x (inl p) = let e = p.1 in let idle = may.idle in inl (p.0, grind (arith, e, idle))
    waits x (inr l) = inr l

-- what was answered stays so, where a later reply takes the place of one
answered_on : (v : View) (i thief seq : ℕ) (r : Reply) → r.seq ≡ seq → (Answered (v.kept i thief) seq → ⊥) → (a b k : ℕ)
    → Answered (v.kept a b) k → Answered (put_at v.kept i thief (Some r) a b) k
answered_on v i thief seq r e due a b k x = ⊎_elim
    (λ is. ⊎_elim (λ too. here is too) (λ other. grind (arith, x, other)) (same_or b thief))
    (λ other. grind (arith, x, other))
    (same_or a i)
  where
    small : (o : Option Reply) → (Answered o seq → ⊥) → Answered o k → k ≤ seq
    small None f y = absurd y
    small (Some z) f y = grind (arith, f, y)

    here : a ≡ i → b ≡ thief → Answered (put_at v.kept i thief (Some r) a b) k
    here is too = let y : Answered (v.kept i thief) k = rw (is, too) at x in let le : k ≤ seq =
        small (v.kept i thief) due y in grind (arith, is, too, le, e)

-- the Steal wasn't answered before
module _ (v : View) (i thief seq : ℕ) (works : Works (v.mode i)) (may : MayAnswer v i thief seq) (q : Requests v) where
  ungranted : (t : Transfer) → t ∈ v.transfers → t.hop ≡ 0 → t.to ≡ thief → t.seq ≡ seq → ⊥
  ungranted t m h a b =
      let from : t.from ≡ i = q.one_victim (stolen_by t) (steal_of thief seq i) (q.grant_asked t m h) may.asked a b in
      may.due (rw (from, a, b) at (q.grant_kept t m h (rw from works)))

  unrefused : (x : Steal) → x ∈ v.refusals → thief ≡ x.thief → seq ≡ x.seq → ⊥
  unrefused x m a b =
      let from : x.victim ≡ i = q.one_victim x (steal_of thief seq i) (q.refuse_asked x m) may.asked (sym a) (sym b) in
      may.due (rw (from, ← a, ← b) at (q.refuse_kept x m (rw from works)))

pub requests_mint : (v : View) (i thief seq : ℕ) (c : Content) → Grants (v.mode i) → Works (v.mode i)
    → MayAnswer v i thief seq → Names v → Leavers v → Requests v → Requests (mint v i thief seq c)
requests_mint v i thief seq c grants works may n l q = record {
  joins_unasked = q.joins_unasked;
  kept_grant = λ a b r t w e f. ⊎_elim
      (λ is. ⊎_elim
      (λ too. let now : record { seq = seq; given = Some new } ≡ r = some_same (grind (arith, e, is, too)) in
      let t1 : new ≡ t = some_same (ap (λ (z : Reply). z.given) now ∙ f) in (
        sym (ap (λ (z : Transfer). z.to) t1) ∙ sym too,
        sym (ap (λ (z : Transfer). z.seq) t1)
            ∙ ap (λ (z : Reply). z.seq) now,
        sym (ap (λ (z : Transfer). z.hop) t1),
      ))
      (λ other. q.kept_grant a b r t w (grind (arith, e, other)) f)
      (same_or b thief))
      (λ other. q.kept_grant a b r t w (grind (arith, e, other)) f)
      (same_or a i);
  kept_refuse = λ a b r w e f. ⊎_elim
      (λ is. ⊎_elim
      (λ too. let now : record { seq = seq; given = Some new } ≡ r =
      some_same (grind (arith, e, is, too)) in let g : Some new ≡ None = ap (λ (z : Reply). z.given) now ∙ f in cc)
      (λ other. q.kept_refuse a b r w (grind (arith, e, other)) f)
      (same_or b thief))
      (λ other. q.kept_refuse a b r w (grind (arith, e, other)) f)
      (same_or a i);
  member_waits = q.member_waits;
  one_victim = q.one_victim;
  asked_most = q.asked_most;
  asked_last = q.asked_last;
  asked_sent = q.asked_sent;
  grant_asked = λ t. elim [ inl e ↦ λ h. rw e may.asked | inr m ↦ q.grant_asked t m ];
  refuse_asked = q.refuse_asked;
  one_grant = λ t u. elim [
    | inl e ↦ elim [
      | inl f ↦ λ g h a b. e ∙ sym f
      | inr m ↦ λ g h a b. absurd (ungranted v i thief seq works may q u m h (sym a
          ∙ ap (λ (z : Transfer). z.to) e) (sym b ∙ ap (λ (z : Transfer). z.seq) e))
    ]
    | inr m ↦ elim [
      | inl f ↦ λ g h a b.
          absurd (ungranted v i thief seq works may q t m g (a ∙ ap (λ (z : Transfer). z.to) f) (b
          ∙ ap (λ (z : Transfer). z.seq) f))
      | inr o ↦ q.one_grant t u m o
    ]
  ];
  one_reply = λ t x. elim [
    | inl e ↦ λ m h a b.
        unrefused v i thief seq works may q x m (sym (ap (λ (z : Transfer). z.to) e)
        ∙ a) (sym (ap (λ (z : Transfer). z.seq) e) ∙ b)
    | inr o ↦ λ m. q.one_reply t x o m
  ];
  grant_kept = λ t. elim [
    | inl e ↦ λ h w. rw e (grind arith)
    | inr m ↦ λ h w. answered_on v i thief seq reply refl may.due t.from t.to t.seq (q.grant_kept t m h w)
  ];
  refuse_kept = λ x m w. answered_on v i thief seq reply refl may.due x.victim x.thief x.seq (q.refuse_kept x m w);
  unseen = λ t. elim [
    | inl e ↦ λ h w p.
        nothing t.to t.grant w (v.seen t.to t.grant) refl (ap (λ (z : Transfer). z.grant) e)
    | inr m ↦ q.unseen t m
  ];
  unanswered = λ x m a f. q.unanswered x m a
      (λ b. f (answered_on v i thief seq reply refl may.due x.victim x.thief x.seq b));
  awaited = λ k t m. elim [
    | inl e ↦ λ h f w p. absurd (mute v i k l m (sym f ∙ ap (λ (z : Transfer). z.from) e) grants)
    | inr o ↦ q.awaited k t m o
  ];
}
  where
    new : Transfer
    new = grant_of v i thief seq c

    reply : Reply
    reply = record { seq = seq; given = Some (grant_of v i thief seq c) }

    nothing : (j : ℕ) (g : Grant) → Works (v.mode j) → (o : Option ℕ) → v.seen j g ≡ o
        → g ≡ (grant_of v i thief seq c).grant → v.seen j g ≡ None
    nothing j g w None e f = e
    nothing j g w (Some h) e f = let s =
        n.seen_sent j h g w e in absurd (fresh v i n works s.transfer s.sent (s.grant ∙ f))

pub requests_refuse : (v : View) (i thief seq : ℕ) → Works (v.mode i) → MayAnswer v i thief seq → Requests v
    → Requests (refuse v i thief seq)
requests_refuse v i thief seq works may q = record {
  joins_unasked = q.joins_unasked;
  kept_grant = λ a b r t w e f. ⊎_elim
      (λ is. ⊎_elim
      (λ too. let now : record { seq = seq; given = None } ≡ r =
      some_same (grind (arith, e, is, too)) in let g : None ≡ Some t = ap (λ (z : Reply). z.given) now ∙ f in cc)
      (λ other. q.kept_grant a b r t w (grind (arith, e, other)) f)
      (same_or b thief))
      (λ other. q.kept_grant a b r t w (grind (arith, e, other)) f)
      (same_or a i);
  kept_refuse = λ a b r w e f. ⊎_elim
      (λ is. ⊎_elim
      (λ too. let now : record { seq = seq; given = None } ≡ r =
      some_same (grind (arith, e, is, too)) in let s1 : seq ≡ r.seq =
      ap (λ (z : Reply). z.seq) now in let a1 : a ≡ i = is in let b1 : b ≡ thief = too in inl cc)
      (λ other. inr (q.kept_refuse a b r w (grind (arith, e, other)) f))
      (same_or b thief))
      (λ other. inr (q.kept_refuse a b r w (grind (arith, e, other)) f))
      (same_or a i);
  member_waits = q.member_waits;
  one_victim = q.one_victim;
  asked_most = q.asked_most;
  asked_last = q.asked_last;
  asked_sent = q.asked_sent;
  grant_asked = q.grant_asked;
  refuse_asked = λ x. elim [ inl e ↦ rw e may.asked | inr m ↦ q.refuse_asked x m ];
  one_grant = q.one_grant;
  one_reply = λ t x m. elim [
    | inl e ↦ λ h a b.
        ungranted v i thief seq works may q t m h (a ∙ ap (λ (z : Steal). z.thief) e) (b ∙ ap (λ (z : Steal). z.seq) e)
    | inr o ↦ q.one_reply t x m o
  ];
  grant_kept = λ t m h w. answered_on v i thief seq reply refl may.due t.from t.to t.seq (q.grant_kept t m h w);
  refuse_kept = λ x. elim [
    | inl e ↦ λ w. rw e (grind arith)
    | inr m ↦ λ w. answered_on v i thief seq reply refl may.due x.victim x.thief x.seq (q.refuse_kept x m w)
  ];
  unseen = q.unseen;
  unanswered = λ x m a f. q.unanswered x m a
      (λ b. f (answered_on v i thief seq reply refl may.due x.victim x.thief x.seq b));
  awaited = q.awaited;
}
  where
    reply : Reply
    reply = record { seq = seq; given = None }

-- one that departs needn't wait for a thief: it has taken its Grant, so that it doesn't wait any
-- more; or one is lost
pub requests_leave : (v : View) (i heir epoch : ℕ) → MayLeave v i heir → Names v → Leavers v → Requests v
    → Requests (leave v i heir epoch)
requests_leave v i heir epoch may n k q =
    let awaited : (l : Leave) (t : Transfer) → l ∈ (leave v i heir epoch).leaves → t ∈ v.transfers → t.hop ≡ 0
    → t.from ≡ l.from → Works (v.mode t.to) → v.pending t.to ≡ Some (request_of t)
    → (t.to ∈ v.lost) ⊎ (t.from ∈ v.lost) =
    λ l t. elim [
      | inl e ↦ λ m h f w p. (let from : t.from ≡ i =
          f ∙ ap (λ (z : Leave). z.from) e in waited t m h from w p (v.kept i t.to) refl)
      | inr o ↦ q.awaited l t o
    ] in
    assumption (awaited, q)
  where
    works : Works (v.mode i)
    works = rw may.leaving tt

    -- the reply that is kept is that Grant
    same_grant : (t : Transfer) → t ∈ v.transfers → t.hop ≡ 0 → (r : Reply) → v.kept i t.to ≡ Some r → t.seq ≡ r.seq
        → (o : Option Transfer) → r.given ≡ o → r.given ≡ Some t
    same_grant t m h r e s None f = absurd
        (q.one_reply t (steal_of t.to r.seq i) m (q.kept_refuse i t.to r works e f) h refl s)
    same_grant t m h r e s (Some u) f = let a = q.kept_grant i t.to r u works e f in
        let is : u ≡ t = q.one_grant u t (n.kept_sent i t.to r u works e f) m a.2 h a.0 (a.1 ∙ sym s) in f ∙ ap Some is

    asked_reply : (t : Transfer) (r : Reply) → v.kept i t.to ≡ Some r → Works (v.mode t.to) → (o : Option Transfer)
        → r.given ≡ o → r.seq ≤ v.asked t.to
    asked_reply t r e w None f = q.asked_most (steal_of t.to r.seq i)
        (q.refuse_asked (steal_of t.to r.seq i) (q.kept_refuse i t.to r works e f)) w
    asked_reply t r e w (Some u) f = let a = q.kept_grant i t.to r u works e f in
        let b = q.asked_most (stolen_by u) (q.grant_asked u (n.kept_sent i t.to r u works e f) a.2) (rw a.0 w) in rw
        (a.0, a.1) at b

    why : (t : Transfer) → t ∈ v.transfers → t.hop ≡ 0 → t.from ≡ i → Works (v.mode t.to)
        → v.pending t.to ≡ Some (request_of t) → Free v i t.to t → (t.to ∈ v.lost) ⊎ (t.from ∈ v.lost)
    why t m h f w p (taken x) = let none : v.seen t.to t.grant ≡ None =
        q.unseen t m h w p in absurd (k.acked_shut (ack_of t) x (rw (q.member_waits t.to (request_of t) w p) tt)
        (rw none tt))
    why t m h f w p (thief_lost x) = inl x
    why t m h f w p (thief_left x) = absurd
        (mute v t.to x.leave k x.sent x.from (inl (rw (q.member_waits t.to (request_of t) w p) tt)))
    why t m h f w p (self_lost x) = inr (rw f x)

    waited : (t : Transfer) → t ∈ v.transfers → t.hop ≡ 0 → t.from ≡ i → Works (v.mode t.to)
        → v.pending t.to ≡ Some (request_of t) → (o : Option Reply) → v.kept i t.to ≡ o
        → (t.to ∈ v.lost) ⊎ (t.from ∈ v.lost)
    waited t m h f w p None e = let a : Answered (v.kept i t.to) t.seq =
        rw f at (q.grant_kept t m h (rw f works)) in absurd (rw e at a)
    waited t m h f w p (Some r) e =
        let a : Answered (v.kept i t.to) t.seq = rw f at (q.grant_kept t m h (rw f works)) in
        let up : t.seq ≤ r.seq = rw e at a in
        let last : t.seq ≡ v.asked t.to = q.asked_last t.to (request_of t) w p in
        let asked = asked_reply t r e w (r.given) refl in
        let s : t.seq ≡ r.seq = omega (arith, up, last, asked) in
        why t m h f w p (may.free t.to r t e (same_grant t m h r e s r.given refl))

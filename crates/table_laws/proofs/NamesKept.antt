-- Names and transfers under each move.
use Rattle.std.proofs.Common.{◌≡◌, ℕ, List, ◌++◌, ◌⊎◌, Option, Some, None, refl, inl, inr, ⊎_elim, arith, ap}
use Rattle.ids.specs.Names.{Grant}
use Rattle.table_laws.specs.Tables.{◌∈◌, put}
use Rattle.table_laws.specs.Content.{Content, Fill}
use Rattle.table_laws.specs.View.{Transfer, Ack, Result, Steal, Leave, Sub, Request, Reply, Mode, Joining, Member, Leaving, Works, View}
use Rattle.table_laws.specs.Facts.{SentTo, Granted, Live, ack_of, offer_of, steal_of}
use Rattle.table_laws.specs.Moves.{start, admit, stop, ask, keep_refuse, mint, take, acknowledge, remove, alter, settle, leave}
use Rattle.table_laws.specs.Guards.{MayAsk, MayAnswer, Begins, MayTake}
use Rattle.table_laws.specs.Names.{Names}
use Rattle.table_laws.proofs.Lists.{same, either, spot_or, some_same}
use Rattle.table_laws.proofs.Sent.{sent_within, granted_within, granted_of, handed_by, held_sent, fresh}

-- a new name: of a worker that joins, or of the clearinghouse
pub names_new : (v : View) (i : ℕ) (m : Mode) → (i ∈ v.used → ⊥) → Names v
    → Names (record (start v i) { mode = put v.mode i m })
names_new v i m new n = record {
  up_used = λ j w. grind (arith, n.up_used);
  from_used = λ t p. inr (n.from_used t p);
  to_used = λ t p. inr (n.to_used t p);
  minter_used = λ t p. inr (n.minter_used t p);
  thief_used = λ x p. inr (n.thief_used x p);
  victim_used = λ x p. inr (n.victim_used x p);
  leaver_used = λ l p. inr (n.leaver_used l p);
  settled_granted = n.settled_granted;
  result_granted = n.result_granted;
  sub_granted = λ j g k s o w e f. n.sub_granted j g k s o (grind arith) (grind arith) f;
  sent_granted = n.sent_granted;
  root_granted = n.root_granted;
  acked_sent = n.acked_sent;
  counted = λ t p w. grind (arith, n.counted t p, n.minter_used t p);
  minted_by = n.minted_by;
  minted_for = n.minted_for;
  joins_unseen = λ j g e. grind (arith, n.joins_unseen);
  joins_empty = λ j g e. grind (arith, n.joins_empty);
  kept_sent = λ j k r t w e f. grind (arith, n.kept_sent);
  one = n.one;
  path = λ t h p e. handed_by (same v.transfers) (λ k. grind (arith, n.from_used t p)) (n.path t h p e);
  held_seen = λ j g s w e. grind (arith, n.held_seen);
  held_by = λ j g s w e. grind (arith, n.held_by);
  frozen_offered = λ j h g s e f. grind (arith, n.frozen_offered);
  seen_sent = λ j h g w e. grind (arith, n.seen_sent);
}

-- a joining worker is admitted
pub names_admit : (v : View) (i : ℕ) → v.mode i ≡ Joining → Names v → Names (admit v i)
names_admit v i is n =
    let sub_granted : (j : ℕ) (g k : Grant) (s : Sub) (o : ℕ) → Works (put v.mode i Member j) → v.subs j g ≡ Some s
    → s.content.granted o ≡ Some k → Granted v.transfers k =
    λ j g k s o w e f. n.sub_granted j g k s o (grind arith) e f in
    record {
      up_used = λ j w. grind (arith, n.up_used);
      from_used = n.from_used;
      to_used = n.to_used;
      minter_used = n.minter_used;
      thief_used = n.thief_used;
      victim_used = n.victim_used;
      leaver_used = n.leaver_used;
      settled_granted = n.settled_granted;
      result_granted = n.result_granted;
      sub_granted = sub_granted;
      sent_granted = n.sent_granted;
      root_granted = n.root_granted;
      acked_sent = n.acked_sent;
      counted = λ t m w. grind (arith, n.counted);
      minted_by = n.minted_by;
      minted_for = n.minted_for;
      joins_unseen = λ j g e. grind (arith, n.joins_unseen);
      joins_empty = λ j g e. grind (arith, n.joins_empty);
      kept_sent = λ j k r t w e f. grind (arith, n.kept_sent);
      one = n.one;
      path = λ t h m e. handed_by (same v.transfers) (λ k. grind arith) (n.path t h m e);
      held_seen = λ j g s w e. grind (arith, n.held_seen);
      held_by = λ j g s w e. grind (arith, n.held_by, n.joins_empty);
      frozen_offered = λ j h g s e f. grind (arith, n.frozen_offered);
      seen_sent = λ j h g w e. grind (arith, n.seen_sent);
    }

-- one that was up is so no more
pub names_stop : (v : View) (i : ℕ) → Names v → Names (stop v i)
names_stop v i n = record {
  up_used = λ j w. grind (arith, n.up_used);
  from_used = n.from_used;
  to_used = n.to_used;
  minter_used = n.minter_used;
  thief_used = n.thief_used;
  victim_used = n.victim_used;
  leaver_used = n.leaver_used;
  settled_granted = n.settled_granted;
  result_granted = n.result_granted;
  sub_granted = λ j g k s o w e f. n.sub_granted j g k s o (grind arith) e f;
  sent_granted = n.sent_granted;
  root_granted = n.root_granted;
  acked_sent = n.acked_sent;
  counted = λ t m w. grind (arith, n.counted);
  minted_by = n.minted_by;
  minted_for = n.minted_for;
  joins_unseen = λ j g e. grind (arith, n.joins_unseen);
  joins_empty = λ j g e. grind (arith, n.joins_empty);
  kept_sent = λ j k r t w e f. grind (arith, n.kept_sent);
  one = n.one;
  path = λ t h m e. handed_by (same v.transfers) (λ k. grind arith) (n.path t h m e);
  held_seen = λ j g s w e. grind (arith, n.held_seen);
  held_by = λ j g s w e. grind (arith, n.held_by);
  frozen_offered = λ j h g s e f. grind (arith, n.frozen_offered);
  seen_sent = λ j h g w e. grind (arith, n.seen_sent);
}

-- a Steal
pub names_ask : (v : View) (i victim : ℕ) → MayAsk v i victim → Names v → Names (ask v i victim)
names_ask v i victim may n =
    let thief_used : (x : Steal) → x ∈ (ask v i victim).steals
    → x.thief ∈ v.used = λ x. elim [ inl e ↦ rw e (n.up_used i (rw may.member tt)) | inr m ↦ n.thief_used x m ] in
    let victim_used : (x : Steal) → x ∈ (ask v i victim).steals
    → x.victim ∈ v.used = λ x. elim [ inl e ↦ rw e may.victim_used | inr m ↦ n.victim_used x m ] in
    assumption (thief_used, victim_used, n)

-- a Refuse is kept
pub names_refuse : (v : View) (i thief seq : ℕ) → Names v → Names (keep_refuse v i thief seq)
names_refuse v i thief seq n =
    let kept_sent : (j k : ℕ) (r : Reply) (t : Transfer) → Works (v.mode j)
    → (keep_refuse v i thief seq).kept j k ≡ Some r → r.given ≡ Some t
    → t ∈ v.transfers = λ j k r t w e f. grind (arith, n.kept_sent) in
    assumption (kept_sent, n)

-- a Grant
pub names_mint : (v : View) (i thief seq : ℕ) (c : Content) → Works (v.mode i) → MayAnswer v i thief seq → Begins c i
    → Names v → Names (mint v i thief seq c)
names_mint v i thief seq c works may begins n = record {
  up_used = n.up_used;
  from_used = λ t. elim [ inl e ↦ rw e (n.up_used i works) | inr m ↦ n.from_used t m ];
  to_used = λ t. elim [ inl e ↦ rw e (n.thief_used (steal_of thief seq i) may.asked) | inr m ↦ n.to_used t m ];
  minter_used = λ t. elim [ inl e ↦ rw e (n.up_used i works) | inr m ↦ n.minter_used t m ];
  thief_used = n.thief_used;
  victim_used = n.victim_used;
  leaver_used = n.leaver_used;
  settled_granted = λ g m. more (n.settled_granted g m);
  result_granted = λ x m. more (n.result_granted x m);
  sub_granted = λ j g k s o w e f. more (n.sub_granted j g k s o w e f);
  sent_granted = λ t k o. elim [
    | inl e ↦ (λ f. let none = begins.bare o in let at : c.granted o ≡ Some k =
        rw e at f in absurd (cc))
    | inr m ↦ λ f. more (n.sent_granted t k o m f)
  ];
  root_granted = λ k e. more (n.root_granted k e);
  acked_sent = λ a m. sent_within (λ x p. inr p) (n.acked_sent a m);
  counted = λ t. elim [ inl e ↦ λ w. grind arith | inr m ↦ λ w. grind (arith, n.counted t m) ];
  minted_by = λ t. elim [ inl e ↦ λ h. rw e refl | inr m ↦ n.minted_by t m ];
  minted_for = λ t. elim [ inl e ↦ λ h. rw e begins.host | inr m ↦ n.minted_for t m ];
  joins_unseen = n.joins_unseen;
  joins_empty = n.joins_empty;
  kept_sent = λ j k r t w e f. grind (arith, n.kept_sent j k r t w);
  one = λ t u. elim [
    | inl e ↦ elim [ inl f ↦ λ g h. cc | inr q ↦ λ g h. absurd (fresh v i n works u q (grind arith)) ]
    | inr p ↦ elim [ inl f ↦ λ g h. absurd (fresh v i n works t p (grind arith)) | inr q ↦ n.one t u p q ]
  ];
  path = λ t h. elim [ inl e ↦ λ f. grind arith | inr m ↦ λ f. handed_by (λ x p. inr p) (λ k. k) (n.path t h m f) ];
  held_seen = n.held_seen;
  held_by = n.held_by;
  frozen_offered = λ j h g s e f. inr (n.frozen_offered j h g s e f);
  seen_sent = λ j h g w e. sent_within (λ x p. inr p) (n.seen_sent j h g w e);
}
  where
    more : {g : Grant} → Granted v.transfers g → Granted (mint v i thief seq c).transfers g
    more a = granted_within (λ x p. inr p) a

-- a transfer is taken
pub names_take : (v : View) (i : ℕ) (t : Transfer) (request : Option Request) (new : List Ack) → MayTake v i t new
    → Names v → Names (take v i t request new)
names_take v i t request new may n = record {
  up_used = n.up_used;
  from_used = n.from_used;
  to_used = n.to_used;
  minter_used = n.minter_used;
  thief_used = n.thief_used;
  victim_used = n.victim_used;
  leaver_used = n.leaver_used;
  settled_granted = n.settled_granted;
  result_granted = n.result_granted;
  sub_granted = λ j g k s o w e f. ⊎_elim
      (λ both. let r : Sub = record { hop = t.hop; content = t.content } in
      let is : Some r ≡ Some s = grind (arith, e, both) in
      n.sent_granted t k o may.sent (rw (ap (λ (x : Sub). x.content) (some_same is)) f))
      (λ other. n.sub_granted j g k s o w (grind (arith, e, other)) f)
      (spot_or j i g t.grant);
  sent_granted = n.sent_granted;
  root_granted = n.root_granted;
  acked_sent = λ a m. ⊎_elim (λ l. rw (may.acks a l) record {
    transfer = t;
    sent = may.sent;
    grant = refl;
    hop = refl;
    to = refl;
  }) (λ r. n.acked_sent a r) (either new v.acks a m);
  counted = n.counted;
  minted_by = n.minted_by;
  minted_for = n.minted_for;
  joins_unseen = λ j g e. grind (arith, n.joins_unseen, may.member);
  joins_empty = λ j g e. grind (arith, n.joins_empty, may.member);
  kept_sent = n.kept_sent;
  one = n.one;
  path = n.path;
  held_seen = λ j g s w e. grind (arith, n.held_seen);
  held_by = λ j g s w e. grind (arith, n.held_by, may.member);
  frozen_offered = λ j h g s e f. grind (arith, n.frozen_offered, may.member);
  seen_sent = λ j h g w e. grind (arith, n.seen_sent, may.sent, may.to);
}

-- an OfferAck
pub names_acknowledge : (v : View) (t : Transfer) → t ∈ v.transfers → Names v → Names (acknowledge v (ack_of t))
names_acknowledge v t sent n =
    let acked_sent : (a : Ack) → a ∈ (acknowledge v (ack_of t)).acks
    → SentTo v.transfers a.grant a.hop a.from =
    λ a. elim [
      | inl e ↦ rw e record { transfer = t; sent = sent; grant = refl; hop = refl; to = refl }
      | inr m ↦ n.acked_sent a m
    ] in
    assumption (acked_sent, n)

-- a sub goes
pub names_remove : (v : View) (i : ℕ) (g : Grant) (aborted : List Grant)
    → ((k : Grant) → k ∈ aborted → Granted v.transfers k) → Names v → Names (remove v i g aborted)
names_remove v i g aborted granted n =
    let settled_granted : (k : Grant) → k ∈ (aborted ++ v.settled)
    → Granted v.transfers k = λ k m. ⊎_elim (granted k) (n.settled_granted k) (either aborted v.settled k m) in
    let sub_granted : (j : ℕ) (h k : Grant) (s : Sub) (o : ℕ) → Works (v.mode j)
    → (remove v i g aborted).subs j h ≡ Some s → s.content.granted o ≡ Some k
    → Granted v.transfers k = λ j h k s o w e f. n.sub_granted j h k s o w (grind (arith, e)) f in
    let joins_empty : (j : ℕ) (h : Grant) → v.mode j ≡ Joining
    → (remove v i g aborted).subs j h ≡ None = λ j h e. grind (arith, n.joins_empty) in
    let held_seen : (j : ℕ) (h : Grant) (s : Sub) → Works (v.mode j) → (remove v i g aborted).subs j h ≡ Some s
    → v.seen j h ≡ Some s.hop = λ j h s w e. grind (arith, n.held_seen) in
    let held_by : (j : ℕ) (h : Grant) (s : Sub) → Works (v.mode j) → (remove v i g aborted).subs j h ≡ Some s
    → (v.mode j ≡ Member) ⊎ ((heir : ℕ) × (v.mode j ≡ Leaving heir)) = λ j h s w e. grind (arith, n.held_by) in
    let frozen_offered : (j heir : ℕ) (h : Grant) (s : Sub) → v.mode j ≡ Leaving heir
    → (remove v i g aborted).subs j h ≡ Some s
    → offer_of j heir h s ∈ v.transfers = λ j heir h s e f. grind (arith, n.frozen_offered) in
    assumption (settled_granted, sub_granted, joins_empty, held_seen, held_by, frozen_offered, n)

-- a live sub has another content, whose records were granted
pub names_alter : (v : View) (i : ℕ) (g : Grant) (s : Sub) (c : Content) (fill : Option Fill) (results : List Result)
    (gone : List Grant) → Live v i g s
    → ((k : Grant) → k ∈ gone → Granted v.transfers k) → ((x : Result) → x ∈ results → x.grant ≡ g)
    → ((n : ℕ) (k : Grant) → c.granted n ≡ Some k → Granted v.transfers k)
    → Names v → Names (alter v i g s c fill results gone)
names_alter v i g s c fill results gone here gone_granted own records n = record {
  up_used = n.up_used;
  from_used = n.from_used;
  to_used = n.to_used;
  minter_used = n.minter_used;
  thief_used = n.thief_used;
  victim_used = n.victim_used;
  leaver_used = n.leaver_used;
  settled_granted = λ k m. ⊎_elim (gone_granted k) (n.settled_granted k) (either gone v.settled k m);
  result_granted = λ x m. ⊎_elim (λ l. rw (own x l) (granted_of (held_sent v n i g s (rw here.member tt) here.holds)))
      (n.result_granted x) (either results v.results x m);
  sub_granted = λ j h k r o w e f. ⊎_elim
      (λ both. let q : Sub = record { hop = s.hop; content = c } in
      let is : Some q ≡ Some r = grind (arith, e, both) in
      records o k (rw (ap (λ (x : Sub). x.content) (some_same is)) f))
      (λ other. n.sub_granted j h k r o w (grind (arith, e, other)) f)
      (spot_or j i h g);
  sent_granted = n.sent_granted;
  root_granted = n.root_granted;
  acked_sent = n.acked_sent;
  counted = n.counted;
  minted_by = n.minted_by;
  minted_for = n.minted_for;
  joins_unseen = n.joins_unseen;
  joins_empty = λ j h e. grind (arith, n.joins_empty, here.member);
  kept_sent = n.kept_sent;
  one = n.one;
  path = n.path;
  held_seen = λ j h r w e. grind (arith, n.held_seen, here.holds);
  held_by = λ j h r w e. grind (arith, n.held_by, here.member);
  frozen_offered = λ j heir h r e f. grind (arith, n.frozen_offered, here.member);
  seen_sent = n.seen_sent;
}

-- a ResultAck or an Abort
pub names_settle : (v : View) (g : Grant) → Granted v.transfers g → Names v → Names (settle v g)
names_settle v g granted n =
    let settled_granted : (k : Grant) → k ∈ (settle v g).settled
    → Granted v.transfers k = λ k. elim [ inl e ↦ rw e granted | inr m ↦ n.settled_granted k m ] in
    assumption (settled_granted, n)

-- a Leave
pub names_leave : (v : View) (i heir epoch : ℕ) → i ∈ v.used → Names v → Names (leave v i heir epoch)
names_leave v i heir epoch used n =
    let leaver_used : (l : Leave) → l ∈ (leave v i heir epoch).leaves
    → l.from ∈ v.used = λ l. elim [ inl e ↦ rw e used | inr m ↦ n.leaver_used l m ] in
    assumption (leaver_used, n)

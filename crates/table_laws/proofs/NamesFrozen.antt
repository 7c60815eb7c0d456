-- Names and transfers where a member departs.
use Rattle.std.proofs.Common.{◌≡◌, ℕ, suc, List, Some, sym, ⊎_elim, arith, ap, ◌∙◌, pred}
use Rattle.table_laws.specs.Tables.{◌∈◌}
use Rattle.table_laws.specs.View.{Transfer, Member, View}
use Rattle.table_laws.specs.Facts.{SentTo, offer_of}
use Rattle.table_laws.specs.Moves.{freeze}
use Rattle.table_laws.specs.Guards.{IsOffer, MayFreeze}
use Rattle.table_laws.specs.Names.{Names}
use Rattle.table_laws.proofs.Lists.{Within, later, early, either, same_or}
use Rattle.table_laws.proofs.Sent.{sent_within, granted_within, handed_by, one_to, held_sent}

-- an Offer of a freeze is none that was sent: its sender is still a member
pub unoffered : (v : View) (i heir : ℕ) (t u : Transfer) → v.mode i ≡ Member → Names v → IsOffer (v.subs i) i heir t
    → u ∈ v.transfers → t.grant ≡ u.grant → t.hop ≡ u.hop → ⊥
unoffered v i heir t u member n offer m grant hop =
    let handed = n.path u offer.sub.hop m (sym hop ∙ ap (λ (x : Transfer). x.hop) offer.is) in
    let mine = held_sent v n i t.grant offer.sub (rw member tt) offer.holds in
    let from : u.from ≡ i = one_to n handed.before (rw grant at mine) in
    handed.stopped (rw (from, member) tt)

-- an Offer of a freeze, and the transfer by which its sub was taken
pub record Offers (v : View) (i heir : ℕ) (t : Transfer) : Type 0 where
  pub from : t.from ≡ i
  pub to : t.to ≡ heir
  pub before : SentTo v.transfers t.grant (pred t.hop) i
  pub hop : t.hop ≡ suc (pred t.hop)

pub offers_of : (v : View) (i heir : ℕ) (offers : List Transfer) → MayFreeze v i heir offers → Names v → (t : Transfer)
    → t ∈ offers → Offers v i heir t
offers_of v i heir offers may n t m =
    let o = may.each t m in
    let mine = held_sent v n i t.grant o.sub (rw may.member tt) o.holds in
    let hop : t.hop ≡ suc o.sub.hop = ap (λ (x : Transfer). x.hop) o.is in
    let back : pred t.hop ≡ o.sub.hop = omega arith in
    record {
      from = ap (λ (x : Transfer). x.from) o.is;
      to = ap (λ (x : Transfer). x.to) o.is;
      before = rw back mine;
      hop = omega arith;
    }

-- i departs
pub names_freeze : (v : View) (i heir : ℕ) (offers : List Transfer) → MayFreeze v i heir offers → Names v
    → Names (freeze v i heir offers)
names_freeze v i heir offers may n =
    let more : Within v.transfers (freeze v i heir offers).transfers = later offers v.transfers in
    let of = offers_of v i heir offers may n in
    record {
      up_used = λ j w. grind (arith, n.up_used, may.member);
      from_used = λ t m. ⊎_elim (λ l. rw ((of t l).from) (n.up_used i (rw may.member tt))) (n.from_used t)
          (either offers v.transfers t m);
      to_used = λ t m. ⊎_elim (λ l. rw ((of t l).to) may.heir_used) (n.to_used t) (either offers v.transfers t m);
      minter_used = λ t m. ⊎_elim (λ l. let b =
          (of t l).before in rw (← b.grant) (n.minter_used b.transfer b.sent)) (n.minter_used t)
          (either offers v.transfers t m);
      thief_used = n.thief_used;
      victim_used = n.victim_used;
      leaver_used = n.leaver_used;
      settled_granted = λ g m. granted_within more (n.settled_granted g m);
      result_granted = λ x m. granted_within more (n.result_granted x m);
      sub_granted = λ j g k s o w e f. granted_within more (n.sub_granted j g k s o (grind (arith, may.member)) e f);
      sent_granted = λ t k o m f. granted_within more (⊎_elim
          (λ l. let offer = may.each t l in n.sub_granted i t.grant k offer.sub o (rw may.member tt) offer.holds
          (rw (ap (λ (x : Transfer). x.content) offer.is) at f))
          (λ r. n.sent_granted t k o r f)
          (either offers v.transfers t m));
      root_granted = λ k e. granted_within more (n.root_granted k e);
      acked_sent = λ a m. sent_within more (n.acked_sent a m);
      counted = λ t m w. ⊎_elim
          (λ l. let b = (of t l).before in let le =
          n.counted b.transfer b.sent in grind (arith, le, b.grant, may.member))
          (λ r. grind (arith, n.counted t r, may.member))
          (either offers v.transfers t m);
      minted_by = λ t m e. ⊎_elim (λ l. let hop =
          (of t l).hop in absurd (omega (arith, hop, e))) (λ r. n.minted_by t r e) (either offers v.transfers t m);
      minted_for = λ t m e. ⊎_elim (λ l. let hop =
          (of t l).hop in absurd (omega (arith, hop, e))) (λ r. n.minted_for t r e) (either offers v.transfers t m);
      joins_unseen = λ j g e. grind (arith, n.joins_unseen);
      joins_empty = λ j g e. grind (arith, n.joins_empty);
      kept_sent = λ j k r t w e f. more t (n.kept_sent j k r t (grind (arith, may.member)) e f);
      one = λ t u m p e f. ⊎_elim
          (λ l. ⊎_elim (λ k. let a = may.each t l in let b = may.each u k in let twice : Some a.sub ≡ Some b.sub =
          cc in cc) (λ r. absurd (unoffered v i heir t u may.member n (may.each t l) r e f))
          (either offers v.transfers u p))
          (λ r. ⊎_elim (λ k. absurd (unoffered v i heir u t may.member n (may.each u k) r (sym e) (sym f)))
          (λ q. n.one t u r q e f) (either offers v.transfers u p))
          (either offers v.transfers t m);
      path = λ t h m e. ⊎_elim
          (λ l. let a = of t l in let back : pred t.hop ≡ h =
          grind (arith) in record {
            stopped = λ w. grind (arith, a.from);
            before = sent_within more (rw (a.from, ← back) a.before);
          })
          (λ r. handed_by more (λ k. grind (arith, may.member)) (n.path t h r e))
          (either offers v.transfers t m);
      held_seen = λ j g s w e. grind (arith, n.held_seen, may.member);
      held_by = λ j g s w e. grind (arith, n.held_by, may.member);
      frozen_offered = λ j h g s e f. ⊎_elim
          (λ same. let to : heir ≡ h = grind arith in let is : offer_of i heir g s ≡ offer_of j h g s =
          cc in rw is at (early offers v.transfers (offer_of i heir g s) (may.all g s (rw same at f))))
          (λ other. more (offer_of j h g s) (n.frozen_offered j h g s (grind arith) f))
          (same_or j i);
      seen_sent = λ j h g w e. sent_within more (n.seen_sent j h g (grind (arith, may.member)) e);
    }

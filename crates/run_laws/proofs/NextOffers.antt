-- What a leaver holds was offered, and its heir takes it if it comes now.
use Rattle.std.proofs.Common.{◌≡◌, ◌+◌, ◌<◌, ℕ, suc, Bool, true, false, nat_lt, List, Option, None, Some, refl, sym, ap, subst, ◌∙◌, arith}
use Rattle.std.proofs.lemmas.Bool.{ltb-true}
use Rattle.ids.specs.Names.{Grant}
use Rattle.ids.specs.declared.work.Record.{Record}
use Rattle.codec.specs.Pieces.{cut, cut_all}
use Rattle.codec.specs.Table.{PacketOf}
use Rattle.codec.specs.declared.body.Body.TheVariants as body
use Rattle.codec.specs.declared.body.Offer.{Offer}
use Rattle.codec.specs.declared.body.Roster.{Roster}
use Rattle.departure.specs.Offers.{offer, offer_of, offered}
use Rattle.serial_meaning.specs.Job.{JobOf}
use Rattle.victim_records.specs.Records.{record_in}
use Rattle.subcomputation.specs.Subs.{SubOf, sub_in}
use Rattle.node_state.specs.Node.{NodeOf, hop_in}
use Rattle.node_state.specs.declared.parts.State.TheVariants.{Member, Leaving}
use Rattle.node_steps.specs.Cases.{is_above}
use Rattle.table_laws.specs.Tables.{◌∈◌}
use Rattle.table_laws.specs.View.{Takes, View, Works}
use Rattle.table_laws.specs.View as tables
use Rattle.table_laws.specs.Facts.{Above, Head, Host, Live, Open, Path, RecordOf, by_content, held, open_at, sent}
use Rattle.table_laws.specs.Kin.{Kin}
use Rattle.table_laws.specs.Names.{Names}
use Rattle.table_laws.proofs.Among.{found_among}
use Rattle.table_laws.proofs.KinReached.{kin_reached}
use Rattle.table_laws.proofs.NamesReached.{names_reached}
use Rattle.table_laws.proofs.OneHead.{not_both}
use Rattle.table_laws.proofs.Paths.{end_of_path, grant_of_transfer}
use Rattle.table_laws.proofs.ValuesKept.{run_reached}
use Rattle.content_laws.proofs.Apart.{own_grant}
use Rattle.content_laws.proofs.Records.{record_shown}
use Rattle.actor_laws.specs.node_moves.Shows.{OfferShown}
use Rattle.actor_laws.proofs.node_moves.Held.{HeldAt, held_at}
use Rattle.actor_laws.proofs.node_moves.Members.{MemberShown, member_shown, own_sub}
use Rattle.actor_laws.specs.actor_agreement.Values.{IsRight}
use Rattle.actor_laws.specs.whole_offers.Kept.{NodeKept}
use Rattle.world_steps.specs.World.{WorldOf, node_in}
use Rattle.actor_laws.specs.next.Taking.{AreForeign, NoRecord, TakesOffer}
use Rattle.actor_laws.proofs.next.Fitting.{fitting_taken}
use Rattle.run_laws.specs.Next.{IsOffered}
use Rattle.run_laws.specs.Right.{WorldIsRight}
use Rattle.run_laws.specs.Shown.{Tied}
use Rattle.run_laws.specs.Sound.{cut_world}
use Rattle.run_laws.proofs.NextTold.{in_flat}

-- what is above the greatest hop of a node is so in its tables
above_there : (hop : ℕ) (o : Option ℕ) → is_above hop o ≡ true → Above o hop
above_there hop None e = tt
above_there hop (Some greatest) e = ltb-true greatest hop e

-- an Offer that a member hasn't taken: in the tables nothing of it is there
module _ (v : View) (names : Names v) (kin : Kin v) (m : NodeOf) (r : Roster) (shown : MemberShown v m r) (o : Offer)
    (s : OfferShown v.transfers m.incarnation o) (above : is_above o.hop (hop_in o.grant m.seen) ≡ true) where
  abbrev t : tables.Transfer
  t = s.transfer

  open_now : Open v t
  open_now =
      let here : Above (hop_in o.grant m.seen) o.hop = above_there o.hop (hop_in o.grant m.seen) above in
      let seen : v.seen t.to t.grant ≡ hop_in o.grant m.seen =
      ap (λ (i : ℕ). v.seen i t.grant) s.to_is ∙ ap (λ (g : Grant). v.seen m.incarnation g) s.grant
      ∙ shown.parts.seen o.grant in
      let takes : Takes (v.mode m.incarnation) = rw shown.mode tt in
      record {
        sent = s.sent;
        takes = subst (λ (i : ℕ). Takes (v.mode i)) (sym s.to_is) takes;
        above = subst (λ (x : Option ℕ). Above x t.hop) (sym seen)
            (subst (λ (h : ℕ). Above (hop_in o.grant m.seen) h) (sym s.hop) here);
      }

  head : Head v o.grant t.content
  head = open_at t open_now s.grant refl

  -- nothing of its grant is held
  not_held : (y : SubOf) → sub_in o.grant m.subs ≡ Some y → ⊥
  not_held y there =
      let h : HeldAt (v.subs m.incarnation o.grant) y =
      held_at (v.subs m.incarnation o.grant) (sub_in o.grant m.subs) y (shown.parts.subs o.grant) there in
      let live : Live v m.incarnation o.grant h.sub = record { member = shown.mode; holds = h.is } in
      not_both v names m.incarnation o.grant h.sub t live open_now s.grant

  pub none_held : sub_in o.grant m.subs ≡ None
  none_held = by_sub (sub_in o.grant m.subs) refl
    where
      by_sub : (q : Option SubOf) → sub_in o.grant m.subs ≡ q → q ≡ None
      by_sub None e = refl
      by_sub (Some y) e = absurd (not_held y e)

  -- a record of it was opened elsewhere
  record_of : (g : Grant) (x : Record) → record_in g (offered o).content.records ≡ Some x → RecordOf t.content g
  record_of g x there = record_shown t.content (offered o).content g x s.content there

  minted_elsewhere : (g : Grant) (x : Record) → record_in g (offered o).content.records ≡ Some x
      → g.minter ≡ m.incarnation → ⊥
  minted_elsewhere g x there here =
      let k = record_of g x there in
      let first = grant_of_transfer v names g (names.sent_granted t g k.number s.sent k.is) in
      let u = first.1.transfer in
      let from : u.content.host ≡ m.incarnation =
      names.minted_for u first.1.sent first.1.hop ∙ names.minted_by u first.1.sent first.1.hop
      ∙ ap (λ (z : Grant). z.minter) first.1.grant ∙ here in
      let host : Host v g m.incarnation = by_content u.content (sent u first.1.sent first.1.grant refl) from in
      let path : Path v o.grant m.incarnation = kin.on_path o.grant g t.content k.number m.incarnation head k.is host in
      let holds = end_of_path v names o.grant t.content m.incarnation shown.mode path head in
      let live : Live v m.incarnation o.grant holds.sub = record { member = shown.mode; holds = holds.holds } in
      not_both v names m.incarnation o.grant holds.sub t live open_now s.grant

  -- and no other subcomputation has one
  unrecorded : (g : Grant) (x : Record) → record_in g (offered o).content.records ≡ Some x → NoRecord g m.subs
  unrecorded g x there k y held_now = by_record (record_in g y.content.records) refl
    where
      by_record : (q : Option Record) → record_in g y.content.records ≡ q → q ≡ None
      by_record None e = refl
      by_record (Some z) e =
          let h : HeldAt (v.subs m.incarnation k) y =
          held_at (v.subs m.incarnation k) (sub_in k m.subs) y (shown.parts.subs k) held_now in
          let a = record_of g x there in
          let b : RecordOf h.sub.content g = record_shown h.sub.content y.content g z h.shown.content e in
          let works : Works (v.mode m.incarnation) = rw shown.mode tt in
          let same : o.grant ≡ k = kin.one_record o.grant k g t.content h.sub.content a.number b.number
          (sent t s.sent s.grant refl) (held m.incarnation h.sub works h.is refl) a.is b.is in
          absurd (not_held y (rw same held_now))

  pub foreign : AreForeign m.incarnation m.subs (offered o).content
  foreign = record { minter = minted_elsewhere; unrecorded = unrecorded }

module _ (job : JobOf) (v : WorldOf) (kept : (a : ℕ) (n : NodeOf) → node_in a v.nodes ≡ Some n
    → NodeKept job.number v.net n) (tied : Tied job v) (right : WorldIsRight job v) where
  abbrev w : WorldOf
  w = cut_world v

  pub frozen_offered : (a : ℕ) (n : NodeOf) (r : Roster) (heir : ℕ) (g : Grant) (s : SubOf) → node_in a v.nodes ≡ Some n
      → n.state ≡ Leaving r heir → sub_in g n.subs ≡ Some s → IsOffered job w n heir s
  frozen_offered a n r heir g s there leaving held_now = record { sent = goes_out; taken = is_taken }
    where
      went : offer job.number n.incarnation heir s ∈ v.net
      went = (kept a n there).frozen r heir s leaving (found_among _ s n.subs held_now)

      goes_out : (p : PacketOf) → p ∈ cut (offer job.number n.incarnation heir s) → p ∈ cut_all v.net
      goes_out p m = in_flat cut v.net (offer job.number n.incarnation heir s) p went m

      is_taken : (b : ℕ) (m : NodeOf) (q : Roster) → node_in b v.nodes ≡ Some m → m.incarnation ≡ heir
          → m.state ≡ Member q → is_above (s.hop + 1) (hop_in s.grant m.seen) ≡ true
          → TakesOffer job q (offer_of n.incarnation s) m
      is_taken b m q up name member above =
          let o : Offer = offer_of n.incarnation s in
          let shown : MemberShown tied.view m q = member_shown tied.view m q member (tied.shown.nodes b m up) in
          let names = names_reached (run_reached tied.run) in
          let kin = kin_reached (run_reached tied.run) in
          let to_heir : OfferShown tied.view.transfers heir (offer_of n.incarnation s) =
          tied.shown.net (offer job.number n.incarnation heir s) went in
          let to_it : OfferShown tied.view.transfers m.incarnation (offer_of n.incarnation s) =
          subst (λ (i : ℕ). OfferShown tied.view.transfers i (offer_of n.incarnation s)) (sym name) to_heir in
          let is_right : IsRight job (offered (offer_of n.incarnation s)).content =
          right.net (offer job.number n.incarnation heir s) went in
          fitting_taken job q (offer_of n.incarnation s) m above
          (none_held tied.view names kin m q shown (offer_of n.incarnation s) to_it above) shown.parts.order
          is_right (foreign tied.view names kin m q shown (offer_of n.incarnation s) to_it above)

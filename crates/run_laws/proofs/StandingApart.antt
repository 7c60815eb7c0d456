-- No two subcomputations of a node have a record of one grant, also where it takes an Offer: so the
-- tables say.
use Rattle.std.proofs.Common.{◌≡◌, ℕ, Bool, true, false, cond, List, nat_eq, ◌&&◌, inl, inr, ⊎_elim, None, Some, Ok, refl, sym, ap, ◌∙◌}
use Rattle.std.specs.Ordering.{eq_by_cmp}
use Rattle.ids.specs.Names.{Grant, grant_cmp}
use Rattle.ids.specs.Naming.{name_of_grant}
use Rattle.ids.specs.declared.work.Record.{Record}
use Rattle.codec.specs.Pieces.{cut_all, piece_at}
use Rattle.codec.specs.Table.{PacketOf, packet}
use Rattle.codec.specs.declared.body.Body.{Body}
use Rattle.codec.specs.declared.body.Body.TheVariants as body
use Rattle.codec.specs.declared.body.Offer.{Offer}
use Rattle.codec.specs.declared.body.Piece.{Piece}
use Rattle.departure.specs.Offers.{offered}
use Rattle.serial_meaning.specs.Job.{JobOf}
use Rattle.agreement_laws.proofs.Finding.{put_or_there}
use Rattle.victim_records.specs.Records.{record_in}
use Rattle.subcomputation.specs.Subs.{SubOf, name_of_sub, put_sub, sub_in}
use Rattle.node_state.specs.Node.{NodeOf}
use Rattle.node_steps.specs.Cases.{its_offer, said_by}
use Rattle.table_laws.specs.Content.{Content}
use Rattle.table_laws.specs.Tables.{◌∈◌}
use Rattle.table_laws.specs.View.{Works, View}
use Rattle.table_laws.specs.Facts.{Cont, held, sent}
use Rattle.table_laws.specs.Kin.{Kin}
use Rattle.table_laws.specs.Meaning.{Meaning}
use Rattle.table_laws.specs.Runs.{Run}
use Rattle.table_laws.proofs.KinReached.{kin_reached}
use Rattle.table_laws.proofs.ValuesKept.{run_reached}
use Rattle.content_laws.specs.Shown.{Shows}
use Rattle.content_laws.proofs.Apart.{grant_named, own_grant}
use Rattle.actor_laws.specs.node_moves.Shows.{mode_of, BodyShown, NodeShown, OfferShown, PartsShown}
use Rattle.actor_laws.specs.node_moves.Steps.{AllShown}
use Rattle.actor_laws.proofs.node_moves.Held.{HeldAt, held_at}
use Rattle.actor_laws.specs.whole_offers.Gathered.{IsOfShown}
use Rattle.actor_laws.specs.whole_offers.Kept.{NodeKept}
use Rattle.actor_laws.specs.whole_offers.Whole.{IsPieceOf, OneOffer}
use Rattle.actor_laws.proofs.whole_offers.Cutting.{arrives}
use Rattle.actor_laws.proofs.whole_offers.Gathering.{of_shown}
use Rattle.actor_laws.proofs.whole_offers.Wires.{all_whole}
use Rattle.actor_laws.specs.standing.Standing.{BodyIsApart, HaveOneHost}

-- the Offer that a Piece's packet says is the one that it was cut from
module _ (job : JobOf) (n : NodeOf) (b : Piece) (o u : Offer) where
  its_offer_is : (q : Body) → q ≡ body.Offer o → its_offer b q ≡ Some u → u ≡ o
  its_offer_is q e said =
      by_test (nat_eq o.from b.from && eq_by_cmp grant_cmp o.grant b.grant && nat_eq o.hop b.hop) (rw e at said)
    where
      by_test : (x : Bool) → cond x (Some o) None ≡ Some u → u ≡ o
      by_test true e = cc
      by_test false e = cc

  said_is : (p : PacketOf) → p.body ≡ body.Offer o → said_by job b n (Ok p) ≡ Some u → u ≡ o
  said_is p e said = by_test (nat_eq p.job job.number && nat_eq p.to n.incarnation) said
    where
      by_test : (x : Bool) → cond x (its_offer b p.body) None ≡ Some u → u ≡ o
      by_test true at = its_offer_is p.body e at
      by_test false at = cc

module _ (m : Meaning) (v : View) (run : Run m v) where
  kin : Kin v
  kin = kin_reached (run_reached run)

  -- a content of a grant that shows one
  record Known (g : Grant) (s : SubOf) : Type 0 where
    content : Content
    cont : Cont v g content
    shows : Shows content s.content

  one : (g h k : Grant) (s t : SubOf) (x y : Record) → Known g s → Known h t → record_in k s.content.records ≡ Some x
      → record_in k t.content.records ≡ Some y → g ≡ h
  one g h k s t x y a b at_x at_y =
      let p : a.content.granted x.frame ≡ Some x.grant = (a.shows.records k x at_x).stolen in
      let q : b.content.granted y.frame ≡ Some y.grant = (b.shows.records k y at_y).stolen in
      let own_x : k ≡ x.grant = own_grant k x s.content.records at_x in
      let own_y : k ≡ y.grant = own_grant k y t.content.records at_y in
      let first : a.content.granted x.frame ≡ Some k = p ∙ ap Some (sym own_x) in
      let second : b.content.granted y.frame ≡ Some k = q ∙ ap Some (sym own_y) in
      kin.one_record g h k a.content b.content x.frame y.frame a.cont b.cont first second

  module _ (n : NodeOf) (shown : NodeShown v n) (up : Works (mode_of n.state)) where
    works : Works (v.mode n.incarnation)
    works = rw shown.mode up

    known : (g : Grant) (s : SubOf) → sub_in g n.subs ≡ Some s → Known g s
    known g s there =
        let p : PartsShown v n = shown.parts up in
        let h : HeldAt (v.subs n.incarnation g) s =
        held_at (v.subs n.incarnation g) (sub_in g n.subs) s (p.subs g) there in
        record { content = h.sub.content; cont = held n.incarnation h.sub works h.is refl; shows = h.shown.content }

    one_host : HaveOneHost n.subs
    one_host g h k s t x y at_s at_t at_x at_y = one g h k s t x y (known g s at_s) (known h t at_t) at_x at_y

    known_offered : (o : Offer) (to : ℕ) → OfferShown v.transfers to o → (g : Grant) (s : SubOf)
        → sub_in g (put_sub (offered o) n.subs) ≡ Some s → Known g s
    known_offered o to y g s there = elim (put_or_there name_of_sub (name_of_grant g) (offered o) s n.subs there) [
      | inl both ↦ let same : g ≡ o.grant = grant_named g o.grant both.0 in
          let c : Known g (offered o) =
          record {
            content = y.transfer.content;
            cont = sent y.transfer y.sent (y.grant ∙ sym same) refl;
            shows = y.content;
          } in
          rw both.1 c
      | inr both ↦ known g s both.1
    ]

    one_offered : (o : Offer) (to : ℕ) → OfferShown v.transfers to o → HaveOneHost (put_sub (offered o) n.subs)
    one_offered o to y g h k s t x z at_s at_t at_x at_z =
        one g h k s t x z (known_offered o to y g s at_s) (known_offered o to y h t at_t) at_x at_z

    -- where a whole packet comes
    whole_apart : (job : JobOf) (b : Body) (to : ℕ) → BodyShown v to b → BodyIsApart job n b
    whole_apart job (body.Offer o) to y = one_offered o to y
    whole_apart job (body.Join b) to y = one_host
    whole_apart job (body.Roster b) to y = one_host
    whole_apart job (body.Steal b) to y = one_host
    whole_apart job (body.Grant b) to y = one_host
    whole_apart job (body.Refuse b) to y = one_host
    whole_apart job (body.Result b) to y = one_host
    whole_apart job (body.ResultAck b) to y = one_host
    whole_apart job (body.OfferAck b) to y = one_host
    whole_apart job (body.Leave b) to y = one_host
    whole_apart job (body.Abort b) to y = one_host
    whole_apart job (body.Beat b) to y = one_host
    whole_apart job (body.Piece b) to y = absurd y
    whole_apart job (body.Save b) to y = one_host

    -- where a Piece comes: with the last one the Offer is taken that was sent
    piece_apart : (job : JobOf) (b : Piece) → IsOfShown v n b → BodyIsApart job n (body.Piece b)
    piece_apart job b x bytes o all said =
        let read : said_by job b n (Ok x.whole) ≡ Some o = rw (x.of.read bytes all) at said in
        let same : o ≡ x.offer = said_is job n b x.offer o x.whole x.of.says read in
        rw same (one_offered x.offer n.incarnation x.sent)

    -- whatever comes over the wire to it
    pub comes_apart : (job : JobOf) (wholes : List PacketOf) → AllShown v wholes → OneOffer wholes
        → NodeKept job.number wholes n → (p : PacketOf) → p ∈ cut_all wholes → p.job ≡ job.number → p.to ≡ n.incarnation
        → BodyIsApart job n p.body
    comes_apart job wholes all single kept p there own here = ⊎_elim
        (λ whole. whole_apart job p.body p.to (all p whole))
        (λ (k : IsPieceOf wholes p).
        of_piece (piece_at k.offer (packet.write k.whole) k.index) (ap (λ (q : PacketOf). q.body) k.is))
        (arrives wholes p there)
      where
        of_piece : (b : Piece) → p.body ≡ body.Piece b → BodyIsApart job n p.body
        of_piece b says =
            rw says
            (piece_apart job b
            (of_shown wholes single (all_whole v wholes all) job.number n kept.parts p b there own here says v all))

-- A Piece comes: its part is kept, or the Offer is taken, or it is said again that it was taken.
use Rattle.std.proofs.Common.{◌≡◌, Bool, true, false, cond, nat_eq, ◌&&◌, List, [], ◌∷◌, ◌⊎◌, inl, inr, Option, None, Some, Ok, refl, sym, ap, subst, ◌∙◌, arith}
use Rattle.std.specs.Ordering.{eq_by_cmp}
use Rattle.ids.specs.Names.{grant_cmp}
use Rattle.codec.specs.Pieces.{long_reading}
use Rattle.codec.specs.Table.{PacketOf}
use Rattle.codec.specs.declared.body.Body.{Body}
use Rattle.codec.specs.declared.body.Body.TheVariants as body
use Rattle.codec.specs.declared.body.Offer.{Offer}
use Rattle.codec.specs.declared.body.Piece.{Piece}
use Rattle.codec.specs.declared.body.Roster.{Roster}
use Rattle.serial_meaning.specs.Job.{JobOf}
use Rattle.node_state.specs.Assemblies.{AssemblyOf, assembly_in, put_assembly, without_assembly}
use Rattle.node_state.specs.Node.{NodeOf, by_state, hop_in}
use Rattle.node_state.specs.declared.parts.State.{State}
use Rattle.node_state.specs.declared.parts.State.TheVariants.{Joining, Member, Leaving, Ended}
use Rattle.node_steps.specs.Cases as cases
use Rattle.node_steps.specs.Cases.{Candidate, Collecting, Old, Kept, Whole, collected, collects, is_above, on_body, on_packet, or_forgets, put_together}
use Rattle.node_steps.specs.Moves.{offer_ack}
use Rattle.node_steps.specs.Steps.{Answer, Ignored, Refused, Does, Forgets, sends}
use Rattle.table_laws.specs.View.{Works, View}
use Rattle.table_laws.specs.Meaning.{Meaning}
use Rattle.table_laws.specs.Runs.{Run}
use Rattle.move_laws.specs.Beside.{unmoved}
use Rattle.actor_laws.specs.node_moves.Shows.{NodeShown, OfferShown, PartsShown, mode_of}
use Rattle.actor_laws.specs.node_moves.Steps.{AnswerShown, StepShown}
use Rattle.actor_laws.proofs.node_moves.Offering.{member_offered_shown, offer_again}
use Rattle.actor_laws.proofs.node_moves.Told.{none_shown}
use Rattle.actor_laws.specs.whole_offers.Gathered.{IsOf, IsOfShown}

-- the tables know nothing of parts
kept_shown : (v : View) (n : NodeOf) (xs : List AssemblyOf) → NodeShown v n → NodeShown v (record n { assemblies = xs })
kept_shown v n xs shown = record {
  mode = shown.mode;
  parts = λ up. (
      let p = shown.parts up in
      let parts : PartsShown v (record n { assemblies = xs }) =
      record {
        minted = p.minted;
        asked = p.asked;
        pending = p.pending;
        seen = p.seen;
        subs = p.subs;
        order = p.order;
        replies = p.replies;
        said = p.said;
        reply_order = p.reply_order;
        confirmed = p.confirmed;
        roster = p.roster;
      } in
      parts);
}

module _ (m : Meaning) (job : JobOf) (v : View) (n : NodeOf) (run : Run m v) (shown : NodeShown v n) (b : Piece)
    (whole : PacketOf) (o : Offer) (of : IsOf n b whole o) (sent : OfferShown v.transfers n.incarnation o) where
  -- it was taken
  again_shown : Works (v.mode n.incarnation) → is_above b.hop (hop_in b.grant n.seen) ≡ false
      → StepShown m job.number v n (sends (offer_ack job n.incarnation b.from b.grant b.hop ∷ []) n)
  again_shown up e =
      let below : is_above o.hop (hop_in o.grant n.seen) ≡ false = rw (of.hop, of.grant) at e in
      rw (of.from, of.grant, of.hop) (offer_again m job v n up shown o sent below)

  leaving_shown : Works (v.mode n.incarnation) → AnswerShown m job.number v n (cases.leaving_pieced job b n)
  leaving_shown up = by_above (is_above b.hop (hop_in b.grant n.seen)) refl
    where
      by_above : (x : Bool) → is_above b.hop (hop_in b.grant n.seen) ≡ x
          → AnswerShown m job.number v n (cond x Ignored (cases.acknowledges_piece job b n))
      by_above true e = tt
      by_above false e = again_shown up e

  module _ (r : Roster) (is : n.state ≡ Member r) where
    -- all parts are there
    or_forgets_shown : (xs : List AssemblyOf) (a : Answer) → AnswerShown m job.number v (record n { assemblies = xs }) a
        → AnswerShown m job.number v n (or_forgets (record n { assemblies = xs }) a)
    unfolding or_forgets
    or_forgets_shown xs Ignored x = (kept_shown v n xs shown, refl)
    or_forgets_shown xs (Refused e) x = tt
    or_forgets_shown xs (Does s) x = record {
      view = x.view;
      way = x.way;
      name = x.name;
      node = x.node;
      sent = x.sent;
      transfers = x.transfers;
      fills = x.fills;
    }
    or_forgets_shown xs (Forgets k) x = x

    together_shown : (xs : List AssemblyOf) (q : Option Offer) → (q ≡ None) ⊎ (q ≡ Some o)
        → AnswerShown m job.number v n (put_together job r q (record n { assemblies = xs }))
    unfolding put_together
    together_shown xs None which = (kept_shown v n xs shown, refl)
    together_shown xs (Some u) (inl e) = cc
    together_shown xs (Some u) (inr e) =
        let same : u ≡ o = cc in
        let k : NodeOf = record n { assemblies = xs } in
        let row : AnswerShown m job.number v k (cases.member_offered job r o k) =
        member_offered_shown m job v k r run is (kept_shown v n xs shown) o sent in
        let here : AnswerShown m job.number v n (or_forgets k (cases.member_offered job r o k)) =
        or_forgets_shown xs (cases.member_offered job r o k) row in
        subst (λ (w : Offer). AnswerShown m job.number v n (or_forgets k (cases.member_offered job r w k)))
        (sym same) here

    its_offer_is : (q : Body) → q ≡ body.Offer o → (cases.its_offer b q ≡ None) ⊎ (cases.its_offer b q ≡ Some o)
    its_offer_is q e = rw e (by_test (nat_eq o.from b.from && eq_by_cmp grant_cmp o.grant b.grant
        && nat_eq o.hop b.hop))
      where
        by_test : (x : Bool) → (cond x (Some o) None ≡ None) ⊎ (cond x (Some o) None ≡ Some o)
        by_test true = inr refl
        by_test false = inl refl

    said_is : (k : NodeOf) (p : PacketOf) → p.body ≡ body.Offer o
        → (cases.said_by job b k (Ok p) ≡ None) ⊎ (cases.said_by job b k (Ok p) ≡ Some o)
    said_is k p e = by_test (nat_eq p.job job.number && nat_eq p.to k.incarnation)
      where
        by_test : (x : Bool) → (cond x (cases.its_offer b p.body) None ≡ None)
            ⊎ (cond x (cases.its_offer b p.body) None ≡ Some o)
        by_test true = its_offer_is p.body e
        by_test false = inl refl

    collected_shown : (c : Collecting) → collects b (assembly_in b.grant n.assemblies) ≡ c
        → AnswerShown m job.number v n (collected job r b c n)
    unfolding collected
    collected_shown Old e = tt
    collected_shown (Kept a) e = record {
      view = v;
      way = unmoved;
      name = refl;
      node = kept_shown v n (put_assembly a n.assemblies) shown;
      sent = none_shown v;
      transfers = λ t u. inl u;
      fills = refl;
    }
    collected_shown (Whole bytes) e =
        let xs = without_assembly b.grant n.assemblies in
        let k : NodeOf = record n { assemblies = xs } in
        together_shown xs (cases.said_by job b k (long_reading bytes)) (rw (of.read bytes e) (said_is k whole of.says))

    member_shown : AnswerShown m job.number v n (cases.member_pieced job r b n)
    member_shown = by_above (is_above b.hop (hop_in b.grant n.seen)) refl
      where
        by_above : (x : Bool) → is_above b.hop (hop_in b.grant n.seen) ≡ x
            → AnswerShown m job.number v n (cond x (collected job r b (collects b (assembly_in b.grant n.assemblies)) n)
            (cases.acknowledges_piece job b n))
        by_above true e = collected_shown (collects b (assembly_in b.grant n.assemblies)) refl
        by_above false e = again_shown (rw (shown.mode ∙ ap mode_of is) tt) e

  body_shown : (choice : Option Candidate) → AnswerShown m job.number v n (on_body job choice (body.Piece b) n)
  unfolding on_body by_state
  body_shown choice = by_where n.state refl
    where
      by_where : (x : State) → n.state ≡ x
          → AnswerShown m job.number v n (by_state x Ignored (λ r. cases.member_pieced job r b n)
          (λ r heir. cases.leaving_pieced job b n) Ignored)
      by_where Joining is = tt
      by_where (Member r) is = member_shown r is
      by_where (Leaving r heir) is = leaving_shown (rw (shown.mode ∙ ap mode_of is) tt)
      by_where Ended is = tt

-- in its packet
pub piece_shown : (m : Meaning) (job : JobOf) (v : View) (n : NodeOf) → Run m v → NodeShown v n
    → (b : Piece) (choice : Option Candidate) (p : PacketOf) → p.body ≡ body.Piece b
    → (p.job ≡ job.number → p.to ≡ n.incarnation → IsOfShown v n b)
    → AnswerShown m job.number v n (on_packet job choice p n)
unfolding on_packet
piece_shown m job v n run shown b choice p says of =
    by_address (nat_eq p.job job.number) (nat_eq p.to n.incarnation) refl refl
  where
    by_address : (own to : Bool) → nat_eq p.job job.number ≡ own → nat_eq p.to n.incarnation ≡ to
        → AnswerShown m job.number v n (cond (own && to) (on_body job choice p.body n) Ignored)
    by_address false to e f = tt
    by_address true false e f = tt
    by_address true true e f =
        let own : p.job ≡ job.number = grind (arith, e) in
        let same : p.to ≡ n.incarnation = grind (arith, f) in
        let x = of own same in
        rw says (body_shown m job v n run shown b x.whole x.offer x.of x.sent choice)

-- A Piece of an Offer that agrees leads to what agrees.
use Rattle.std.proofs.Common.{◌≡◌, Bool, true, false, cond, nat_eq, ◌&&◌, List, Option, None, Some, ◌⊎◌, inl, inr, Ok, refl, sym, subst, arith}
use Rattle.std.specs.Ordering.{eq_by_cmp}
use Rattle.ids.specs.Names.{grant_cmp}
use Rattle.codec.specs.Pieces.{long_reading}
use Rattle.codec.specs.Table.{PacketOf}
use Rattle.codec.specs.declared.body.Body.{Body}
use Rattle.codec.specs.declared.body.Body.TheVariants as body
use Rattle.codec.specs.declared.body.Offer.{Offer}
use Rattle.codec.specs.declared.body.Piece.{Piece}
use Rattle.codec.specs.declared.body.Roster.{Roster}
use Rattle.departure.specs.Offers.{offered}
use Rattle.serial_meaning.specs.Job.{JobOf}
use Rattle.node_state.specs.Assemblies.{AssemblyOf, assembly_in, put_assembly, without_assembly}
use Rattle.node_state.specs.Node.{NodeOf, hop_in}
use Rattle.node_steps.specs.Cases as cases
use Rattle.node_steps.specs.Cases.{Candidate, Collecting, Kept, Old, Whole, collected, collects, is_above, on_body, on_packet, or_forgets, put_together}
use Rattle.node_steps.specs.Moves.{offer_ack}
use Rattle.node_steps.specs.Steps.{Answer, Does, Forgets, Ignored, Refused}
use Rattle.actor_laws.specs.actor_agreement.Values.{AnswerIsRight, IsRight, NodeIsRight}
use Rattle.actor_laws.proofs.actor_agreement.Steps.{by_test, in_state, quiet_right, sends_one}
use Rattle.actor_laws.proofs.actor_agreement.Taking.{member_offered_right}
use Rattle.actor_laws.specs.whole_offers.Gathered.{IsOf, IsOfRight}

-- which parts a node keeps is not asked
same_right : (job : JobOf) (n : NodeOf) (xs : List AssemblyOf) → NodeIsRight job n
    → NodeIsRight job (record n { assemblies = xs })
same_right job n xs right = record { subs = right.subs; replies = right.replies }

module _ (job : JobOf) (n : NodeOf) (right : NodeIsRight job n) (b : Piece) (whole : PacketOf) (o : Offer)
    (of : IsOf n b whole o) (agrees : IsRight job (offered o).content) where
  or_forgets_right : (xs : List AssemblyOf) (a : Answer) → AnswerIsRight job a
      → AnswerIsRight job (or_forgets (record n { assemblies = xs }) a)
  unfolding or_forgets
  or_forgets_right xs Ignored x = same_right job n xs right
  or_forgets_right xs (Refused e) x = tt
  or_forgets_right xs (Does s) x = x
  or_forgets_right xs (Forgets k) x = x

  together_right : (r : Roster) (xs : List AssemblyOf) (q : Option Offer) → (q ≡ None) ⊎ (q ≡ Some o)
      → AnswerIsRight job (put_together job r q (record n { assemblies = xs }))
  unfolding put_together
  together_right r xs None which = same_right job n xs right
  together_right r xs (Some u) (inl e) = cc
  together_right r xs (Some u) (inr e) =
      let same : u ≡ o = cc in
      let k : NodeOf = record n { assemblies = xs } in
      let here : AnswerIsRight job (or_forgets k (cases.member_offered job r o k)) =
      or_forgets_right xs (cases.member_offered job r o k)
      (member_offered_right job k (same_right job n xs right) r o agrees) in
      subst (λ (w : Offer). AnswerIsRight job (or_forgets k (cases.member_offered job r w k))) (sym same) here

  its_offer_is : (q : Body) → q ≡ body.Offer o → (cases.its_offer b q ≡ None) ⊎ (cases.its_offer b q ≡ Some o)
  its_offer_is q e = rw e (by_fields (nat_eq o.from b.from && eq_by_cmp grant_cmp o.grant b.grant
      && nat_eq o.hop b.hop))
    where
      by_fields : (x : Bool) → (cond x (Some o) None ≡ None) ⊎ (cond x (Some o) None ≡ Some o)
      by_fields true = inr refl
      by_fields false = inl refl

  said_is : (k : NodeOf) (p : PacketOf) → p.body ≡ body.Offer o
      → (cases.said_by job b k (Ok p) ≡ None) ⊎ (cases.said_by job b k (Ok p) ≡ Some o)
  said_is k p e = by_address (nat_eq p.job job.number && nat_eq p.to k.incarnation)
    where
      by_address : (x : Bool) → (cond x (cases.its_offer b p.body) None ≡ None)
          ⊎ (cond x (cases.its_offer b p.body) None ≡ Some o)
      by_address true = its_offer_is p.body e
      by_address false = inl refl

  collected_right : (r : Roster) (c : Collecting) → collects b (assembly_in b.grant n.assemblies) ≡ c
      → AnswerIsRight job (collected job r b c n)
  unfolding collected
  collected_right r Old e = tt
  collected_right r (Kept a) e = quiet_right job (record n { assemblies = put_assembly a n.assemblies })
      (same_right job n (put_assembly a n.assemblies) right)
  collected_right r (Whole bytes) e =
      let xs = without_assembly b.grant n.assemblies in
      let k : NodeOf = record n { assemblies = xs } in
      together_right r xs (cases.said_by job b k (long_reading bytes)) (rw (of.read bytes e) (said_is k whole of.says))

  body_right : (choice : Option Candidate) → AnswerIsRight job (on_body job choice (body.Piece b) n)
  unfolding on_body
  body_right choice = in_state job n.state _ _ _ _ tt
      (λ r. by_test job (is_above b.hop (hop_in b.grant n.seen)) _ _
      (collected_right r (collects b (assembly_in b.grant n.assemblies)) refl)
      (sends_one job (offer_ack job n.incarnation b.from b.grant b.hop) n tt right))
      (λ r heir. by_test job (is_above b.hop (hop_in b.grant n.seen)) _ _ tt
      (sends_one job (offer_ack job n.incarnation b.from b.grant b.hop) n tt right))
      tt

-- in its packet
pub piece_right : (job : JobOf) (n : NodeOf) → NodeIsRight job n
    → (b : Piece) (choice : Option Candidate) (p : PacketOf) → p.body ≡ body.Piece b
    → (p.job ≡ job.number → p.to ≡ n.incarnation → IsOfRight job n b) → AnswerIsRight job (on_packet job choice p n)
unfolding on_packet
piece_right job n right b choice p says of = by_address (nat_eq p.job job.number) (nat_eq p.to n.incarnation) refl refl
  where
    by_address : (own to : Bool) → nat_eq p.job job.number ≡ own → nat_eq p.to n.incarnation ≡ to
        → AnswerIsRight job (cond (own && to) (on_body job choice p.body n) Ignored)
    by_address false to e f = tt
    by_address true false e f = tt
    by_address true true e f =
        let own : p.job ≡ job.number = grind (arith, e) in
        let same : p.to ≡ n.incarnation = grind (arith, f) in
        let x = of own same in
        rw says (body_right job n right b x.whole x.offer x.of x.right choice)

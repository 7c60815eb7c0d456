-- Where an Offer comes, whole or with the last of its pieces, or a newer roster, a member stands:
-- it is recovered.
use Rattle.std.proofs.Common.{◌≡◌, not, nat_lt, ◌&&◌, List, [], ◌∷◌, ◌⊎◌, inl, inr, Option, None, Some, is_some, refl}
use Rattle.std.specs.Ordering.{nat_cmp}
use Rattle.ids.specs.Members.{status_in}
use Rattle.ids.specs.Names.{Grant}
use Rattle.ids.specs.Naming.{name_of_grant}
use Rattle.ids.specs.Ordered.{AreInOrder}
use Rattle.ids.specs.declared.member.Member.{Member as Listed}
use Rattle.ids.specs.declared.member.Status.{Status}
use Rattle.ids.specs.declared.member.Status.TheVariants as member
use Rattle.codec.specs.Pieces.{long_reading}
use Rattle.codec.specs.declared.body.Body.TheVariants as body
use Rattle.codec.specs.declared.body.Offer.{Offer}
use Rattle.codec.specs.declared.body.Piece.{Piece}
use Rattle.codec.specs.declared.body.Roster.{Roster}
use Rattle.departure.specs.Offers.{offered}
use Rattle.serial_meaning.specs.Job.{JobOf}
use Rattle.agreement_laws.proofs.Finding.{put_or_there}
use Rattle.steal_protocol.specs.Requests.{request_settled}
use Rattle.steal_protocol.specs.declared.asker.Request.{Request}
use Rattle.subcomputation.specs.Fitting.{content_fits}
use Rattle.subcomputation.specs.Subs.{SubOf, name_of_sub, put_sub, sub_in}
use Rattle.node_state.specs.Assemblies.{assembly_in, without_assembly}
use Rattle.node_state.specs.Node.{NodeOf, hop_in}
use Rattle.node_state.specs.declared.parts.State.TheVariants.{Member}
use Rattle.node_steps.specs.Cases.{Collecting, Kept, Old, Whole, collected, collects, is_above, member_offered, member_pieced, member_roster, or_forgets, put_together, recovers_by, said_by}
use Rattle.node_steps.specs.Moves.{status_of}
use Rattle.node_steps.specs.Steps.{Answer, Does, Forgets, Ignored, Refused}
use Rattle.content_laws.proofs.Apart.{grant_named}
use Rattle.content_laws.proofs.Orders.{put_order}
use Rattle.actor_laws.specs.standing.Standing.{AnswerStands, BodyIsApart, ContentStands, HaveOneHost, MemberStands, NodeStands, VictimStands}
use Rattle.actor_laws.proofs.standing.Recovering.{all_recovered, recovery_stands}
use Rattle.actor_laws.proofs.standing.Steps.{by_listed, by_test, holds, in_order, member_after}

-- the victim of a request that is settled by a roster stands
victim_settled : (members : List Listed) (o : Option Request)
    → VictimStands members (request_settled (status_of members o) o)
victim_settled members None = tt
victim_settled members (Some q) = by_status (status_in q.victim members) refl
  where
    by_status : (s : Option Status) → status_in q.victim members ≡ s → VictimStands members (request_settled s (Some q))
    by_status None e = λ worker. rw e refl
    by_status (Some member.Live) e = λ worker. rw e refl
    by_status (Some member.Dead) e = tt
    by_status (Some (member.Left heir)) e = tt

-- where what was kept of a packet goes
forgets_stands : (n : NodeOf) → NodeStands n → (a : Answer) → AnswerStands a → AnswerStands (or_forgets n a)
unfolding or_forgets
forgets_stands n stands Ignored k = stands
forgets_stands n stands (Refused e) k = tt
forgets_stands n stands (Does s) k = k
forgets_stands n stands (Forgets m) k = k

module _ (job : JobOf) (n : NodeOf) (r : Roster) (is : n.state ≡ Member r) (stands : MemberStands r.members n) where
  same_node : NodeStands n
  same_node = member_after n r is stands

  -- Offer: all else stood before
  pub offered_stands : AreInOrder name_of_sub n.subs → (o : Offer) → HaveOneHost (put_sub (offered o) n.subs)
      → AnswerStands (member_offered job r o n)
  offered_stands order o one = by_test (is_above o.hop (hop_in o.grant n.seen)) _ _ (λ above.
      by_test
      (not (is_some (sub_in o.grant n.subs)) && content_fits job.program n.incarnation n.subs (offered o).content) _ _
      (λ fits.
      let subs : List SubOf = put_sub (offered o) n.subs in
      holds n r stands _ is
      (recovery_stands r.members (o.grant ∷ []) subs (put_order name_of_sub (offered o) n.subs order) one covers) refl)
      tt) same_node
    where
      covers : (g : Grant) (s : SubOf) → sub_in g (put_sub (offered o) n.subs) ≡ Some s
          → ((g ≡ o.grant) ⊎ ⊥) ⊎ ContentStands r.members s.content
      covers g s there = elim (put_or_there name_of_sub (name_of_grant g) (offered o) s n.subs there) [
        | inl both ↦ inl (inl (grant_named g o.grant both.0))
        | inr both ↦ inr (stands.subs g s both.1)
      ]

  -- Roster
  pub member_roster_stands : AreInOrder name_of_sub n.subs → HaveOneHost n.subs → (new : Roster)
      → AnswerStands (member_roster job r new n)
  member_roster_stands order one new =
      in_order (nat_cmp new.epoch r.epoch) _ _ _ tt
      (by_test (nat_lt r.version new.version) _ _
      (λ newer. by_listed (status_in n.incarnation new.members) _ _ _ kept tt tt) tt)
      tt
    where
      kept : AnswerStands (Does (recovers_by job new n))
      kept =
          record {
            subs = all_recovered new.members n.subs order one;
            victim = victim_settled new.members n.asker.pending;
          }

-- Piece: with the last one comes an Offer
module _ (job : JobOf) (n : NodeOf) (r : Roster) (is : n.state ≡ Member r) (stands : MemberStands r.members n) where
  together_stands : (m : NodeOf) → NodeStands m → (o : Option Offer)
      → ((x : Offer) → o ≡ Some x → AnswerStands (member_offered job r x m)) → AnswerStands (put_together job r o m)
  unfolding put_together
  together_stands m there None offers = there
  together_stands m there (Some o) offers = forgets_stands m there (member_offered job r o m) (offers o refl)

  collected_stands : AreInOrder name_of_sub n.subs → (b : Piece) → BodyIsApart job n (body.Piece b) → (x : Collecting)
      → collects b (assembly_in b.grant n.assemblies) ≡ x → AnswerStands (collected job r b x n)
  unfolding collected
  collected_stands order b apart Old e = tt
  collected_stands order b apart (Kept a) e = holds n r stands _ is stands.subs refl
  collected_stands order b apart (Whole bytes) e =
      let m : NodeOf = record n { assemblies = without_assembly b.grant n.assemblies } in
      let there : MemberStands r.members m = record { subs = stands.subs; victim = stands.victim } in
      together_stands m (holds n r stands m is stands.subs refl) (said_by job b m (long_reading bytes))
      (λ o said. offered_stands job m r is there order o (apart bytes o e said))

  pub pieced_stands : AreInOrder name_of_sub n.subs → (b : Piece) → BodyIsApart job n (body.Piece b)
      → AnswerStands (member_pieced job r b n)
  pieced_stands order b apart =
      by_test (is_above b.hop (hop_in b.grant n.seen)) _ _
      (λ above. collected_stands order b apart (collects b (assembly_in b.grant n.assemblies)) refl)
      (same_node job n r is stands)

-- A node leaves: it offers what it holds, hears that it was taken, and says so when it is done; and
-- it sends again what isn't answered yet.
use Rattle.std.proofs.Common.{ℕ, Bool, true, false, cond, nat_eq, ◌&&◌, List, [], ◌∷◌, ◌++◌, ◌⊎◌, inl, inr, ⊎_elim, Option, None, Some, is_some, refl}
use Rattle.std.specs.List.{flat_map, list_any}
use Rattle.ids.specs.Names.{Grant}
use Rattle.codec.specs.Table.{PacketOf}
use Rattle.codec.specs.declared.body.OfferAck.{OfferAck}
use Rattle.codec.specs.declared.body.Roster.{Roster}
use Rattle.serial_meaning.specs.Job.{JobOf}
use Rattle.departure.specs.Freezing.{refusal}
use Rattle.departure.specs.declared.freezing.FreezeError.{FreezeError}
use Rattle.steal_protocol.specs.declared.asker.Request.{Request}
use Rattle.steal_protocol.specs.declared.replies.Reply.{Reply}
use Rattle.subcomputation.specs.Subs.{sub_in, without_sub}
use Rattle.node_state.specs.Node.{NodeOf, put_confirmed}
use Rattle.node_state.specs.declared.parts.State.TheVariants.{Leaving}
use Rattle.node_steps.specs.Calls as calls
use Rattle.node_steps.specs.Cases.{confirms, is_released, left_behind, taken}
use Rattle.node_steps.specs.Moves.{Given, all_given, awaited, beat, given, given_by, grants_in, is_done, leave, leaves, move_to, name_of_given, results, steal, with_given}
use Rattle.node_steps.specs.Steps.{StepOf}
use Rattle.table_laws.specs.Tables.{◌∈◌}
use Rattle.table_laws.proofs.Lists.{either}
use Rattle.table_laws.proofs.Among.{filtered, mapped, put_among}
use Rattle.actor_laws.specs.actor_agreement.Values.{AllRight, AnswerIsRight, BodyIsRight, NodeIsRight, RepliesAreRight, StepIsRight}
use Rattle.actor_laws.proofs.actor_agreement.Sent.{both_sent, each_sent, none_sent, offers_right, one_sent, results_right}
use Rattle.actor_laws.proofs.actor_agreement.Steps.{by_test, in_state, sends_one, sends_right, without_right}

-- the Grants of some answers that agree
module _ (job : JobOf) where
  given_right : (p : PacketOf) (o : Option Grant) → BodyIsRight job p.body → (g : Given) → g ∈ given p o
      → BodyIsRight job g.packet.body
  given_right p None is g m = absurd m
  given_right p (Some x) is g (inl e) = rw e is
  given_right p (Some x) is g (inr m) = absurd m

  all_given_right : (replies : List Reply) → RepliesAreRight job replies → (g : Given) → g ∈ all_given replies
      → BodyIsRight job g.packet.body
  all_given_right [] right g m = absurd m
  all_given_right (r ∷ replies) right g m = ⊎_elim
      (λ k. given_right r.packet (given_by r.packet.body) (right r (inl refl)) g k)
      (λ k. all_given_right replies (λ x y. right x (inr y)) g k)
      (either (given r.packet (given_by r.packet.body)) (all_given replies) g m)

  -- in the order of their grants
  sorted_among : (gs sorted : List Given) (g : Given) → g ∈ with_given gs sorted → (g ∈ gs) ⊎ (g ∈ sorted)
  sorted_among [] sorted g m = inr m
  sorted_among (x ∷ gs) sorted g m = ⊎_elim
      (λ k. inl (inr k))
      (λ k. ⊎_elim (λ e. inl (inl e)) (λ l. inr l) (put_among name_of_given x g sorted k))
      (sorted_among gs _ g m)

  grants_right : (replies : List Reply) → RepliesAreRight job replies → AllRight job (grants_in replies)
  grants_right replies right p m =
      let x = mapped (λ (g : Given). g.packet) (with_given (all_given replies) []) p m in
      let among : x.item ∈ all_given replies =
      ⊎_elim (λ k. k) (λ k. absurd k) (sorted_among (all_given replies) [] x.item x.there) in
      rw (x.is) (all_given_right replies right x.item among)

module _ (job : JobOf) (n : NodeOf) (right : NodeIsRight job n) where
  -- a leaving node that is done says so
  leaves_right : (r : Roster) (heir : ℕ) (k : NodeOf) → AllRight job (leaves job r heir k)
  leaves_right r heir k = by_done (is_done r k)
    where
      by_done : (b : Bool) → AllRight job (cond b (leave job k.incarnation r heir ∷ []) [])
      by_done true = one_sent job (leave job k.incarnation r heir) tt
      by_done false = none_sent job

  offers_of_all : (heir : ℕ) → AllRight job (calls.wholes job heir n)
  offers_of_all heir = offers_right job job.number n.incarnation heir n.subs right.subs

  left_right : (r : Roster) (heir : ℕ) (k : NodeOf) → NodeIsRight job k → AnswerIsRight job (left_behind job r heir k)
  left_right r heir k held = sends_right job (leaves job r heir k) k (leaves_right r heir k) held

  -- an OfferAck
  pub taken_right : (r : Roster) (heir : ℕ) (b : OfferAck) → AnswerIsRight job (taken job r heir b n)
  taken_right r heir b =
      by_test job (is_released heir b (sub_in b.grant n.subs)) _ _
      (left_right r heir (record n { subs = without_sub b.grant n.subs })
      (record { subs = without_right job b.grant n.subs right.subs; replies = right.replies }))
      (by_test job (nat_eq b.hop 0 && list_any (confirms b) (awaited r n)) _ _
      (left_right r heir (record n {
        confirmed = put_confirmed (record { thief = b.from; grant = b.grant }) n.confirmed;
      })
      (record { subs = right.subs; replies = right.replies }))
      tt)

  -- it departs
  departs_right : (r : Roster) (heir : ℕ) → StepIsRight job (calls.whole_departs job r heir n)
  departs_right r heir =
      let gone : NodeOf = record n { state = Leaving r heir; assemblies = [] } in
      sends_right job (calls.wholes job heir n ++ leaves job r heir gone) gone
      (both_sent job (calls.wholes job heir n) (leaves job r heir gone) (offers_of_all heir)
      (leaves_right r heir gone)) (record { subs = right.subs; replies = right.replies })

  pub depart_right : (heir : ℕ) → AnswerIsRight job (calls.whole_depart job heir n)
  unfolding calls.whole_depart
  depart_right heir = in_state job n.state _ _ _ _ tt
      (λ r. by_refusal (refusal (move_to job heir n) (is_some n.asker.pending) r.members n.subs)
      (calls.whole_departs job r heir n) (departs_right r heir)) (λ r x. tt) tt
    where
      by_refusal : (o : Option FreezeError) (s : StepOf) → StepIsRight job s → AnswerIsRight job (calls.frozen job o s)
      by_refusal None s is = is
      by_refusal (Some e) s is = tt

  -- what isn't answered yet is sent again
  member_packets : (r : Roster) → AllRight job (calls.member_resend job n r)
  member_packets r =
      let first : AllRight job (beat job n.incarnation r ∷ []) = one_sent job (beat job n.incarnation r) tt in
      let asked : AllRight job (calls.pending_steal job n n.asker.pending) = by_pending n.asker.pending in
      let told : AllRight job (flat_map (results job n.incarnation) n.subs) =
      each_sent job (results job n.incarnation) (results_right job n.incarnation) n.subs in
      let rest : AllRight job (calls.pending_steal job n n.asker.pending
      ++ flat_map (results job n.incarnation) n.subs) =
      both_sent job (calls.pending_steal job n n.asker.pending)
      (flat_map (results job n.incarnation) n.subs) asked told in
      both_sent job (beat job n.incarnation r ∷ [])
      (calls.pending_steal job n n.asker.pending ++ flat_map (results job n.incarnation) n.subs) first rest
    where
      by_pending : (o : Option Request) → AllRight job (calls.pending_steal job n o)
      by_pending None = none_sent job
      by_pending (Some q) = one_sent job (steal job n.incarnation q) tt

  leaving_packets : (r : Roster) (heir : ℕ) → AllRight job (calls.whole_leaving_resend job n r heir)
  leaving_packets r heir =
      let granted : AllRight job (grants_in (awaited r n)) =
      grants_right job (awaited r n) (λ x m. right.replies x (filtered _ x n.replies m)) in
      let first : AllRight job (calls.wholes job heir n ++ grants_in (awaited r n)) =
      both_sent job (calls.wholes job heir n) (grants_in (awaited r n)) (offers_of_all heir) granted in
      let rest : AllRight job ((calls.wholes job heir n ++ grants_in (awaited r n)) ++ leaves job r heir n) =
      both_sent job (calls.wholes job heir n ++ grants_in (awaited r n)) (leaves job r heir n) first
      (leaves_right r heir n) in
      both_sent job (beat job n.incarnation r ∷ [])
      ((calls.wholes job heir n ++ grants_in (awaited r n)) ++ leaves job r heir n)
      (one_sent job (beat job n.incarnation r) tt) rest

  pub resend_right : AnswerIsRight job (calls.whole_resend job n)
  unfolding calls.whole_resend
  resend_right = in_state job n.state _ _ _ _ (sends_one job (calls.join job n.incarnation) n tt right)
      (λ r. sends_right job (calls.member_resend job n r) n (member_packets r) right)
      (λ r heir. sends_right job (calls.whole_leaving_resend job n r heir) n (leaving_packets r heir) right) tt

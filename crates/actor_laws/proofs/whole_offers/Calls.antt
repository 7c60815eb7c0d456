-- A node's own calls: turns and requests send no Offer; a departure offers all that is held, and a
-- leaving node sends just that again.
use Rattle.std.proofs.Common.{◌≡◌, ◌+◌, ◌^◌, ℕ, not, nat_lt, List, [], ◌∷◌, ◌++◌, map, ◌⊎◌, inl, inr, ⊎_elim, Option, None, Some, is_some, Result, Ok, Err, refl, ap}
use Rattle.std.specs.List.{flat_map}
use Rattle.ids.specs.Names.{Grant}
use Rattle.body_eval.specs.Done.{DoneOf}
use Rattle.codec.specs.Table.{PacketOf}
use Rattle.codec.specs.declared.body.Roster.{Roster}
use Rattle.departure.specs.Freezing.{refusal}
use Rattle.departure.specs.Offers.{offer}
use Rattle.departure.specs.declared.freezing.FreezeError.{FreezeError}
use Rattle.serial_meaning.specs.Job.{JobOf}
use Rattle.steal_protocol.specs.declared.asker.Request.{Request}
use Rattle.steal_protocol.specs.declared.replies.Reply.{Reply}
use Rattle.sub_rules.specs.Carrying.{exec_content as carried_out}
use Rattle.saved_values.specs.Saved.{known_by}
use Rattle.sub_rules.specs.declared.change.ContentChange.{ContentChange}
use Rattle.sub_rules.specs.declared.change.SubError.{SubError}
use Rattle.sub_rules.specs.declared.change.SubError.TheVariants as sub
use Rattle.subcomputation.specs.Subs.{SubOf, sub_in}
use Rattle.node_state.specs.Node.{NodeOf, by_state}
use Rattle.node_state.specs.Posts.{ready_at}
use Rattle.node_state.specs.declared.parts.State.{State}
use Rattle.node_state.specs.declared.parts.State.TheVariants.{Joining, Member, Leaving, Ended}
use Rattle.node_steps.specs.Calls as calls
use Rattle.node_steps.specs.Moves as moves
use Rattle.node_steps.specs.Steps.{Refused, Does, sends}
use Rattle.node_steps.specs.declared.error.NodeError.TheVariants as error
use Rattle.node_steps.specs.declared.parts.Victim.{Victim}
use Rattle.table_laws.specs.Tables.{◌∈◌}
use Rattle.table_laws.proofs.Lists.{early, either}
use Rattle.table_laws.proofs.Among.{filtered, mapped, put_among}
use Rattle.actor_laws.specs.whole_offers.Departs.{AnswerDeparts, AnswerSendsAgain, Departs, IsOwnOffer, SendsOwn}
use Rattle.actor_laws.specs.whole_offers.Plain.{ArePlain, IsPlain, IsPlainNode, NoOffers, NoneNew}
use Rattle.actor_laws.proofs.whole_offers.Rows.{both, by_test, changes_plain, if_there, in_state, leaves_plain, member_stays, none, one, results_plain}

-- ---- Grants that are kept as answers
given_plain : (p : PacketOf) (o : Option Grant) → IsPlain p → (g : moves.Given) → g ∈ moves.given p o → IsPlain g.packet
given_plain p None is g m = absurd m
given_plain p (Some x) is g (inl e) = rw e is
given_plain p (Some x) is g (inr m) = absurd m

all_given_plain : (replies : List Reply) → ((r : Reply) → r ∈ replies → IsPlain r.packet) → (g : moves.Given)
    → g ∈ moves.all_given replies → IsPlain g.packet
all_given_plain [] plain g m = absurd m
all_given_plain (r ∷ rs) plain g m = ⊎_elim
    (λ k. given_plain r.packet (moves.given_by r.packet.body) (plain r (inl refl)) g k)
    (λ k. all_given_plain rs (λ x y. plain x (inr y)) g k)
    (either (moves.given r.packet (moves.given_by r.packet.body)) (moves.all_given rs) g m)

sorted_among : (gs sorted : List moves.Given) (g : moves.Given) → g ∈ moves.with_given gs sorted
    → (g ∈ gs) ⊎ (g ∈ sorted)
sorted_among [] sorted g m = inr m
sorted_among (x ∷ gs) sorted g m = ⊎_elim
    (λ k. inl (inr k))
    (λ k. ⊎_elim (λ e. inl (inl e)) (λ l. inr l) (put_among moves.name_of_given x g sorted k))
    (sorted_among gs _ g m)

pub grants_plain : (replies : List Reply) → ((r : Reply) → r ∈ replies → IsPlain r.packet)
    → ArePlain (moves.grants_in replies)
grants_plain replies plain p m =
    let x = mapped (λ (g : moves.Given). g.packet) (moves.with_given (moves.all_given replies) []) p m in
    let there : x.item ∈ moves.all_given replies =
    ⊎_elim (λ k. k) (λ k. absurd k) (sorted_among (moves.all_given replies) [] x.item x.there) in
    rw (x.is) (all_given_plain replies plain x.item there)

each_plain : {X : Type 0} (f : X → List PacketOf) → ((x : X) → ArePlain (f x)) → (xs : List X)
    → ArePlain (flat_map f xs)
each_plain f all [] = none
each_plain f all (x ∷ xs) = both (f x) (flat_map f xs) (all x) (each_plain f all xs)

-- ---- Offers of all that is held
offered_among : (job i heir : ℕ) (subs : List SubOf) (x : SubOf) → x ∈ subs
    → offer job i heir x ∈ map (offer job i heir) subs
offered_among job i heir [] x m = absurd m
offered_among job i heir (y ∷ ys) x (inl e) = inl (ap (offer job i heir) e)
offered_among job i heir (y ∷ ys) x (inr m) = inr (offered_among job i heir ys x m)

module _ (job : JobOf) (n : NodeOf) (plain : IsPlainNode n) where
  -- ---- turns
  pub exec_plain : (d : DoneOf) (g : Grant) (f : ℕ) → NoOffers NoneNew n (calls.exec job d g f n)
  unfolding calls.exec
  exec_plain d g f = in_state NoneNew n n.state _ _ _ _ tt
      (λ r is. if_there NoneNew n (sub_in g n.subs) _ _ tt
      (λ s. by_change r is s (carried_out (known_by s.saved) d f s.content))) (λ r heir is. tt) tt
    where
      by_change : (r : Roster) → n.state ≡ Member r → (s : SubOf) (o : Result ContentChange SubError)
          → NoOffers NoneNew n (calls.changed job s n o)
      by_change r is s (Ok c) = changes_plain NoneNew job n plain s c r is
      by_change r is s (Err sub.Stale) = tt
      by_change r is s (Err sub.Spent) = tt
      by_change r is s (Err sub.Memory) = tt

  pub exec_ready_plain : (g : Grant) (f : ℕ) → NoOffers NoneNew n (calls.exec_ready job g f n)
  exec_ready_plain g f = in_state NoneNew n n.state _ _ _ _ tt
      (λ r is. if_there NoneNew n (ready_at n g f) _ _ tt
      (λ x. if_there NoneNew n (calls.own_turn job.program x.ready) _ _ tt (λ d. exec_plain d g f)))
      (λ r heir is. tt) tt

  pub whole_ready_plain : (most : ℕ) (g : Grant) (f : ℕ) → NoOffers NoneNew n (calls.whole_ready job most g f n)
  whole_ready_plain most g f = in_state NoneNew n n.state _ _ _ _ tt
      (λ r is. if_there NoneNew n (ready_at n g f) _ _ tt
      (λ x. if_there NoneNew n (calls.own_whole job.program most x.ready) _ _ tt
      (λ v. exec_plain (calls.sends_it job.program x.ready v) g f))) (λ r heir is. tt) tt

  -- ---- requests
  pub ask_plain : (victim : Victim) → NoOffers NoneNew n (calls.ask job victim n)
  unfolding calls.ask
  ask_plain victim = in_state NoneNew n n.state _ _ _ _ tt
      (λ r is. by_test NoneNew n (not (calls.may_ask r n victim)) _ _ tt
      (by_test NoneNew n (is_some n.asker.pending) _ _ tt
      (by_test NoneNew n (nat_lt (n.asker.asked + 1) (2 ^ 64)) _ _
      (record {
        name = refl;
        frozen = member_stays n (calls.asks job (calls.address_of r victim) n).after r is;
        replies = plain.replies;
        parts = λ x m. inl m;
        sent = one _ refl;
      }) tt)))
      (λ r heir is. by_test NoneNew n (not (calls.may_ask r n victim)) _ _ tt tt)
      tt

  -- ---- departures
  own_among : (k : NodeOf) (r : Roster) (heir : ℕ) → k.state ≡ Leaving r heir → k.subs ≡ n.subs
      → k.incarnation ≡ n.incarnation → (p : PacketOf) → p ∈ calls.wholes job heir n → IsOwnOffer job.number k p
  own_among k r heir is subs name p m =
      let x = mapped (offer job.number n.incarnation heir) n.subs p m in
      record { roster = r; heir = heir; sub = x.item; leaves = is; held = rw subs x.there; is = rw name x.is }

  departs_own : (r : Roster) → n.state ≡ Member r → (heir : ℕ) → Departs job.number n (calls.whole_departs job r heir n)
  departs_own r is heir =
      let gone : NodeOf = record n { state = Leaving r heir; assemblies = [] } in
      record {
        own = record {
          name = refl;
          subs = refl;
          replies = plain.replies;
          sent = λ p m. ⊎_elim (λ x. inr (own_among gone r heir refl refl refl p x))
              (λ x. inl (leaves_plain NoneNew job n plain r heir gone p x))
              (either (calls.wholes job heir n) (moves.leaves job r heir gone) p m);
        };
        roster = r;
        member = is;
        parts = refl;
        all = λ q h x leaves m. (let same : heir ≡ h =
            cc in rw (← same) (early (calls.wholes job heir n) (moves.leaves job r heir gone) _
            (offered_among job.number n.incarnation heir n.subs x m)));
      }

  pub depart_own : (heir : ℕ) → AnswerDeparts job.number n (calls.whole_depart job heir n)
  unfolding calls.whole_depart by_state
  depart_own heir = by_where n.state refl
    where
      by_refusal : (r : Roster) → n.state ≡ Member r → (o : Option FreezeError)
          → AnswerDeparts job.number n (calls.frozen job o (calls.whole_departs job r heir n))
      by_refusal r is None = departs_own r is heir
      by_refusal r is (Some e) = tt

      by_where : (x : State) → n.state ≡ x
          → AnswerDeparts job.number n (by_state x (Refused error.NotJoined) (calls.whole_member_depart job heir n)
          (λ r y. Refused error.Busy) (Refused error.NotJoined))
      by_where Joining is = tt
      by_where (Member r) is = by_refusal r is
          (refusal (moves.move_to job heir n) (is_some n.asker.pending) r.members n.subs)
      by_where (Leaving r y) is = tt
      by_where Ended is = tt

  -- ---- what is sent again
  again : (ps : List PacketOf) → ((p : PacketOf) → p ∈ ps → IsPlain p ⊎ IsOwnOffer job.number n p)
      → SendsOwn job.number n (sends ps n)
  again ps all = record { name = refl; subs = refl; replies = plain.replies; sent = all }

  pub member_again : (r : Roster) → ArePlain (calls.member_resend job n r)
  member_again r =
      both (moves.beat job n.incarnation r ∷ [])
      (calls.pending_steal job n n.asker.pending ++ flat_map (moves.results job n.incarnation) n.subs) (one _ refl)
      (both (calls.pending_steal job n n.asker.pending) (flat_map (moves.results job n.incarnation) n.subs)
      (by_pending n.asker.pending) (each_plain (moves.results job n.incarnation)
      (results_plain job n.incarnation) n.subs))
    where
      by_pending : (o : Option Request) → ArePlain (calls.pending_steal job n o)
      by_pending None = none
      by_pending (Some q) = one _ refl

  leaver_again : (r : Roster) (heir : ℕ) → n.state ≡ Leaving r heir → (p : PacketOf)
      → p ∈ calls.whole_leaving_resend job n r heir → IsPlain p ⊎ IsOwnOffer job.number n p
  leaver_again r heir is p (inl e) = inl (rw e refl)
  leaver_again r heir is p (inr m) = ⊎_elim
      (λ front. ⊎_elim
      (λ x. inr (own_among n r heir is refl refl p x))
      (λ x. inl (grants_plain (moves.awaited r n) (λ y k. plain.replies y (filtered _ y n.replies k)) p x))
      (either (calls.wholes job heir n) (moves.grants_in (moves.awaited r n)) p front))
      (λ x. inl (leaves_plain NoneNew job n plain r heir n p x))
      (either (calls.wholes job heir n ++ moves.grants_in (moves.awaited r n)) (moves.leaves job r heir n) p m)

  pub resend_own : AnswerSendsAgain job.number n (calls.whole_resend job n)
  unfolding calls.whole_resend by_state
  resend_own = by_where n.state refl
    where
      by_where : (x : State) → n.state ≡ x
          → AnswerSendsAgain job.number n (by_state x (Does (sends (calls.join job n.incarnation ∷ []) n))
          (λ r. Does (sends (calls.member_resend job n r) n))
          (λ r heir. Does (sends (calls.whole_leaving_resend job n r heir) n)) (Refused error.NotJoined))
      by_where Joining is = (
        refl,
        again (calls.join job n.incarnation ∷ [])
            (λ p m. inl (one (calls.join job n.incarnation) refl p m)),
      )
      by_where (Member r) is = (refl, again (calls.member_resend job n r) (λ p m. inl (member_again r p m)))
      by_where (Leaving r heir) is = (refl, again (calls.whole_leaving_resend job n r heir) (leaver_again r heir is))
      by_where Ended is = tt

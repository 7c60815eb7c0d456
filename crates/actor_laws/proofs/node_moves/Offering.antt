-- An Offer comes to a member, which takes it, or to any node that is up, which says again that it
-- has taken it; and a roster comes to one that joins.
use Rattle.std.proofs.Common.{◌≡◌, ℕ, Bool, true, false, cond, not, ◌&&◌, [], ◌∷◌, inl, inr, ⊎_elim, Option, None, Some, is_some, refl, sym, ap, ◌∙◌, arith}
use Rattle.ids.specs.Names.{Grant}
use Rattle.ids.specs.Members.{status_in}
use Rattle.ids.specs.declared.member.Status.{Status}
use Rattle.ids.specs.declared.member.Status.TheVariants as member
use Rattle.codec.specs.declared.body.Offer.{Offer}
use Rattle.codec.specs.declared.body.Roster.{Roster}
use Rattle.serial_meaning.specs.Job.{JobOf}
use Rattle.departure.specs.Offers.{offered}
use Rattle.subcomputation.specs.Fitting.{content_fits}
use Rattle.subcomputation.specs.Subs.{name_of_sub, sub_in}
use Rattle.node_state.specs.Node.{NodeOf, hop_in, ended}
use Rattle.node_state.specs.declared.parts.State.TheVariants.{Joining, Member}
use Rattle.node_steps.specs.Cases.{by_status, is_above, joins, leaving_offered, member_offered}
use Rattle.node_steps.specs.Moves.{accepts, acknowledges, recovers}
use Rattle.node_steps.specs.Steps.{Does, Ignored, quiet, sends, ◌then◌}
use Rattle.table_laws.specs.Tables.{◌∈◌}
use Rattle.table_laws.specs.View.{Transfer, Sub, Works, View}
use Rattle.table_laws.specs.View as tables
use Rattle.table_laws.specs.Facts.{Above, ack_of}
use Rattle.table_laws.specs.Guards.{MayTake}
use Rattle.table_laws.specs.Meaning.{Meaning}
use Rattle.table_laws.specs.Moves.{acknowledge, admit, adopt, take}
use Rattle.table_laws.specs.Acts as acts
use Rattle.table_laws.specs.Runs.{Run}
use Rattle.table_laws.proofs.Entries.{put_here}
use Rattle.content_laws.proofs.Orders.{put_order}
use Rattle.move_laws.specs.Beside.{KeepsSent, unmoved, moved}
use Rattle.move_laws.proofs.Sent.{keeps_one, of_act, runs_on}
use Rattle.actor_laws.specs.node_moves.Shows.{mode_of, IsShown, OfferShown, RosterShown, PartsShown, NodeShown}
use Rattle.actor_laws.specs.node_moves.Steps.{StepShown, AnswerShown}
use Rattle.actor_laws.proofs.node_moves.Held.{shows_put, seen_put}
use Rattle.actor_laws.proofs.node_moves.Told.{packet_kept, none_shown, one_shown}
use Rattle.actor_laws.proofs.node_moves.Beside.{steps_on}
use Rattle.actor_laws.proofs.node_moves.Members.{member_shown}
use Rattle.actor_laws.proofs.node_moves.Recovering.{IsMember, recovers_shown}
use Rattle.actor_laws.proofs.node_moves.Rostering.{ends_shown}

above_of : (h : ℕ) (o : Option ℕ) → is_above h o ≡ true → Above o h
above_of h None e = tt
above_of h (Some x) e = grind (arith, e)

not_above : (h : ℕ) (o : Option ℕ) → is_above h o ≡ false → Above o h → ⊥
not_above h None e a = cc
not_above h (Some x) e a = grind (arith, e, a)

-- the ack of a transfer, as an OfferAck tells it
pub same_ack : (t : Transfer) (g : Grant) (hop from to : ℕ) → t.grant ≡ g → t.hop ≡ hop → t.to ≡ from → t.from ≡ to
    → ◌≡◌ {A = tables.Ack} (record { grant = g; hop = hop; from = from; to = to }) (ack_of t)
same_ack t g hop from to a b c d = rw (a, b, c, d) refl

-- that it was taken is said again
module _ (m : Meaning) (job : JobOf) (v : View) (n : NodeOf) (up : Works (v.mode n.incarnation)) (shown : NodeShown v n)
    (o : Offer) (s : OfferShown v.transfers n.incarnation o) where
  pub offer_again : is_above o.hop (hop_in o.grant n.seen) ≡ false
      → StepShown m job.number v n (sends (acknowledges job o n ∷ []) n)
  offer_again e =
      let p = shown.parts (rw (← shown.mode) up) in
      let t = s.transfer in
      let shut : Above (v.seen t.to t.grant) t.hop
      → ⊥ = λ above. (let here : Above (hop_in o.grant n.seen) o.hop =
      rw (s.to_is, s.grant, s.hop, p.seen o.grant) at above in not_above o.hop (hop_in o.grant n.seen) e here) in
      let act : acts.Act v (acknowledge v (ack_of t)) = acts.acknowledges t s.sent shut (rw s.to_is up) in
      let view : View = acknowledge v (ack_of t) in
      let keeps : KeepsSent v view = keeps_one act in
      let parts : PartsShown view n = record {
        minted = p.minted;
        asked = p.asked;
        pending = p.pending;
        seen = p.seen;
        subs = p.subs;
        order = p.order;
        replies = p.replies;
        said = λ x r y. packet_kept keeps r.packet (p.said x r y);
        reply_order = p.reply_order;
        confirmed = λ x g y. inr (p.confirmed x g y);
        roster = p.roster;
      } in
      record {
        view = view;
        way = moved unmoved act tt (of_act act n.incarnation tt);
        name = refl;
        node = record { mode = shown.mode; parts = λ x. parts };
        sent =
            one_shown view (acknowledges job o n)
            (inl (same_ack t o.grant o.hop n.incarnation o.from s.grant s.hop s.to_is s.from));
        transfers = λ u old. inl old;
        fills = refl;
      }

  pub leaving_offered_shown : AnswerShown m job.number v n (leaving_offered job o n)
  leaving_offered_shown = by_above (is_above o.hop (hop_in o.grant n.seen)) refl
    where
      by_above : (b : Bool) → is_above o.hop (hop_in o.grant n.seen) ≡ b
          → AnswerShown m job.number v n (cond b Ignored (Does (sends (acknowledges job o n ∷ []) n)))
      by_above true e = tt
      by_above false e = offer_again e

module _ (m : Meaning) (job : JobOf) (v : View) (n : NodeOf) (r : Roster) (run : Run m v) (is : n.state ≡ Member r)
    (shown : NodeShown v n) (o : Offer) (s : OfferShown v.transfers n.incarnation o) where
  -- it is taken
  accepts_shown : is_above o.hop (hop_in o.grant n.seen) ≡ true → StepShown m job.number v n (accepts job o n)
  accepts_shown e =
      let i = n.incarnation in
      let h = member_shown v n r is shown in
      let p = h.parts in
      let t = s.transfer in
      let above : Above (v.seen i t.grant) t.hop =
      rw (s.grant, s.hop, p.seen o.grant) (above_of o.hop (hop_in o.grant n.seen) e) in
      let may : MayTake v i t (ack_of t ∷ []) =
      record {
        sent = s.sent;
        to = s.to_is;
        member = h.mode;
        above = above;
        acks = λ a. elim [ inl x ↦ x | inr x ↦ absurd x ];
      } in
      let act : acts.Act v (take v i t (v.pending i) (ack_of t ∷ [])) = acts.takes_offer i t s.before may s.later in
      let view : View = take v i t (v.pending i) (ack_of t ∷ []) in
      let keeps : KeepsSent v view = keeps_one act in
      let held : IsShown (record { hop = t.hop; content = t.content }) (offered o) =
      record { hop = s.hop; content = s.content; kept = s.kept } in
      let parts : PartsShown view (accepts job o n).after = record {
        minted = p.minted;
        asked = p.asked;
        pending = put_here v.pending i (v.pending i) ∙ p.pending;
        seen = λ k. rw (s.grant, s.hop) (seen_put v.seen i n.seen o.grant o.hop p.seen k);
        subs = λ k. rw s.grant (shows_put v.subs i n.subs (record { hop = t.hop; content = t.content })
            (offered o) p.subs held k);
        order = put_order name_of_sub (offered o) n.subs p.order;
        replies = p.replies;
        said = λ x y z. packet_kept keeps y.packet (p.said x y z);
        reply_order = p.reply_order;
        confirmed = λ x g y. inr (p.confirmed x g y);
        roster = p.roster;
      } in
      record {
        view = view;
        way = moved unmoved act tt (of_act act i refl);
        name = refl;
        node = record { mode = shown.mode; parts = λ x. parts };
        sent =
            one_shown view (acknowledges job o n)
            (inl (same_ack t o.grant o.hop i o.from s.grant s.hop s.to_is s.from));
        transfers = λ u old. inl old;
        fills = refl;
      }

  takes_shown : is_above o.hop (hop_in o.grant n.seen) ≡ true
      → StepShown m job.number v n (accepts job o n then recovers job r.members (o.grant ∷ []))
  takes_shown e =
      let a = accepts_shown e in
      let after : NodeOf = (accepts job o n).after in
      let k : IsMember m job r a.view after = record { run = runs_on run a.way; is = is; shown = a.node } in
      steps_on m job.number v n (accepts job o n) (recovers job r.members (o.grant ∷ [])) a
      (recovers_shown m job r (o.grant ∷ []) a.view after k)

  pub member_offered_shown : AnswerShown m job.number v n (member_offered job r o n)
  member_offered_shown = by_above (is_above o.hop (hop_in o.grant n.seen)) refl
    where
      by_fit : is_above o.hop (hop_in o.grant n.seen) ≡ true → (b : Bool)
          → AnswerShown m job.number v n (cond b
          (Does (accepts job o n then recovers job r.members (o.grant ∷ []))) Ignored)
      by_fit e false = tt
      by_fit e true = takes_shown e

      by_above : (b : Bool) → is_above o.hop (hop_in o.grant n.seen) ≡ b
          → AnswerShown m job.number v n (cond b
          (cond (not (is_some (sub_in o.grant n.subs))
          && content_fits job.program n.incarnation n.subs (offered o).content)
          (Does (accepts job o n then recovers job r.members (o.grant ∷ []))) Ignored)
          (Does (sends (acknowledges job o n ∷ []) n)))
      by_above true e = by_fit e (not (is_some (sub_in o.grant n.subs))
          && content_fits job.program n.incarnation n.subs (offered o).content)
      by_above false e = offer_again m job v n (rw (member_shown v n r is shown).mode tt) shown o s e

-- a roster comes to one that joins
module _ (m : Meaning) (job : JobOf) (v : View) (n : NodeOf) (r : Roster) (run : Run m v) (is : n.state ≡ Joining)
    (shown : NodeShown v n) (told : RosterShown v.rosters r) where
  admits_shown : told.roster ∈ v.rosters → StepShown m job.number v n (quiet (record n { state = Member r }))
  admits_shown sent =
      let i = n.incarnation in
      let p = shown.parts (rw is tt) in
      let mode : v.mode i ≡ tables.Joining = shown.mode ∙ ap mode_of is in
      let act : acts.Act v (adopt (admit v i) i told.roster) = acts.admits i told.roster mode sent in
      let view : View = adopt (admit v i) i told.roster in
      let keeps : KeepsSent v view = keeps_one act in
      let parts : PartsShown view (record n { state = Member r }) =
      record {
        minted = p.minted;
        asked = p.asked;
        pending = p.pending;
        seen = p.seen;
        subs = p.subs;
        order = p.order;
        replies = p.replies;
        said = λ x y z. packet_kept keeps y.packet (p.said x y z);
        reply_order = p.reply_order;
        confirmed = p.confirmed;
        roster = record { roster = told.roster; is = put_here v.roster i (Some told.roster); shows = told.shows };
      } in
      record {
        view = view;
        way = moved unmoved act tt (of_act act i refl);
        name = refl;
        node = record { mode = put_here v.mode i tables.Member; parts = λ x. parts };
        sent = none_shown view;
        transfers = λ u old. inl old;
        fills = refl;
      }

  pub joins_shown : AnswerShown m job.number v n (joins r n)
  unfolding by_status
  joins_shown = by_what (status_in n.incarnation r.members) refl
    where
      mode : v.mode n.incarnation ≡ tables.Joining
      mode = shown.mode ∙ ap mode_of is

      ends : StepShown m job.number v n (quiet (ended n))
      ends = ends_shown m job v n run shown (rw mode tt) (λ house. let two : tables.Joining ≡ tables.House =
          sym mode ∙ house in cc)

      none_listed : r.members ≡ [] → status_in n.incarnation r.members ≡ None
      none_listed e = rw e refl

      by_what : (x : Option Status) → status_in n.incarnation r.members ≡ x
          → AnswerShown m job.number v n (by_status x (Does (quiet (record n { state = Member r })))
          (Does (quiet (ended n))) Ignored)
      by_what None e = tt
      by_what (Some member.Live) e = ⊎_elim (λ sent. admits_shown sent) (λ none. let no =
          none_listed none in cc) told.had
      by_what (Some member.Dead) e = ends
      by_what (Some (member.Left heir)) e = ends

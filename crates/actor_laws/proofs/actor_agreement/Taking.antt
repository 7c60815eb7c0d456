-- A Grant or an Offer comes, which is taken or acknowledged again; and a packet that ends something
-- here.
use Rattle.std.proofs.Common.{ℕ, [], ◌∷◌, is_some, not, ◌&&◌}
use Rattle.ids.specs.Names.{Grant, is_worker}
use Rattle.codec.specs.declared.body.Body.TheVariants as body
use Rattle.codec.specs.declared.body.Grant.{Grant as GrantBody}
use Rattle.codec.specs.declared.body.Offer.{Offer}
use Rattle.codec.specs.declared.body.Roster.{Roster}
use Rattle.serial_meaning.specs.Job.{JobOf}
use Rattle.departure.specs.Offers.{offered}
use Rattle.steal_protocol.specs.Requests.{is_answered_by, is_pending, without_request}
use Rattle.subcomputation.specs.Fitting.{content_fits, task_fits}
use Rattle.subcomputation.specs.Subs.{granted_sub, sub_in}
use Rattle.node_state.specs.Node.{NodeOf, hop_in}
use Rattle.node_steps.specs.Cases.{aborted, acknowledged, acknowledged_again, granted, is_above, is_finished, leaving_offered, member_offered, refused, saved_fit}
use Rattle.node_steps.specs.Moves.{accepts, acknowledges, offer_ack, recovers, takes}
use Rattle.actor_laws.specs.actor_agreement.Values.{AnswerIsRight, BodyIsRight, IsRight, NodeIsRight, StepIsRight}
use Rattle.actor_laws.proofs.actor_agreement.Contents.{begun_right}
use Rattle.actor_laws.proofs.actor_agreement.Recovering.{recovers_right}
use Rattle.actor_laws.proofs.actor_agreement.Sent.{aborts_right, none_sent, one_sent}
use Rattle.actor_laws.proofs.actor_agreement.Steps.{by_test, if_there, put_right, quiet_right, sends_one, sends_right, then_right, without_right}

module _ (job : JobOf) (n : NodeOf) (right : NodeIsRight job n) where
  -- a Grant
  takes_right : (b : GrantBody) → BodyIsRight job (body.Grant b) → StepIsRight job (takes job b n)
  takes_right b agrees = record {
    after = record {
      subs = put_right job (granted_sub b.grant b.task b.saved) n.subs
          (record { content = begun_right job b.grant.minter b.task agrees.0; saved = agrees.1 }) right.subs;
      replies = right.replies;
    };
    sent = none_sent job;
    fills = λ f m. absurd m;
  }

  again_right : (g : Grant) → AnswerIsRight job (acknowledged_again job g n)
  again_right g = by_test job (is_worker g.minter && is_some (hop_in g n.seen)) _ _
      (sends_one job (offer_ack job n.incarnation g.minter g 0) n tt right) tt

  pub granted_is_right : (b : GrantBody) → BodyIsRight job (body.Grant b) → AnswerIsRight job (granted job b n)
  granted_is_right b agrees = by_test job
      (is_answered_by b.seq b.grant n.asker.pending && not (is_some (hop_in b.grant n.seen))
      && task_fits job.program b.task && saved_fit b.task b.saved) _ _ (takes_right b agrees) (again_right b.grant)

  -- a Refuse
  pub refused_right : (seq : ℕ) → AnswerIsRight job (refused job seq n)
  refused_right seq = by_test job (is_pending seq n.asker.pending) _ _
      (quiet_right job (record n { asker = without_request n.asker })
      (record { subs = right.subs; replies = right.replies })) tt

  -- a ResultAck
  pub acknowledged_right : (g : Grant) → AnswerIsRight job (acknowledged job g n)
  acknowledged_right g = if_there job (sub_in g n.subs) _ _ tt
      (λ s e. by_test job (is_finished s.content.progress) _ _
      (quiet_right job _ (record { subs = without_right job g n.subs right.subs; replies = right.replies })) tt)

  -- an Abort
  pub aborted_right : (g : Grant) → AnswerIsRight job (aborted job g n)
  aborted_right g = if_there job (sub_in g n.subs) _ _ tt
      (λ s e. sends_right job _ _ (aborts_right job s.content.records)
      (record { subs = without_right job s.grant n.subs right.subs; replies = right.replies }))

  -- an Offer
  accepts_right : (o : Offer) → IsRight job (offered o).content → StepIsRight job (accepts job o n)
  accepts_right o is = record {
    after = record {
      subs = put_right job (offered o) n.subs (record { content = is; saved = tt }) right.subs;
      replies = right.replies;
    };
    sent = one_sent job (acknowledges job o n) tt;
    fills = λ f m. absurd m;
  }

  pub member_offered_right : (r : Roster) (o : Offer) → IsRight job (offered o).content
      → AnswerIsRight job (member_offered job r o n)
  member_offered_right r o is =
      let a = accepts_right o is in
      by_test job (is_above o.hop (hop_in o.grant n.seen)) _ _
      (by_test job (not (is_some (sub_in o.grant n.subs))
      && content_fits job.program n.incarnation n.subs (offered o).content) _ _
      (then_right job (accepts job o n) (recovers job r.members (o.grant ∷ [])) a
      (recovers_right job r.members (o.grant ∷ []) (accepts job o n).after a.after))
      tt)
      (sends_one job (acknowledges job o n) n tt right)

  pub leaving_offered_right : (o : Offer) → AnswerIsRight job (leaving_offered job o n)
  leaving_offered_right o = by_test job (is_above o.hop (hop_in o.grant n.seen)) _ _ tt
      (sends_one job (acknowledges job o n) n tt right)

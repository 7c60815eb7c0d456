-- A Grant comes: it is taken, or acknowledged again.
use Rattle.std.proofs.Common.{◌≡◌, ◌<◌, ℕ, Bool, true, false, cond, not, nat_eq, ◌&&◌, [], ◌∷◌, inl, inr, Option, None, Some, is_some, refl, sym, ap, ◌∙◌, arith}
use Rattle.std.proofs.lemmas.Bool.{and_parts}
use Rattle.ids.specs.Names.{is_worker}
use Rattle.codec.specs.declared.body.Grant.{Grant as GrantBody}
use Rattle.serial_meaning.specs.Job.{JobOf}
use Rattle.steal_protocol.specs.Requests.{is_answered_by}
use Rattle.steal_protocol.specs.declared.asker.Request.{Request}
use Rattle.subcomputation.specs.Fitting.{task_fits}
use Rattle.subcomputation.specs.Subs.{SubOf, granted_sub, name_of_sub}
use Rattle.node_state.specs.Node.{NodeOf, hop_in}
use Rattle.node_steps.specs.Cases.{acknowledged_again, granted, saved_fit}
use Rattle.node_steps.specs.Moves.{offer_ack, takes}
use Rattle.node_steps.specs.Steps.{Does, Ignored, sends}
use Rattle.table_laws.specs.View.{Transfer, Sub, Works, View}
use Rattle.table_laws.specs.View as tables
use Rattle.table_laws.specs.Facts.{Above, ack_of, request_of}
use Rattle.table_laws.specs.Guards.{MayTake}
use Rattle.table_laws.specs.Meaning.{Meaning}
use Rattle.table_laws.specs.Moves.{take, acknowledge}
use Rattle.table_laws.specs.Acts as acts
use Rattle.table_laws.specs.Runs.{Run}
use Rattle.table_laws.proofs.RequestsReached.{requests_reached}
use Rattle.table_laws.proofs.ValuesKept.{run_reached}
use Rattle.table_laws.proofs.Entries.{put_here}
use Rattle.content_laws.proofs.Keeping.{begun_kept}
use Rattle.content_laws.proofs.Orders.{put_order}
use Rattle.move_laws.specs.Beside.{KeepsSent, unmoved, moved}
use Rattle.move_laws.proofs.Sent.{keeps_one, of_act}
use Rattle.actor_laws.specs.node_moves.Shows.{pending_of, IsShown, GrantShown, PartsShown, NodeShown}
use Rattle.actor_laws.specs.node_moves.Steps.{StepShown, AnswerShown}
use Rattle.actor_laws.proofs.node_moves.Held.{shows_put, seen_put}
use Rattle.actor_laws.proofs.node_moves.Told.{packet_kept, one_shown, none_shown}

-- what answers the pending request
pub record Answers (b : GrantBody) (o : Option Request) : Type 0 where
  pub request : Request
  pub is : o ≡ Some request
  pub seq : request.seq ≡ b.seq
  pub victim : request.victim ≡ b.grant.minter

pub answers_pending : (b : GrantBody) (o : Option Request) → is_answered_by b.seq b.grant o ≡ true → Answers b o
answers_pending b None e = cc
answers_pending b (Some q) e = record {
  request = q;
  is = refl;
  seq = (let x = (and_parts (nat_eq q.seq b.seq) (nat_eq q.victim b.grant.minter) e).0 in grind (arith, x));
  victim = (let x = (and_parts (nat_eq q.seq b.seq) (nat_eq q.victim b.grant.minter) e).1 in grind (arith, x));
}

request_same : (a b c d : ℕ) → a ≡ c → b ≡ d
    → ◌≡◌ {A = Option tables.Request} (Some (record { victim = a; seq = b })) (Some (record { victim = c; seq = d }))
request_same a b c d e f = cc

module _ (m : Meaning) (job : JobOf) (v : View) (n : NodeOf) (run : Run m v) (up : Works (v.mode n.incarnation))
    (shown : NodeShown v n) where
  pub own : PartsShown v n
  own = shown.parts (rw (← shown.mode) up)

  -- it is taken
  pub takes_shown : (b : GrantBody) → GrantShown v.transfers n.incarnation b
      → is_answered_by b.seq b.grant n.asker.pending ≡ true → hop_in b.grant n.seen ≡ None
      → StepShown m job.number v n (takes job b n)
  takes_shown b s answers none =
      let p = own in
      let t = s.transfer in
      let q = answers_pending b n.asker.pending answers in
      let waits : v.pending n.incarnation ≡ Some (record { victim = q.request.victim; seq = q.request.seq }) =
      p.pending ∙ ap pending_of q.is in
      let pending : v.pending n.incarnation ≡ Some (request_of t) =
      waits ∙ request_same q.request.victim q.request.seq t.from t.seq (q.victim ∙ sym s.from) (q.seq
      ∙ sym s.seq) in
      let member : v.mode n.incarnation ≡ tables.Member =
      (requests_reached (run_reached run)).member_waits n.incarnation _ up waits in
      let seen : v.seen n.incarnation t.grant ≡ None = rw s.grant (p.seen b.grant ∙ none) in
      let may : MayTake v n.incarnation t [] =
      record { sent = s.sent; to = s.to_is; member = member; above = rw seen tt; acks = λ a x. absurd x } in
      let act : acts.Act v (take v n.incarnation t None []) = acts.takes_grant n.incarnation t may s.hop pending in
      let view : View = take v n.incarnation t None [] in
      let keeps : KeepsSent v view = keeps_one act in
      let new : SubOf = granted_sub b.grant b.task b.saved in
      let held : IsShown (record { hop = t.hop; content = t.content }) new =
      record { hop = s.hop; content = s.content; kept = begun_kept b.grant.minter b.task } in
      let parts : PartsShown view (takes job b n).after = record {
        minted = p.minted;
        asked = p.asked;
        pending = put_here v.pending n.incarnation None;
        seen = λ k. rw (s.grant, s.hop) (seen_put v.seen n.incarnation n.seen b.grant 0 p.seen k);
        subs = λ k. rw s.grant (shows_put v.subs n.incarnation n.subs
            (record { hop = t.hop; content = t.content }) new p.subs held k);
        order = put_order name_of_sub new n.subs p.order;
        replies = p.replies;
        said = λ thief r e. packet_kept keeps r.packet (p.said thief r e);
        reply_order = p.reply_order;
        confirmed = p.confirmed;
        roster = p.roster;
      } in
      record {
        view = view;
        way = moved unmoved act tt (of_act act n.incarnation refl);
        name = refl;
        node = record { mode = shown.mode; parts = λ x. parts };
        sent = none_shown view;
        transfers = λ u old. inl old;
        fills = refl;
      }

  -- it was taken before: that is said again
  pub told_again : (b : GrantBody) → GrantShown v.transfers n.incarnation b → (h : ℕ) → hop_in b.grant n.seen ≡ Some h
      → StepShown m job.number v n (sends (offer_ack job n.incarnation b.grant.minter b.grant 0 ∷ []) n)
  told_again b s h taken =
      let p = own in
      let t = s.transfer in
      let seen : v.seen t.to t.grant ≡ Some h = rw (s.to_is, s.grant) (p.seen b.grant ∙ taken) in
      let shut : Above (v.seen t.to t.grant) t.hop
      → ⊥ = λ above. (let less : h < t.hop = rw seen at above in let zero_hop =
      s.hop in grind (arith, less, zero_hop)) in
      let act : acts.Act v (acknowledge v (ack_of t)) = acts.acknowledges t s.sent shut (rw s.to_is up) in
      let view : View = acknowledge v (ack_of t) in
      let keeps : KeepsSent v view = keeps_one act in
      let same : record { grant = b.grant; hop = 0; from = n.incarnation; to = b.grant.minter } ≡ ack_of t =
      rw (s.grant, s.hop, s.to_is, s.from) refl in
      let parts : PartsShown view n = record {
        minted = p.minted;
        asked = p.asked;
        pending = p.pending;
        seen = p.seen;
        subs = p.subs;
        order = p.order;
        replies = p.replies;
        said = λ thief r e. packet_kept keeps r.packet (p.said thief r e);
        reply_order = p.reply_order;
        confirmed = λ thief g e. inr (p.confirmed thief g e);
        roster = p.roster;
      } in
      record {
        view = view;
        way = moved unmoved act tt (of_act act n.incarnation tt);
        name = refl;
        node = record { mode = shown.mode; parts = λ x. parts };
        sent = one_shown view (offer_ack job n.incarnation b.grant.minter b.grant 0) (inl same);
        transfers = λ u old. inl old;
        fills = refl;
      }

  again_shown : (b : GrantBody) → GrantShown v.transfers n.incarnation b
      → AnswerShown m job.number v n (acknowledged_again job b.grant n)
  again_shown b s = by_worker (is_worker b.grant.minter)
    where
      by_seen : (o : Option ℕ) → hop_in b.grant n.seen ≡ o
          → AnswerShown m job.number v n (cond (is_some o)
          (Does (sends (offer_ack job n.incarnation b.grant.minter b.grant 0 ∷ []) n)) Ignored)
      by_seen None e = tt
      by_seen (Some h) e = told_again b s h e

      by_worker : (w : Bool) → AnswerShown m job.number v n
          (cond (w && is_some (hop_in b.grant n.seen))
          (Does (sends (offer_ack job n.incarnation b.grant.minter b.grant 0 ∷ []) n)) Ignored)
      by_worker false = tt
      by_worker true = by_seen (hop_in b.grant n.seen) refl

  -- a Grant comes
  pub granted_shown : (b : GrantBody) → GrantShown v.transfers n.incarnation b
      → AnswerShown m job.number v n (granted job b n)
  granted_shown b s = by_answer (is_answered_by b.seq b.grant n.asker.pending) refl
    where
      by_fit : is_answered_by b.seq b.grant n.asker.pending ≡ true → hop_in b.grant n.seen ≡ None → (f : Bool)
          → AnswerShown m job.number v n (cond f (Does (takes job b n)) (acknowledged_again job b.grant n))
      by_fit e none false = again_shown b s
      by_fit e none true = takes_shown b s e none

      by_seen : is_answered_by b.seq b.grant n.asker.pending ≡ true → (o : Option ℕ) → hop_in b.grant n.seen ≡ o
          → AnswerShown m job.number v n (cond
          (not (is_some o) && task_fits job.program b.task && saved_fit b.task b.saved) (Does (takes job b n))
          (acknowledged_again job b.grant n))
      by_seen e (Some h) seen = again_shown b s
      by_seen e None none = by_fit e none (task_fits job.program b.task && saved_fit b.task b.saved)

      by_answer : (a : Bool) → is_answered_by b.seq b.grant n.asker.pending ≡ a
          → AnswerShown m job.number v n (cond
          (a && not (is_some (hop_in b.grant n.seen)) && task_fits job.program b.task && saved_fit b.task b.saved)
          (Does (takes job b n)) (acknowledged_again job b.grant n))
      by_answer false e = again_shown b s
      by_answer true e = by_seen e (hop_in b.grant n.seen) refl

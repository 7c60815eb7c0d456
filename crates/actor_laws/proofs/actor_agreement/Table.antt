-- The whole table of packets, and the calls by which a node starts and asks.
use Rattle.std.proofs.Common.{◌+◌, ◌^◌, ℕ, not, nat_eq, nat_lt, ◌&&◌, None, Option, is_some}
use Rattle.codec.specs.Table.{PacketOf}
use Rattle.codec.specs.declared.body.Body.{Body}
use Rattle.codec.specs.declared.body.Body.TheVariants as body
use Rattle.serial_meaning.specs.Job.{JobOf}
use Rattle.steal_protocol.specs.Requests.{next_request}
use Rattle.node_state.specs.Node.{NodeOf, starting}
use Rattle.node_steps.specs.Calls as calls
use Rattle.node_steps.specs.Cases.{Candidate, candidate_in, on_body, on_packet}
use Rattle.node_steps.specs.Moves.{steal}
use Rattle.node_steps.specs.declared.parts.Victim.{Victim}
use Rattle.actor_laws.specs.actor_agreement.Values.{AnswerIsRight, NextGrantIsFresh, BodyMayCome, NodeIsRight, StepIsRight}
use Rattle.actor_laws.proofs.actor_agreement.Changing.{returned_right}
use Rattle.actor_laws.proofs.actor_agreement.Granting.{chosen_is, stolen_right}
use Rattle.actor_laws.proofs.actor_agreement.Leaving.{taken_right}
use Rattle.actor_laws.proofs.actor_agreement.Rostering.{joins_right, leaving_roster_right, member_roster_right}
use Rattle.actor_laws.proofs.actor_agreement.Steps.{by_test, in_state, sends_one}
use Rattle.actor_laws.proofs.actor_agreement.Taking.{aborted_right, acknowledged_right, granted_is_right, leaving_offered_right, member_offered_right, refused_right}

module _ (job : JobOf) (n : NodeOf) (right : NodeIsRight job n) where
  -- a packet of each kind
  body_right : (choice : Option Candidate) (b : Body) → BodyMayCome job n b → NextGrantIsFresh n
      → AnswerIsRight job (on_body job choice b n)
  unfolding on_body
  body_right choice (body.Join b) may fresh = tt
  body_right choice (body.Roster b) may fresh =
      in_state job n.state _ _ _ _ (joins_right job n right b) (λ r. member_roster_right job n right r b)
      (λ r heir. leaving_roster_right job n right r heir b) tt
  body_right choice (body.Steal b) may fresh =
      in_state job n.state _ _ _ _ tt (λ r.
      stolen_right job n right (candidate_in n choice) (chosen_is n choice) fresh r b)
      (λ r heir. stolen_right job n right None (λ f e. cc) fresh r b) tt
  body_right choice (body.Grant b) may fresh =
      in_state job n.state _ _ _ _ tt (λ r. granted_is_right job n right b may)
      (λ r heir. granted_is_right job n right b may) tt
  body_right choice (body.Refuse b) may fresh =
      in_state job n.state _ _ _ _ tt (λ r. refused_right job n right b.seq) (λ r heir. tt) tt
  body_right choice (body.Result b) may fresh =
      in_state job n.state _ _ _ _ tt (λ r. returned_right job n right r b may) (λ r heir. tt) tt
  body_right choice (body.ResultAck b) may fresh =
      in_state job n.state _ _ _ _ tt (λ r. acknowledged_right job n right b.grant) (λ r heir. tt) tt
  body_right choice (body.Offer b) may fresh =
      in_state job n.state _ _ _ _ tt (λ r. member_offered_right job n right r b may)
      (λ r heir. leaving_offered_right job n right b) tt
  body_right choice (body.OfferAck b) may fresh =
      in_state job n.state _ _ _ _ tt (λ r. tt) (λ r heir. taken_right job n right r heir b) tt
  body_right choice (body.Leave b) may fresh = tt
  body_right choice (body.Abort b) may fresh =
      in_state job n.state _ _ _ _ tt (λ r. aborted_right job n right b.grant) (λ r heir. tt) tt
  body_right choice (body.Beat b) may fresh = tt
  body_right choice (body.Save b) may fresh = tt
  body_right choice (body.Piece b) may fresh = absurd may

  pub packet_right : (choice : Option Candidate) (p : PacketOf) → BodyMayCome job n p.body → NextGrantIsFresh n
      → AnswerIsRight job (on_packet job choice p n)
  unfolding on_packet
  packet_right choice p may fresh = by_test job (nat_eq p.job job.number && nat_eq p.to n.incarnation) _ _
      (body_right choice p.body may fresh) tt

  -- it asks a victim
  asks_right : (victim : ℕ) → StepIsRight job (calls.asks job victim n)
  asks_right victim = sends_one job (steal job n.incarnation (next_request victim n.asker)) _ tt
      (record { subs = right.subs; replies = right.replies })

  pub ask_right : (victim : Victim) → AnswerIsRight job (calls.ask job victim n)
  unfolding calls.ask
  ask_right victim = in_state job n.state _ _ _ _ tt
      (λ r. by_test job (not (calls.may_ask r n victim)) _ _ tt
      (by_test job (is_some n.asker.pending) _ _ tt
      (by_test job (nat_lt (n.asker.asked + 1) (2 ^ 64)) _ _ (asks_right (calls.address_of r victim)) tt)))
      (λ r heir. by_test job (not (calls.may_ask r n victim)) _ _ tt tt)
      tt

-- it starts
pub start_right : (job : JobOf) (word : ℕ) → StepIsRight job (calls.start job word)
start_right job word = sends_one job (calls.join job word) (starting word) tt
    (record { subs = λ s m. absurd m; replies = λ r m. absurd m })

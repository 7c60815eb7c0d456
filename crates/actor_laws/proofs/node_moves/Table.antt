-- The whole table of packets, and a node's own calls.
use Rattle.std.proofs.Common.{◌≡◌, ◌+◌, ◌^◌, ℕ, Bool, true, false, cond, not, nat_eq, nat_lt, ◌&&◌, inl, Option, None, Some, is_some, refl, sym, ap, ◌∙◌, arith}
use Rattle.std.proofs.lemmas.Bool.{and_parts}
use Rattle.ids.specs.Members.{is_live}
use Rattle.codec.specs.Table.{PacketOf}
use Rattle.codec.specs.declared.body.Body.{Body}
use Rattle.codec.specs.declared.body.Body.TheVariants as body
use Rattle.codec.specs.declared.body.Roster.{Roster}
use Rattle.serial_meaning.specs.Job.{JobOf}
use Rattle.steal_protocol.specs.Requests.{next_request}
use Rattle.steal_protocol.specs.declared.asker.Request.{Request}
use Rattle.node_state.specs.Node.{NodeOf, by_state}
use Rattle.node_state.specs.declared.parts.State.{State}
use Rattle.node_state.specs.declared.parts.State.TheVariants.{Joining, Member, Leaving, Ended}
use Rattle.node_steps.specs.Calls as calls
use Rattle.node_steps.specs.Cases as cases
use Rattle.node_steps.specs.Cases.{Candidate, candidate_in, on_body, on_packet}
use Rattle.node_steps.specs.Moves.{steal}
use Rattle.node_steps.specs.Steps.{Does, Ignored, Refused}
use Rattle.node_steps.specs.declared.error.NodeError.TheVariants as error
use Rattle.node_steps.specs.declared.parts.Victim.{Victim}
use Rattle.node_steps.specs.declared.parts.Victim.TheVariants.{Worker, House}
use Rattle.table_laws.specs.Tables.{◌∈◌}
use Rattle.table_laws.specs.View.{Works, View}
use Rattle.table_laws.specs.View as tables
use Rattle.table_laws.specs.Guards.{MayAsk}
use Rattle.table_laws.specs.Meaning.{Meaning}
use Rattle.table_laws.specs.Moves.{ask}
use Rattle.table_laws.specs.Acts as acts
use Rattle.table_laws.specs.Runs.{Run}
use Rattle.table_laws.proofs.RostersReached.{rosters_reached}
use Rattle.table_laws.proofs.ValuesKept.{run_reached}
use Rattle.move_laws.specs.Beside.{KeepsSent, unmoved, moved}
use Rattle.table_laws.proofs.EpochsKept.{epochs_reached}
use Rattle.table_laws.proofs.Entries.{put_here}
use Rattle.move_laws.proofs.Sent.{keeps_one, of_act}
use Rattle.actor_laws.specs.node_moves.Shows.{mode_of, pending_of, BodyShown, PacketShown, PartsShown, NodeShown}
use Rattle.actor_laws.specs.node_moves.Steps.{StepShown, AnswerShown}
use Rattle.actor_laws.proofs.node_moves.Told.{packet_kept, one_shown}
use Rattle.actor_laws.proofs.node_moves.Members.{live_status, member_shown}
use Rattle.actor_laws.proofs.node_moves.Granting.{stolen_shown}
use Rattle.actor_laws.proofs.node_moves.Taking.{granted_shown}
use Rattle.actor_laws.proofs.node_moves.Hearing.{aborted_shown, acknowledged_shown, refused_shown, returned_shown}
use Rattle.actor_laws.proofs.node_moves.Offering.{joins_shown, leaving_offered_shown, member_offered_shown}
use Rattle.actor_laws.proofs.node_moves.Rostering.{member_roster_shown}
use Rattle.actor_laws.proofs.node_moves.LeavingRows.{leaver_stolen, leaving_roster_shown, taken_shown}
use Rattle.actor_laws.proofs.node_moves.Rows.{member_depart_shown}

module _ (m : Meaning) (job : JobOf) (v : View) (n : NodeOf) (run : Run m v) (shown : NodeShown v n) where
  up_in : (x : State) → n.state ≡ x → Works (mode_of x) → Works (v.mode n.incarnation)
  up_in x is up = rw (shown.mode ∙ ap mode_of is) up

  -- a packet of each kind
  pub body_shown : (choice : Option Candidate) (b : Body) → BodyShown v n.incarnation b
      → AnswerShown m job.number v n (on_body job choice b n)
  unfolding on_body by_state
  body_shown choice (body.Join b) s = tt
  body_shown choice (body.Roster b) s = by_where n.state refl
    where
      by_where : (x : State) → n.state ≡ x
          → AnswerShown m job.number v n (by_state x (cases.joins b n) (λ r. cases.member_roster job r b n)
          (λ r heir. cases.leaving_roster job r heir b n) Ignored)
      by_where Joining is = joins_shown m job v n b run is shown s
      by_where (Member r) is = member_roster_shown m job r b v n run is shown s
      by_where (Leaving r heir) is = leaving_roster_shown m job r b heir v n run is shown s
      by_where Ended is = tt
  body_shown choice (body.Steal b) s = by_where n.state refl
    where
      by_where : (x : State) → n.state ≡ x
          → AnswerShown m job.number v n (by_state x Ignored (λ r. cases.stolen job r b (candidate_in n choice) n)
          (λ r heir. cases.stolen job r b None n) Ignored)
      by_where Joining is = tt
      by_where (Member r) is = stolen_shown m job v n r run is shown b choice s
      by_where (Leaving r heir) is = leaver_stolen m job v n r heir run is shown b s
      by_where Ended is = tt
  body_shown choice (body.Grant b) s = by_where n.state refl
    where
      by_where : (x : State) → n.state ≡ x
          → AnswerShown m job.number v n (by_state x Ignored (λ r. cases.granted job b n)
          (λ r heir. cases.granted job b n) Ignored)
      by_where Joining is = tt
      by_where (Member r) is = granted_shown m job v n run (up_in (Member r) is tt) shown b s
      by_where (Leaving r heir) is = granted_shown m job v n run (up_in (Leaving r heir) is tt) shown b s
      by_where Ended is = tt
  body_shown choice (body.Refuse b) s = by_where n.state refl
    where
      by_where : (x : State) → n.state ≡ x
          → AnswerShown m job.number v n (by_state x Ignored (λ r. cases.refused job b.seq n)
          (λ r heir. Ignored) Ignored)
      by_where Joining is = tt
      by_where (Member r) is = refused_shown m job v n r run is shown b.seq s
      by_where (Leaving r heir) is = tt
      by_where Ended is = tt
  body_shown choice (body.Result b) s = by_where n.state refl
    where
      by_where : (x : State) → n.state ≡ x
          → AnswerShown m job.number v n (by_state x Ignored (λ r. cases.returned job r b n)
          (λ r heir. Ignored) Ignored)
      by_where Joining is = tt
      by_where (Member r) is = returned_shown m job v n r run is shown b s
      by_where (Leaving r heir) is = tt
      by_where Ended is = tt
  body_shown choice (body.ResultAck b) s = by_where n.state refl
    where
      by_where : (x : State) → n.state ≡ x
          → AnswerShown m job.number v n (by_state x Ignored (λ r. cases.acknowledged job b.grant n)
          (λ r heir. Ignored) Ignored)
      by_where Joining is = tt
      by_where (Member r) is = acknowledged_shown m job v n r run is shown b.grant s
      by_where (Leaving r heir) is = tt
      by_where Ended is = tt
  body_shown choice (body.Offer b) s = by_where n.state refl
    where
      by_where : (x : State) → n.state ≡ x
          → AnswerShown m job.number v n (by_state x Ignored (λ r. cases.member_offered job r b n)
          (λ r heir. cases.leaving_offered job b n) Ignored)
      by_where Joining is = tt
      by_where (Member r) is = member_offered_shown m job v n r run is shown b s
      by_where (Leaving r heir) is = leaving_offered_shown m job v n (up_in (Leaving r heir) is tt) shown b s
      by_where Ended is = tt
  body_shown choice (body.OfferAck b) s = by_where n.state refl
    where
      by_where : (x : State) → n.state ≡ x
          → AnswerShown m job.number v n (by_state x Ignored (λ r. Ignored)
          (λ r heir. cases.taken job r heir b n) Ignored)
      by_where Joining is = tt
      by_where (Member r) is = tt
      by_where (Leaving r heir) is = taken_shown m job v n r heir run is shown b s
      by_where Ended is = tt
  body_shown choice (body.Leave b) s = tt
  body_shown choice (body.Abort b) s = by_where n.state refl
    where
      by_where : (x : State) → n.state ≡ x
          → AnswerShown m job.number v n (by_state x Ignored (λ r. cases.aborted job b.grant n)
          (λ r heir. Ignored) Ignored)
      by_where Joining is = tt
      by_where (Member r) is = aborted_shown m job v n r run is shown b.grant s
      by_where (Leaving r heir) is = tt
      by_where Ended is = tt
  body_shown choice (body.Beat b) s = tt
  body_shown choice (body.Save b) s = tt
  body_shown choice (body.Piece b) s = absurd s

  -- a packet that was sent to anybody
  pub packet_shown : (choice : Option Candidate) (p : PacketOf) → PacketShown v p
      → AnswerShown m job.number v n (on_packet job choice p n)
  unfolding on_packet
  packet_shown choice p s = by_address (nat_eq p.job job.number) (nat_eq p.to n.incarnation) refl
    where
      by_address : (own to : Bool) → nat_eq p.to n.incarnation ≡ to
          → AnswerShown m job.number v n (cond (own && to) (on_body job choice p.body n) Ignored)
      by_address false to e = tt
      by_address true false e = tt
      by_address true true e = let same : p.to ≡ n.incarnation =
          grind (arith, e) in let here : BodyShown v n.incarnation p.body =
          rw same at s in body_shown choice p.body here

  -- it departs
  pub depart_shown : (heir : ℕ) → AnswerShown m job.number v n (calls.whole_depart job heir n)
  unfolding calls.whole_depart by_state
  depart_shown heir = by_where n.state refl
    where
      by_where : (x : State) → n.state ≡ x
          → AnswerShown m job.number v n (by_state x (Refused error.NotJoined) (calls.whole_member_depart job heir n)
          (λ r y. Refused error.Busy) (Refused error.NotJoined))
      by_where Joining is = tt
      by_where (Member r) is = member_depart_shown m job v n r run is shown heir
      by_where (Leaving r y) is = tt
      by_where Ended is = tt

  -- it asks a victim
  asks_shown : (r : Roster) → n.state ≡ Member r → (victim : ℕ) → victim ∈ v.used → n.asker.pending ≡ None
      → StepShown m job.number v n (calls.asks job victim n)
  asks_shown r is victim used none =
      let h = member_shown v n r is shown in
      let p = h.parts in
      let i = n.incarnation in
      let may : MayAsk v i victim = record {
        member = h.mode;
        idle = p.pending ∙ ap pending_of none;
        victim_used = used;
      } in
      let act : acts.Act v (ask v i victim) = acts.asks i victim may in
      let view : View = ask v i victim in
      let keeps : KeepsSent v view = keeps_one act in
      let count : v.asked i + 1 ≡ n.asker.asked + 1 = ap (λ (k : ℕ). k + 1) p.asked in
      let parts : PartsShown view (calls.asks job victim n).after =
      record {
        minted = p.minted;
        asked = put_here v.asked i (v.asked i + 1) ∙ count;
        pending =
            put_here v.pending i (Some (record { victim = victim; seq = v.asked i + 1 }))
            ∙ ap (λ (k : ℕ). let q : Option tables.Request = Some (record { victim = victim; seq = k }) in q) count;
        seen = p.seen;
        subs = p.subs;
        order = p.order;
        replies = p.replies;
        said = λ x y e. packet_kept keeps y.packet (p.said x y e);
        reply_order = p.reply_order;
        confirmed = p.confirmed;
        roster = p.roster;
      } in
      record {
        view = view;
        way = moved unmoved act tt (of_act act i refl);
        name = refl;
        node = record { mode = shown.mode; parts = λ x. parts };
        sent =
            one_shown view (steal job i (next_request victim n.asker))
            (inl (ap (λ (k : ℕ). let x : tables.Steal =
            record { thief = i; seq = k; victim = victim } in x) (sym count)));
        transfers = λ u old. inl old;
        fills = refl;
      }

  pub ask_shown : (victim : Victim) → AnswerShown m job.number v n (calls.ask job victim n)
  unfolding calls.ask by_state
  ask_shown victim = by_where n.state refl
    where
      by_room : (r : Roster) → n.state ≡ Member r → calls.address_of r victim ∈ v.used → n.asker.pending ≡ None
          → (b : Bool) → AnswerShown m job.number v n
          (cond b (Does (calls.asks job (calls.address_of r victim) n)) (Refused error.Spent))
      by_room r is used none false = tt
      by_room r is used none true = asks_shown r is (calls.address_of r victim) used none

      by_pending : (r : Roster) → n.state ≡ Member r → calls.address_of r victim ∈ v.used → (o : Option Request)
          → n.asker.pending ≡ o → AnswerShown m job.number v n
          (cond (is_some o) (Refused error.Busy)
          (cond (nat_lt (n.asker.asked + 1) (2 ^ 64)) (Does (calls.asks job (calls.address_of r victim) n))
          (Refused error.Spent)))
      by_pending r is used (Some q) e = tt
      by_pending r is used None e = by_room r is used e (nat_lt (n.asker.asked + 1) (2 ^ 64))

      by_victim : (r : Roster) → n.state ≡ Member r → (w : Victim) → calls.may_ask r n w ≡ true
          → calls.address_of r w ∈ v.used
      by_victim r is (Worker i) may =
          let k = (member_shown v n r is shown).roster in
          let rosters = rosters_reached (run_reached run) in
          let live : k.roster.status i ≡ tables.Live =
          k.shows.members.status i ∙ live_status i r.members
          (and_parts (not (nat_eq i n.incarnation)) (is_live i r.members) may).1 in
          (rosters.members k.roster i (rosters.kept_had n.incarnation k.roster k.is)
          (λ u. let two : tables.Live ≡ tables.Unlisted = sym live ∙ u in cc)).0
      by_victim r is House may =
          let k = (member_shown v n r is shown).roster in
          let used = (epochs_reached (run_reached run)).rosters_used k.roster
          ((rosters_reached (run_reached run)).kept_had n.incarnation k.roster k.is) in
          rw (← k.shows.epoch) used

      by_may : (r : Roster) → n.state ≡ Member r → (b : Bool) → calls.may_ask r n victim ≡ b
          → AnswerShown m job.number v n (cond (not b) (Refused error.NotJoined)
          (cond (is_some n.asker.pending) (Refused error.Busy)
          (cond (nat_lt (n.asker.asked + 1) (2 ^ 64)) (Does (calls.asks job (calls.address_of r victim) n))
          (Refused error.Spent))))
      by_may r is false e = tt
      by_may r is true e = by_pending r is (by_victim r is victim e) n.asker.pending refl

      by_leaver : (r : Roster) (b : Bool)
          → AnswerShown m job.number v n (cond (not b) (Refused error.NotJoined) (Refused error.Busy))
      by_leaver r true = tt
      by_leaver r false = tt

      by_where : (x : State) → n.state ≡ x
          → AnswerShown m job.number v n (by_state x (Refused error.NotJoined) (calls.member_ask job victim n)
          (calls.leaving_ask job victim n) (Refused error.NotJoined))
      by_where Joining is = tt
      by_where (Member r) is = by_may r is (calls.may_ask r n victim) refl
      by_where (Leaving r heir) is = by_leaver r (calls.may_ask r n victim)
      by_where Ended is = tt

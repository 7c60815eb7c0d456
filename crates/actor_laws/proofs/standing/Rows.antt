-- A node stands after each packet, of whatever kind and wherever it stands, and after each call.
use Rattle.std.proofs.Common.{◌≡◌, ◌+◌, ◌^◌, ℕ, Bool, true, false, cond, not, nat_eq, nat_lt, ◌&&◌, List, [], ◌∷◌, inl, inr, Option, None, Some, Result, Ok, Err, is_some, refl, sym, arith}
use Rattle.std.specs.List.{list_any}
use Rattle.std.specs.Ordering.{nat_cmp}
use Rattle.std.proofs.lemmas.Bool.Decides.{eqb_tells}
use Rattle.ids.specs.Members.{is_live, status_in}
use Rattle.ids.specs.Names.{Grant, house_of, is_worker}
use Rattle.ids.specs.Ordered.{AreInOrder}
use Rattle.ids.specs.declared.member.Member.{Member as Listed}
use Rattle.ids.specs.declared.work.Record.{Record}
use Rattle.body_eval.specs.Done.{DoneOf}
use Rattle.codec.specs.declared.body.Grant.{Grant as GrantBody}
use Rattle.codec.specs.declared.body.Offer.{Offer}
use Rattle.codec.specs.declared.body.OfferAck.{OfferAck}
use Rattle.codec.specs.declared.body.Piece.{Piece}
use Rattle.codec.specs.declared.body.Roster.{Roster}
use Rattle.codec.specs.declared.body.Steal.{Steal}
use Rattle.codec.specs.declared.body.TaskResult.{TaskResult}
use Rattle.codec.specs.declared.body.Body.{Body}
use Rattle.codec.specs.declared.body.Body.TheVariants as body
use Rattle.codec.specs.Table.{PacketOf}
use Rattle.departure.specs.Freezing.{refusal}
use Rattle.departure.specs.declared.freezing.FreezeError.{FreezeError}
use Rattle.saved_values.specs.Saved.{known_by}
use Rattle.serial_meaning.specs.Job.{JobOf}
use Rattle.steal_protocol.specs.Replies.{by_reply, reply_in}
use Rattle.steal_protocol.specs.Requests.{is_answered_by, is_pending}
use Rattle.steal_protocol.specs.declared.asker.Request.{Request}
use Rattle.steal_protocol.specs.declared.replies.Reply.{Reply}
use Rattle.victim_records.specs.Records.{record_in}
use Rattle.sub_rules.specs.Carrying.{exec_content as carried_out}
use Rattle.sub_rules.specs.Changes.{closed, granted_out}
use Rattle.sub_rules.specs.Resuming.{Known, resumed}
use Rattle.sub_rules.specs.declared.change.ContentChange.{ContentChange}
use Rattle.sub_rules.specs.declared.change.SubError.{SubError}
use Rattle.sub_rules.specs.declared.change.SubError.TheVariants as sub
use Rattle.subcomputation.specs.Fitting.{task_fits}
use Rattle.subcomputation.specs.Subs.{SubOf, granted_sub, has_record, host_in, name_of_sub, sub_in, with_content}
use Rattle.subcomputation.proofs.Others.{found_by}
use Rattle.node_state.specs.Node.{NodeOf, hop_in}
use Rattle.node_state.specs.Posts.{ReadyFrame, ready_at}
use Rattle.node_state.specs.declared.parts.State.TheVariants.{Joining, Member, Leaving}
use Rattle.node_steps.specs.Calls as calls
use Rattle.node_steps.specs.Cases.{Candidate, aborted, acknowledged, acknowledged_again, candidate_in, confirms, granted, is_above, is_finished, is_released, joins, leaving_offered, leaving_pieced, leaving_roster, on_body, on_packet, refused, returned, saved_fit, served, stolen, taken}
use Rattle.node_steps.specs.Moves.{awaited, changes, closes, closes_by, is_empty, move_to}
use Rattle.node_steps.specs.Steps.{Does, Ignored, Refused, StepOf, for_some, sends}
use Rattle.node_steps.specs.declared.error.NodeError.TheVariants as error
use Rattle.node_steps.specs.declared.parts.Victim.{Victim}
use Rattle.node_steps.specs.declared.parts.Victim.TheVariants.{House, Worker}
use Rattle.content_laws.proofs.Evaluated.{carried}
use Rattle.actor_laws.proofs.node_moves.Members.{ready_there}
use Rattle.actor_laws.specs.standing.Standing.{AllStand, AnswerStands, BodyIsApart, ContentStands, IsFresh, MemberStands, NodeStands, Stands, VictimStands}
use Rattle.actor_laws.proofs.standing.Offers.{member_roster_stands, offered_stands, pieced_stands}
use Rattle.actor_laws.proofs.standing.Steps.{and_right, at_state, by_listed, by_test, closed_stands, first_of, granted_stands, holds, if_there, in_order, in_state, leaving_after, live_stands, member_after, member_before, put_stands, turned_stands, without_stands}

-- the name of a house isn't a worker's
house_is_none : (epoch : ℕ) → is_worker (house_of epoch) ≡ false
house_is_none epoch = grind arith

true_false : {b : Bool} → b ≡ true → b ≡ false → ⊥
true_false a b = cc

-- an answered request's victim minted the grant
answered_by : (members : List Listed) (seq : ℕ) (g : Grant) (o : Option Request) → is_answered_by seq g o ≡ true
    → VictimStands members o → Stands members g.minter
answered_by members seq g None e stands = cc
answered_by members seq g (Some q) e stands =
    let same : q.victim ≡ g.minter =
    equal q.victim g.minter (and_right (nat_eq q.seq seq) (nat_eq q.victim g.minter) e) in
    let s : Stands members q.victim = stands in
    rw (← same) s
  where
    equal : (a b : ℕ) → nat_eq a b ≡ true → a ≡ b
    equal a b e = elim (eqb_tells a b) [ inl both ↦ both.1 | inr both ↦ let no = both.0 in cc ]

module _ (job : JobOf) (n : NodeOf) (r : Roster) (is : n.state ≡ Member r) (stands : MemberStands r.members n) where
  -- a node that holds something else, and asks the same
  goes_on : (k : NodeOf) → k.state ≡ Member r → AllStand r.members k.subs → k.asker.pending ≡ n.asker.pending
      → NodeStands k
  goes_on = holds n r stands

  same_node : NodeStands n
  same_node = member_after n r is stands

  -- Steal
  pub stolen_stands : (o : Option ReadyFrame) → ((f : ReadyFrame) → o ≡ Some f → sub_in f.sub.grant n.subs ≡ Some f.sub)
      → (b : Steal) → AnswerStands (stolen job r b o n)
  stolen_stands o chosen b =
      by_test (is_live b.from r.members) _ _ (λ live. by_kept live (reply_in b.from n.replies)) tt
    where
      by_choice : is_live b.from r.members ≡ true → (x : Option ReadyFrame)
          → ((f : ReadyFrame) → x ≡ Some f → sub_in f.sub.grant n.subs ≡ Some f.sub) → AnswerStands (served job b x n)
      by_choice live None there = goes_on _ is stands.subs refl
      by_choice live (Some f) there = by_test (nat_lt (n.minted + 1) (2 ^ 64)) _ _ (λ room.
          let g : Grant = record { minter = n.incarnation; number = n.minted + 1 } in
          let new : SubOf = with_content f.sub (granted_out g b.from f.ready f.sub.content) in
          let content : ContentStands r.members new.content =
          granted_stands r.members g b.from f.ready f.sub.content (live_stands b.from r.members live)
          (stands.subs f.sub.grant f.sub (there f refl)) in
          goes_on _ is (put_stands r.members new n.subs content stands.subs) refl) tt

      by_kept : is_live b.from r.members ≡ true → (x : Option Reply)
          → AnswerStands (by_reply x b.seq Ignored (λ reply. Does (sends (reply ∷ []) n)) (served job b o n))
      by_kept live None = by_choice live o chosen
      by_kept live (Some reply) = in_order (nat_cmp b.seq reply.seq) _ _ _ tt same_node (by_choice live o chosen)

  -- Grant
  pub again_stands : (g : Grant) → AnswerStands (acknowledged_again job g n)
  again_stands g = by_test (is_worker g.minter && is_some (hop_in g n.seen)) _ _ (λ e. same_node) tt

  pub granted_stand : (b : GrantBody) → AnswerStands (granted job b n)
  granted_stand b =
      by_test (is_answered_by b.seq b.grant n.asker.pending && not (is_some (hop_in b.grant n.seen))
      && task_fits job.program b.task && saved_fit b.task b.saved) _ _
      (λ e.
      let answered : is_answered_by b.seq b.grant n.asker.pending ≡ true =
      first_of (is_answered_by b.seq b.grant n.asker.pending) (not (is_some (hop_in b.grant n.seen)))
      (task_fits job.program b.task) (saved_fit b.task b.saved) e in
      let host : Stands r.members b.grant.minter =
      answered_by r.members b.seq b.grant n.asker.pending answered stands.victim in
      let new : SubOf = granted_sub b.grant b.task b.saved in
      let content : ContentStands r.members new.content = record { host = host; holders = λ k x there. cc } in
      member_after _ r is (record { subs = put_stands r.members new n.subs content stands.subs; victim = tt }))
      (again_stands b.grant)

  -- Refuse
  pub refused_stands : (seq : ℕ) → AnswerStands (refused job seq n)
  refused_stands seq =
      by_test (is_pending seq n.asker.pending) _ _
      (λ e. member_after _ r is (record { subs = stands.subs; victim = tt })) tt

  -- Result
  changed_stands : (s : SubOf) (c : ContentChange) → ContentStands r.members c.after
      → NodeStands (changes job s c n).after
  changed_stands s c content =
      goes_on _ is (put_stands r.members (with_content s c.after) n.subs content stands.subs) refl

  closes_stands : AreInOrder name_of_sub n.subs → (b : TaskResult) → NodeStands (closes job r b.grant b.outcome n).after
  unfolding for_some
  closes_stands order b = by_sub (host_in b.grant n.subs) refl
    where
      by_record : (s : SubOf) → sub_in s.grant n.subs ≡ Some s → (o : Option Record)
          → NodeStands (for_some o (λ x. closes_by job r b.outcome s x) n).after
      by_record s held None = same_node
      by_record s held (Some x) =
          changed_stands s (closed x b.outcome s.content)
          (closed_stands r.members x b.outcome s.content (stands.subs s.grant s held))

      by_sub : (o : Option SubOf) → host_in b.grant n.subs ≡ o
          → NodeStands
          (for_some o (λ s. for_some (record_in b.grant s.content.records) (λ x. closes_by job r b.outcome s x))
          n).after
      by_sub None e = same_node
      by_sub (Some s) e =
          by_record s (found_by name_of_sub (has_record b.grant) s n.subs order e) (record_in b.grant s.content.records)

  pub returned_stands : AreInOrder name_of_sub n.subs → (b : TaskResult) → AnswerStands (returned job r b n)
  returned_stands order b = closes_stands order b

  -- ResultAck, Abort
  pub acknowledged_stands : (g : Grant) → AnswerStands (acknowledged job g n)
  acknowledged_stands g =
      if_there (sub_in g n.subs) _ _ tt
      (λ s e.
      by_test (is_finished s.content.progress) _ _
      (λ t. goes_on _ is (without_stands r.members g n.subs stands.subs) refl) tt)

  pub aborted_stands : (g : Grant) → AnswerStands (aborted job g n)
  aborted_stands g =
      if_there (sub_in g n.subs) _ _ tt (λ s e. goes_on _ is (without_stands r.members s.grant n.subs stands.subs) refl)

  -- a turn
  pub exec_stands : (known : Known) (d : DoneOf) (g : Grant) (f : ℕ) (s : SubOf) → sub_in g n.subs ≡ Some s
      → AnswerStands (calls.changed job s n (carried_out known d f s.content))
  exec_stands known d g f s held = by_change (carried_out known d f s.content) refl
    where
      by_change : (o : Result ContentChange SubError) → carried_out known d f s.content ≡ o
          → AnswerStands (calls.changed job s n o)
      by_change (Ok c) e =
          let done = carried known d f s.content c e in
          let turn : ContentStands r.members c.after =
          rw (← done.is)
          (turned_stands r.members done.frame (resumed known done.frame.place d.turn) s.content (stands.subs g s held))
          in
          changed_stands s c turn
      by_change (Err sub.Stale) e = tt
      by_change (Err sub.Spent) e = tt
      by_change (Err sub.Memory) e = tt

  -- it asks
  pub asks_stand : (victim : Victim) → AnswerStands (calls.member_ask job victim n r)
  asks_stand victim = by_not (calls.may_ask r n victim) refl
    where
      victim_stands : (v : Victim) → calls.may_ask r n v ≡ true → Stands r.members (calls.address_of r v)
      victim_stands (Worker i) may =
          live_stands i r.members (and_right (not (nat_eq i n.incarnation)) (is_live i r.members) may)
      victim_stands House may = λ worker. let none = house_is_none r.epoch in absurd (true_false worker none)

      by_not : (b : Bool) → calls.may_ask r n victim ≡ b
          → AnswerStands
          (cond (not b) (Refused error.NotJoined)
          (cond (is_some n.asker.pending) (Refused error.Busy)
          (cond (nat_lt (n.asker.asked + 1) (2 ^ 64)) (Does (calls.asks job (calls.address_of r victim) n))
          (Refused error.Spent))))
      by_not false e = tt
      by_not true e =
          by_test (is_some n.asker.pending) _ _ (λ p. tt)
          (by_test (nat_lt (n.asker.asked + 1) (2 ^ 64)) _ _
          (λ room. member_after _ r is (record { subs = stands.subs; victim = victim_stands victim e })) tt)

-- a leaving node: nothing is asked of it
module _ (job : JobOf) (n : NodeOf) (r : Roster) (heir : ℕ) (is : n.state ≡ Leaving r heir) where
  goes : (k : NodeOf) → k.state ≡ Leaving r heir → NodeStands k
  goes k at = leaving_after k r heir at

  pub leaver_stolen : (b : Steal) → AnswerStands (stolen job r b None n)
  leaver_stolen b = by_test (is_live b.from r.members) _ _ (λ live. by_kept (reply_in b.from n.replies)) tt
    where
      by_kept : (x : Option Reply)
          → AnswerStands (by_reply x b.seq Ignored (λ reply. Does (sends (reply ∷ []) n)) (served job b None n))
      by_kept None = goes _ is
      by_kept (Some reply) = in_order (nat_cmp b.seq reply.seq) _ _ _ tt (goes n is) (goes _ is)

  pub leaver_granted : (b : GrantBody) → AnswerStands (granted job b n)
  leaver_granted b =
      by_test (is_answered_by b.seq b.grant n.asker.pending && not (is_some (hop_in b.grant n.seen))
      && task_fits job.program b.task && saved_fit b.task b.saved) _ _
      (λ e. goes _ is) (by_test (is_worker b.grant.minter && is_some (hop_in b.grant n.seen)) _ _ (λ e. goes n is) tt)

  pub leaver_offered : (o : Offer) → AnswerStands (leaving_offered job o n)
  leaver_offered o = by_test (is_above o.hop (hop_in o.grant n.seen)) _ _ (λ e. tt) (goes n is)

  pub leaver_pieced : (b : Piece) → AnswerStands (leaving_pieced job b n)
  leaver_pieced b = by_test (is_above b.hop (hop_in b.grant n.seen)) _ _ (λ e. tt) (goes n is)

  pub leaver_taken : (b : OfferAck) → AnswerStands (taken job r heir b n)
  leaver_taken b =
      by_test (is_released heir b (sub_in b.grant n.subs)) _ _ (λ e. goes _ is)
      (by_test (nat_eq b.hop 0 && list_any (confirms b) (awaited r n)) _ _ (λ e. goes _ is) tt)

  pub leaver_roster : (new : Roster) → AnswerStands (leaving_roster job r heir new n)
  leaver_roster new =
      in_order (nat_cmp new.epoch r.epoch) _ _ _ tt
      (by_test (nat_lt r.version new.version) _ _
      (λ newer.
      by_listed (status_in n.incarnation new.members) _ _ _
      (by_test (not (is_empty n.subs) && not (is_live heir new.members)) _ _ (λ e. tt) tt) tt tt) tt)
      tt

-- one that joins
module _ (n : NodeOf) (fresh : IsFresh n) where
  pub joins_stands : (r : Roster) → AnswerStands (joins r n)
  joins_stands r =
      by_listed (status_in n.incarnation r.members) _ _ _
      (record { subs = rw fresh.subs none; victim = rw fresh.pending tt }) tt tt
    where
      none : AllStand r.members []
      none g s there = cc

-- the whole table
module _ (job : JobOf) (n : NodeOf) (stands : NodeStands n) (order : AreInOrder name_of_sub n.subs) where
  fresh : n.state ≡ Joining → IsFresh n
  fresh e = at_state n Joining n.state (sym e) stands

  at : (r : Roster) → n.state ≡ Member r → MemberStands r.members n
  at r e = member_before n r e stands

  chosen : (r : Roster) → n.state ≡ Member r → (choice : Option Candidate) (f : ReadyFrame)
      → candidate_in n choice ≡ Some f → sub_in f.sub.grant n.subs ≡ Some f.sub
  chosen r e None f is = cc
  chosen r e (Some c) f is = (ready_there n r c.grant c.frame f e is).held

  pub body_stands : (choice : Option Candidate) (b : Body) → BodyIsApart job n b → AnswerStands (on_body job choice b n)
  unfolding on_body
  body_stands choice (body.Join b) apart = tt
  body_stands choice (body.Roster b) apart =
      in_state n.state _ _ _ _ (λ e. joins_stands n (fresh e) b)
      (λ r e. member_roster_stands job n r e (at r e) order apart b) (λ r heir e. leaver_roster job n r heir e b) tt
  body_stands choice (body.Steal b) apart =
      in_state n.state _ _ _ _ (λ e. tt)
      (λ r e. stolen_stands job n r e (at r e) (candidate_in n choice) (chosen r e choice) b)
      (λ r heir e. leaver_stolen job n r heir e b) tt
  body_stands choice (body.Grant b) apart =
      in_state n.state _ _ _ _ (λ e. tt) (λ r e. granted_stand job n r e (at r e) b)
      (λ r heir e. leaver_granted job n r heir e b) tt
  body_stands choice (body.Refuse b) apart =
      in_state n.state _ _ _ _ (λ e. tt) (λ r e. refused_stands job n r e (at r e) b.seq) (λ r heir e. tt) tt
  body_stands choice (body.Result b) apart =
      in_state n.state _ _ _ _ (λ e. tt) (λ r e. returned_stands job n r e (at r e) order b) (λ r heir e. tt) tt
  body_stands choice (body.ResultAck b) apart =
      in_state n.state _ _ _ _ (λ e. tt) (λ r e. acknowledged_stands job n r e (at r e) b.grant) (λ r heir e. tt) tt
  body_stands choice (body.Offer b) apart =
      in_state n.state _ _ _ _ (λ e. tt) (λ r e. offered_stands job n r e (at r e) order b apart)
      (λ r heir e. leaver_offered job n r heir e b) tt
  body_stands choice (body.OfferAck b) apart =
      in_state n.state _ _ _ _ (λ e. tt) (λ r e. tt) (λ r heir e. leaver_taken job n r heir e b) tt
  body_stands choice (body.Leave b) apart = tt
  body_stands choice (body.Abort b) apart =
      in_state n.state _ _ _ _ (λ e. tt) (λ r e. aborted_stands job n r e (at r e) b.grant) (λ r heir e. tt) tt
  body_stands choice (body.Beat b) apart = tt
  body_stands choice (body.Save b) apart = tt
  body_stands choice (body.Piece b) apart =
      in_state n.state _ _ _ _ (λ e. tt) (λ r e. pieced_stands job n r e (at r e) order b apart)
      (λ r heir e. leaver_pieced job n r heir e b) tt

  pub packet_stands : (choice : Option Candidate) (p : PacketOf) → BodyIsApart job n p.body
      → AnswerStands (on_packet job choice p n)
  unfolding on_packet
  packet_stands choice p apart =
      by_test (nat_eq p.job job.number && nat_eq p.to n.incarnation) _ _ (λ e. body_stands choice p.body apart) tt

-- its calls
module _ (job : JobOf) (n : NodeOf) (stands : NodeStands n) where
  pub exec_stand : (d : DoneOf) (g : Grant) (f : ℕ) → AnswerStands (calls.exec job d g f n)
  unfolding calls.exec
  exec_stand d g f =
      in_state n.state _ _ _ _ (λ e. tt)
      (λ r e.
      if_there (sub_in g n.subs) _ _ tt
      (λ s held. exec_stands job n r e (member_before n r e stands) (known_by s.saved) d g f s held))
      (λ r heir e. tt) tt

  pub exec_ready_stand : (g : Grant) (f : ℕ) → AnswerStands (calls.exec_ready job g f n)
  exec_ready_stand g f =
      in_state n.state _ _ _ _ (λ e. tt)
      (λ r e.
      if_there (ready_at n g f) _ _ tt
      (λ x at. if_there (calls.own_turn job.program x.ready) _ _ tt (λ d own. exec_stand d g f)))
      (λ r heir e. tt) tt

  pub whole_ready_stand : (most : ℕ) (g : Grant) (f : ℕ) → AnswerStands (calls.whole_ready job most g f n)
  whole_ready_stand most g f =
      in_state n.state _ _ _ _ (λ e. tt) (λ r e. if_there (ready_at n g f) _ _ tt (λ x at.
      if_there (calls.own_whole job.program most x.ready) _ _ tt
      (λ v own. exec_stand (calls.sends_it job.program x.ready v) g f))) (λ r heir e. tt) tt

  pub ask_stand : (victim : Victim) → AnswerStands (calls.ask job victim n)
  unfolding calls.ask
  ask_stand victim =
      in_state n.state _ _ _ _ (λ e. tt) (λ r e. asks_stand job n r e (member_before n r e stands) victim)
      (λ r heir e. by_test (not (calls.may_ask r n victim)) _ _ (λ x. tt) tt) tt

  pub resend_stand : AnswerStands (calls.resend job n)
  unfolding calls.resend
  resend_stand = in_state n.state _ _ _ _ (λ e. stands) (λ r e. stands) (λ r heir e. stands) tt

  pub depart_stand : (heir : ℕ) → AnswerStands (calls.depart job heir n)
  unfolding calls.depart
  depart_stand heir =
      in_state n.state _ _ _ _ (λ e. tt)
      (λ r e.
      by_refusal (refusal (move_to job heir n) (is_some n.asker.pending) r.members n.subs)
      (calls.departs job r heir n) tt)
      (λ r x e. tt) tt
    where
      by_refusal : (o : Option FreezeError) (s : StepOf) → NodeStands s.after → AnswerStands (calls.frozen job o s)
      by_refusal None s is = is
      by_refusal (Some e) s is = tt

pub start_stands : (job : JobOf) (word : ℕ) → NodeStands (calls.start job word).after
start_stands job word = record { subs = refl; pending = refl }

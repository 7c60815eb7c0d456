-- A Result that comes closes the record of its grant, and that of the root's grant is recorded; and
-- who asks again is told again.
use Rattle.std.proofs.Common.{◌≡◌, ◌+◌, ◌<◌, ◌^◌, ℕ, Bool, true, false, cond, not, nat_eq, nat_lt, List, [], ◌∷◌, inl, inr, ⊎_elim, Option, None, Some, slice_get, refl, sym, ap, subst, ◌∙◌, Equal}
use Rattle.std.specs.Cmp.{nat_cmp_is}
use Rattle.std.specs.Ordering.{eq_by_cmp, is_eq, nat_cmp}
use Rattle.std.proofs.lemmas.Bool.{eq-eqb, lt-ltb}
use Rattle.ids.specs.Members.{is_live}
use Rattle.ids.specs.Names.{Grant, grant_cmp}
use Rattle.ids.specs.Naming.{name_of_grant}
use Rattle.ids.proofs.NameOrder.{equal_to_itself}
use Rattle.codec.specs.Pieces.{cut_all}
use Rattle.codec.specs.Table.{PacketOf}
use Rattle.codec.specs.declared.body.Body.{Body}
use Rattle.codec.specs.declared.body.Body.TheVariants as body
use Rattle.codec.specs.declared.body.Roster.{Roster}
use Rattle.codec.specs.declared.body.Steal.{Steal}
use Rattle.codec.specs.declared.body.TaskResult.{TaskResult}
use Rattle.serial_meaning.specs.Job.{JobOf}
use Rattle.steal_protocol.specs.Replies.{by_order, reply_in}
use Rattle.steal_protocol.specs.declared.replies.Reply.{Reply}
use Rattle.clearinghouse.specs.Cases as house_cases
use Rattle.clearinghouse.specs.House.{HouseOf, Open, Stopped, is_root, members_of, name_of}
use Rattle.clearinghouse.specs.Moves as house_moves
use Rattle.clearinghouse.specs.Steps as house
use Rattle.clearinghouse.specs.declared.parts.RootGrant.{RootGrant}
use Rattle.node_state.specs.Node.{NodeOf, by_state}
use Rattle.node_state.specs.Posts.{ReadyFrame}
use Rattle.node_state.specs.declared.parts.State.{State}
use Rattle.node_state.specs.declared.parts.State.TheVariants.{Joining, Member, Leaving, Ended}
use Rattle.node_steps.specs.Cases.{Candidate, candidate_in, on_body, on_packet, returned, stolen}
use Rattle.node_steps.specs.Steps as node
use Rattle.event_script.specs.declared.event.Event.TheVariants.{AtHouse}
use Rattle.event_script.specs.declared.event.HouseEvent.TheVariants as at_house
use Rattle.event_script.specs.declared.event.NodeEvent.TheVariants.{Deliver}
use Rattle.table_laws.specs.Tables.{◌∈◌}
use Rattle.table_laws.proofs.Among.{got}
use Rattle.table_laws.proofs.Lists.{some_same}
use Rattle.actor_laws.specs.house_moves.Steps.{tables_meaning}
use Rattle.actor_laws.proofs.node_moves.Members.{MemberShown, member_shown}
use Rattle.world_steps.specs.Answers.{StepResult, answered, with_some}
use Rattle.world_steps.specs.Houses.{Ends}
use Rattle.world_steps.specs.Nodes.{comes}
use Rattle.world_steps.specs.Steps.{CarriedOut, HouseEnds, Step}
use Rattle.world_steps.specs.World.{Down, HouseAt, IsUp, WorldOf, node_in, open_house, recorded}
use Rattle.actor_laws.specs.whole_offers.Kept.{NodeKept}
use Rattle.actor_laws.specs.whole_offers.Whole.{OneOffer}
use Rattle.actor_laws.specs.standing.Standing.{BodyIsApart, HaveOneHost}
use Rattle.actor_laws.specs.next.Taking.{AnswerCloses, NoRecord}
use Rattle.actor_laws.proofs.next.Closing.{result_closes}
use Rattle.run_laws.specs.Next.{HasRoster, IsPacket, NoRecordAt, delivery, sent_in}
use Rattle.run_laws.specs.Shown.{Tied}
use Rattle.run_laws.specs.Sound.{cut_world}
use Rattle.run_laws.proofs.NextHouse.{house_does}
use Rattle.run_laws.proofs.Places.{put_here}
use Rattle.run_laws.proofs.StandingApart.{comes_apart}

-- a packet that is delivered to a node
pub delivered : (job : JobOf) (choice : Option Candidate) (a i : ℕ) (n : NodeOf) (w : WorldOf) (p : PacketOf)
    (o : StepResult) → node_in a w.nodes ≡ Some n → slice_get w.net i ≡ Some p → o ≡ comes job choice a (Deliver i) w
    → o ≡ answered a (on_packet job choice p n) w
unfolding with_some
delivered job choice a i n w p o there sent is = rw (there, sent) at is

-- a Result of the job that comes to a member
heard : (job : JobOf) (choice : Option Candidate) (p : PacketOf) (b : TaskResult) (n : NodeOf) (r : Roster)
    → p.job ≡ job.number → p.to ≡ n.incarnation → p.body ≡ body.Result b → n.state ≡ Member r
    → on_packet job choice p n ≡ returned job r b n
unfolding on_packet on_body by_state
heard job choice p b n r mine here says member =
    rw (eq-eqb p.job job.number mine, eq-eqb p.to n.incarnation here, says, member) refl

-- the same Steal again, of a live thief, at a node that is a member or leaves
same_order : (m n : ℕ) → m ≡ n → nat_cmp m n ≡ Equal
same_order m n same = sym (nat_cmp_is m n Equal same)

stolen_again : (job : JobOf) (r : Roster) (b : Steal) (c : Option ReadyFrame) (n : NodeOf) (reply : Reply)
    → is_live b.from r.members ≡ true → reply_in b.from n.replies ≡ Some reply → b.seq ≡ reply.seq
    → stolen job r b c n ≡ node.Does (node.sends (reply.packet ∷ []) n)
unfolding by_order
stolen_again job r b c n reply live there same = rw (live, there, same_order b.seq reply.seq same) refl

asked_again : (job : JobOf) (r : Roster) (b : Steal) (c : Option ReadyFrame) (n : NodeOf) (reply : Reply)
    → is_live b.from r.members ≡ true → reply_in b.from n.replies ≡ Some reply → b.seq ≡ reply.seq → (y : State)
    → HasRoster y r → by_state y node.Ignored (λ q. stolen job q b c n) (λ q heir. stolen job q b None n) node.Ignored
    ≡ node.Does (node.sends (reply.packet ∷ []) n)
unfolding by_state
asked_again job r b c n reply live there same Joining has = absurd has
asked_again job r b c n reply live there same (Member q) has =
    ap (λ (x : Roster). stolen job x b c n) has ∙ stolen_again job r b c n reply live there same
asked_again job r b c n reply live there same (Leaving q heir) has =
    ap (λ (x : Roster). stolen job x b None n) has ∙ stolen_again job r b None n reply live there same
asked_again job r b c n reply live there same Ended has = absurd has

told_again : (job : JobOf) (choice : Option Candidate) (p : PacketOf) (b : Steal) (n : NodeOf) (r : Roster)
    (reply : Reply) → p.job ≡ job.number → p.to ≡ n.incarnation → p.body ≡ body.Steal b → HasRoster n.state r
    → is_live b.from r.members ≡ true → reply_in b.from n.replies ≡ Some reply → b.seq ≡ reply.seq
    → on_packet job choice p n ≡ node.Does (node.sends (reply.packet ∷ []) n)
unfolding on_packet on_body
told_again job choice p b n r reply mine here says has live there same =
    rw (eq-eqb p.job job.number mine, eq-eqb p.to n.incarnation here, says)
    (asked_again job r b (candidate_in n choice) n reply live there same n.state has)

-- and at the clearinghouse
house_told_again : (job : JobOf) (p : PacketOf) (b : Steal) (h : HouseOf) (reply : Reply) → p.job ≡ job.number
    → p.to ≡ name_of h → p.body ≡ body.Steal b → is_live b.from (members_of h) ≡ true
    → reply_in b.from h.replies ≡ Some reply → b.seq ≡ reply.seq
    → house_cases.on_packet job p h ≡ house.Does (house.sends (reply.packet ∷ []) h)
unfolding house_cases.on_packet house_cases.on_body by_order
house_told_again job p b h reply mine here says live there same =
    rw (
      eq-eqb p.job job.number mine,
      says,
      eq-eqb p.to (name_of h) here,
      live,
      there,
      same_order b.seq reply.seq same,
    ) refl

-- a Result that comes to the clearinghouse, of the root's grant
itself : (g : Grant) → eq_by_cmp grant_cmp g g ≡ true
itself g = ap is_eq (equal_to_itself (name_of_grant g))

roots : (g : Grant) (o : Option RootGrant) (root : RootGrant) → o ≡ Some root → g ≡ root.grant → is_root g o ≡ true
roots g None root out same = cc
roots g (Some r) root out same =
    let one : r ≡ root = some_same out in
    let own : r.grant ≡ g = ap (λ (x : RootGrant). x.grant) one ∙ sym same in
    ap (λ (x : Grant). eq_by_cmp grant_cmp x g) own ∙ itself g

house_heard : (job : JobOf) (p : PacketOf) (b : TaskResult) (h : HouseOf) → p.job ≡ job.number → p.to ≡ name_of h
    → p.body ≡ body.Result b → is_root b.grant h.root ≡ true → h.sequence + 1 < 2 ^ 64
    → house_cases.on_packet job p h ≡ house.Does
    (house_moves.records b.outcome (house_moves.packet job b.from (body.ResultAck (record { grant = b.grant })) ∷ []) h)
unfolding house_cases.on_packet house_cases.on_body
house_heard job p b h mine here says root room =
    rw (
      eq-eqb p.job job.number mine,
      says,
      eq-eqb p.to (name_of h) here,
      root,
      lt-ltb (h.sequence + 1) (2 ^ 64) room,
    ) refl

module _ (job : JobOf) (v : WorldOf) (single : OneOffer v.net) (kept : (a : ℕ) (n : NodeOf) → node_in a v.nodes ≡ Some n
    → NodeKept job.number v.net n) (tied : Tied job v) where
  abbrev w : WorldOf
  w = cut_world v

  pub result_heard : (a i : ℕ) (n : NodeOf) (r : Roster) (b : TaskResult) → node_in a v.nodes ≡ Some n
      → n.state ≡ Member r → IsPacket job w i n.incarnation (body.Result b) → (o : StepResult)
      → Step job (delivery a i) w o → NoRecordAt o.world a b.grant
  result_heard a i n r b there member x o (inr never) = absurd never
  result_heard a i n r b there member x o (inl (choice, allowed, is)) =
      let shown : MemberShown tied.view n r = member_shown tied.view n r member (tied.shown.nodes a n there) in
      let apart : BodyIsApart job n x.packet.body =
      comes_apart (tables_meaning job) tied.view tied.run n (tied.shown.nodes a n there)
      (rw member tt) job v.net tied.shown.net single (kept a n there) x.packet
      (got (cut_all v.net) i x.packet x.sent) x.job_is x.to_is in
      let one : HaveOneHost n.subs = subst (λ (y : Body). BodyIsApart job n y) x.says apart in
      let none : AnswerCloses b.grant (returned job r b n) = result_closes job r b n shown.parts.order one in
      let led : o ≡ answered a (returned job r b n) w =
      delivered job choice a i n w x.packet o there x.sent is
      ∙ ap (λ y. answered a y w) (heard job choice x.packet b n r x.job_is x.to_is x.says member) in
      let here : NoRecordAt (answered a (returned job r b n) w).world a b.grant = after none in
      subst (λ (y : StepResult). NoRecordAt y.world a b.grant) (sym led) here
    where
      after : AnswerCloses b.grant (returned job r b n) → NoRecordAt (answered a (returned job r b n) w).world a b.grant
      after none m at =
          let same : m ≡ _ = some_same (sym at ∙ put_here a _ v.nodes) in
          subst (λ (y : NodeOf). NoRecord b.grant y.subs) (sym same) none

  pub outcome_heard : (i : ℕ) (h : HouseOf) (root : RootGrant) (b : TaskResult) → open_house v.house ≡ Some h
      → h.root ≡ Some root → IsPacket job w i (name_of h) (body.Result b) → b.grant ≡ root.grant
      → h.sequence + 1 < 2 ^ 64 → (o : StepResult) → CarriedOut job (AtHouse (at_house.Deliver i)) w o
      → recorded o.world ≡ Some b.outcome
  outcome_heard i h root b open_now out x same room o over =
      let answer = house_heard job x.packet b h x.job_is x.to_is x.says (roots b.grant h.root root out same) room in
      let end = house_does job w i h (body.Result b) open_now x _ answer o over in
      ap (λ (z : StepResult). recorded z.world) end.2

  -- a thief asks again
  pub steal_heard : (a i : ℕ) (n : NodeOf) (r : Roster) (b : Steal) (reply : Reply) → node_in a v.nodes ≡ Some n
      → HasRoster n.state r → is_live b.from r.members ≡ true → reply_in b.from n.replies ≡ Some reply
      → b.seq ≡ reply.seq → IsPacket job w i n.incarnation (body.Steal b) → (o : StepResult)
      → Step job (delivery a i) w o → reply.packet ∈ sent_in o.answer
  steal_heard a i n r b reply there has live last same x o (inr never) = absurd never
  steal_heard a i n r b reply there has live last same x o (inl (choice, allowed, is)) =
      let led : o ≡ answered a (node.Does (node.sends (reply.packet ∷ []) n)) w =
      delivered job choice a i n w x.packet o there x.sent is
      ∙ ap (λ y. answered a y w) (told_again job choice x.packet b n r reply x.job_is x.to_is x.says has live last
      same) in
      subst (λ (y : StepResult). reply.packet ∈ sent_in y.answer) (sym led) (inl refl)

  pub house_steal_heard : (i : ℕ) (h : HouseOf) (b : Steal) (reply : Reply) → open_house v.house ≡ Some h
      → is_live b.from (members_of h) ≡ true → reply_in b.from h.replies ≡ Some reply → b.seq ≡ reply.seq
      → IsPacket job w i (name_of h) (body.Steal b) → (o : StepResult)
      → CarriedOut job (AtHouse (at_house.Deliver i)) w o → reply.packet ∈ sent_in o.answer
  house_steal_heard i h b reply open_now live last same x o over =
      let answer = house_told_again job x.packet b h reply x.job_is x.to_is x.says live last same in
      let end = house_does job w i h (body.Steal b) open_now x _ answer o over in
      subst (λ (y : StepResult). reply.packet ∈ sent_in y.answer) (sym end.2) (inl refl)

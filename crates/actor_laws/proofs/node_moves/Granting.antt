-- A frame is granted to a thief, or the thief is refused.
use Rattle.std.proofs.Common.{◌≡◌, ◌+◌, ◌^◌, ℕ, Bool, true, false, cond, nat_lt, List, [], ◌∷◌, inl, inr, ⊎_elim, Option, None, Some, refl, sym, ap, ◌∙◌, Ordering, Less, Equal, Greater}
use Rattle.std.specs.Ordering.{nat_cmp}
use Rattle.ids.specs.Names.{Grant}
use Rattle.ids.specs.Members.{is_live}
use Rattle.codec.specs.Table.{PacketOf}
use Rattle.codec.specs.declared.body.Body.TheVariants as body
use Rattle.codec.specs.declared.body.Roster.{Roster}
use Rattle.codec.specs.declared.body.Steal.{Steal}
use Rattle.saved_values.specs.Saved.{saved_under}
use Rattle.saved_values.specs.declared.value.SavedValue.{SavedValue}
use Rattle.serial_meaning.specs.Job.{JobOf}
use Rattle.sub_rules.specs.Changes.{granted_out}
use Rattle.sub_rules.specs.Content.{Ready, ready_in, task_of as task_in}
use Rattle.steal_protocol.specs.Replies.{by_order, by_reply, name_of_reply, put_reply, reply_in}
use Rattle.steal_protocol.specs.declared.replies.Reply.{Reply}
use Rattle.content_laws.proofs.Orders.{put_order}
use Rattle.subcomputation.specs.Subs.{SubOf, name_of_sub, sub_in, with_content}
use Rattle.node_state.specs.Node.{NodeOf}
use Rattle.node_state.specs.Posts.{ReadyFrame, ready_at}
use Rattle.node_state.specs.declared.parts.State.TheVariants.{Member}
use Rattle.node_steps.specs.Cases.{Candidate, candidate_in, served, stolen}
use Rattle.node_steps.specs.Moves.{packet, refuses, grants}
use Rattle.node_steps.specs.Steps.{Refused, Does, Ignored, sends}
use Rattle.node_steps.specs.declared.error.NodeError.TheVariants as error
use Rattle.agreement_laws.proofs.Finding.{put_or_there}
use Rattle.table_laws.specs.Tables.{◌∈◌}
use Rattle.table_laws.specs.Content.{regrant}
use Rattle.table_laws.specs.View.{Transfer, Sub, Works, View}
use Rattle.table_laws.specs.View as tables
use Rattle.table_laws.specs.Facts.{Live, Answered, steal_of, grant_of}
use Rattle.table_laws.specs.Guards.{MayAnswer}
use Rattle.table_laws.specs.Meaning.{Meaning}
use Rattle.table_laws.specs.Moves.{grant_frame, refuse}
use Rattle.table_laws.specs.Acts as acts
use Rattle.table_laws.specs.Runs.{Run}
use Rattle.table_laws.proofs.ValuesKept.{run_reached}
use Rattle.table_laws.proofs.Entries.{put_here}
use Rattle.content_laws.specs.Moved.{IsGrantMove, next_grant}
use Rattle.content_laws.proofs.Granting.{grant_moves}
use Rattle.content_laws.proofs.Keeping.{grant_kept}
use Rattle.move_laws.specs.Beside.{KeepsSent, unmoved, moved}
use Rattle.move_laws.proofs.Sent.{keeps_one, of_act, of_grant}
use Rattle.actor_laws.specs.node_moves.Shows.{IsShown, ShowsReply, PacketShown, KeepsRoster, PartsShown, NodeShown}
use Rattle.actor_laws.specs.node_moves.Steps.{StepShown, AnswerShown}
use Rattle.actor_laws.proofs.node_moves.Held.{HeldAt, held_at, shows_put, reply_put}
use Rattle.actor_laws.proofs.node_moves.Told.{packet_kept, one_shown}
use Rattle.actor_laws.proofs.node_moves.Members.{member_shown, live_status, unanswered_none, unanswered_newer, ready_there, unrecorded}

-- what was said to thieves, with one more answer
pub said_put : {v w : View} → KeepsSent v w → (replies : List Reply) (new : Reply)
    → ((thief : ℕ) (r : Reply) → reply_in thief replies ≡ Some r → PacketShown v r.packet) → PacketShown w new.packet
    → (thief : ℕ) (r : Reply) → reply_in thief (put_reply new replies) ≡ Some r → PacketShown w r.packet
said_put k replies new old shown thief r there = ⊎_elim
    (λ same. rw (same.1) shown)
    (λ was. packet_kept k r.packet (old thief r was.1))
    (put_or_there name_of_reply (thief, 0) new r replies there)

-- one that is up, a member or one that leaves, answers a thief
module _ (m : Meaning) (job : JobOf) (v : View) (n : NodeOf) (up : Works (v.mode n.incarnation)) (p : PartsShown v n)
    (shown : NodeShown v n) where
  -- it refuses
  pub refuses_shown : (thief seq : ℕ) → MayAnswer v n.incarnation thief seq
      → StepShown m job.number v n (refuses job thief seq n)
  refuses_shown thief seq may =
      let act : acts.Act v (refuse v n.incarnation thief seq) = acts.refuses n.incarnation thief seq up may in
      let view : View = refuse v n.incarnation thief seq in
      let sent : PacketOf = packet job thief (body.Refuse (record { seq = seq })) in
      let keeps : KeepsSent v view = keeps_one act in
      let answer : PacketShown view sent =
      record { steal = steal_of thief seq n.incarnation; sent = inl refl; thief = refl; seq_is = refl } in
      let parts : PartsShown view (refuses job thief seq n).after = record {
        minted = p.minted;
        asked = p.asked;
        pending = p.pending;
        seen = p.seen;
        subs = p.subs;
        order = p.order;
        replies = reply_put v.kept n.incarnation n.replies (record { seq = seq; given = None })
            (record { thief = thief; seq = seq; packet = sent }) p.replies
            (record { seq = refl; to = refl; given = tt });
        said = said_put keeps n.replies (record { thief = thief; seq = seq; packet = sent }) p.said answer;
        reply_order = put_order name_of_reply
            (record { thief = thief; seq = seq; packet = sent }) n.replies p.reply_order;
        confirmed = p.confirmed;
        roster = p.roster;
      } in
      record {
        view = view;
        way = moved unmoved act tt (of_act act n.incarnation refl);
        name = refl;
        node = record { mode = shown.mode; parts = λ x. parts };
        sent = one_shown view sent answer;
        transfers = λ u old. inl old;
        fills = refl;
      }

  -- it sends its last answer again
  again_shown : (thief : ℕ) (reply : Reply) → reply_in thief n.replies ≡ Some reply
      → StepShown m job.number v n (sends (reply.packet ∷ []) n)
  again_shown thief reply there = record {
    view = v;
    way = unmoved;
    name = refl;
    node = shown;
    sent = one_shown v reply.packet (p.said thief reply there);
    transfers = λ u old. inl old;
    fills = refl;
  }

  -- a Steal comes, whatever serves a newer request
  module _ (r : Roster) (k : KeepsRoster (v.roster n.incarnation) r) (o : Option ReadyFrame) (serves : (b : Steal)
      → MayAnswer v n.incarnation b.from b.seq → AnswerShown m job.number v n (served job b o n)) where
    pub stolen_by : (b : Steal) → steal_of b.from b.seq n.incarnation ∈ v.steals
        → AnswerShown m job.number v n (stolen job r b o n)
    unfolding by_order
    stolen_by b asked = by_live (is_live b.from r.members) refl
      where
        may : is_live b.from r.members ≡ true → (Answered (v.kept n.incarnation b.from) b.seq → ⊥)
            → MayAnswer v n.incarnation b.from b.seq
        may live due = record {
          asked = asked;
          due = due;
          listed = inr (k.roster, k.is, k.shows.members.status b.from ∙ live_status b.from r.members live);
        }

        by_seq : is_live b.from r.members ≡ true → (reply : Reply) → reply_in b.from n.replies ≡ Some reply
            → ShowsReply n.incarnation b.from (v.kept n.incarnation b.from) (Some reply) → (x : Ordering)
            → nat_cmp b.seq reply.seq ≡ x → AnswerShown m job.number v n
            (by_order x Ignored (Does (sends (reply.packet ∷ []) n)) (served job b o n))
        by_seq live reply there kept Less e = tt
        by_seq live reply there kept Equal e = again_shown b.from reply there
        by_seq live reply there kept Greater e =
            serves b (may live (unanswered_newer n.incarnation b.from b.seq (v.kept n.incarnation b.from) reply kept e))

        by_kept : is_live b.from r.members ≡ true → (x : Option Reply) → reply_in b.from n.replies ≡ x
            → ShowsReply n.incarnation b.from (v.kept n.incarnation b.from) x
            → AnswerShown m job.number v n (by_reply x b.seq Ignored (λ reply. Does (sends (reply ∷ []) n))
            (served job b o n))
        by_kept live None there kept = serves b
            (may live (unanswered_none n.incarnation b.from b.seq (v.kept n.incarnation b.from) kept))
        by_kept live (Some reply) there kept = by_seq live reply there kept (nat_cmp b.seq reply.seq) refl

        by_live : (live : Bool) → is_live b.from r.members ≡ live
            → AnswerShown m job.number v n (cond live
            (by_reply (reply_in b.from n.replies) b.seq Ignored (λ reply. Does (sends (reply ∷ []) n))
            (served job b o n)) Ignored)
        by_live false e = tt
        by_live true e = by_kept e (reply_in b.from n.replies) refl (p.replies b.from)

module _ (m : Meaning) (job : JobOf) (v : View) (n : NodeOf) (r : Roster) (run : Run m v) (is : n.state ≡ Member r)
    (shown : NodeShown v n) where
  abbrev new_grant : Grant
  new_grant = record { minter = n.incarnation; number = n.minted + 1 }

  abbrev grant_packet : ℕ → ℕ → Ready → List SavedValue → PacketOf
  grant_packet thief seq x saved = packet job thief
      (body.Grant (record { seq = seq; grant = new_grant; task = task_in x; saved = saved_under x.frame.place saved }))

  -- a ready frame is granted
  pub grants_shown : (thief seq number : ℕ) (s : SubOf) (x : Ready) → MayAnswer v n.incarnation thief seq
      → sub_in s.grant n.subs ≡ Some s → ready_in number s.content ≡ Some x
      → StepShown m job.number v n (grants job thief seq s x n)
  grants_shown thief seq number s x may there ready =
      let h = member_shown v n r is shown in
      let p = h.parts in
      let held : HeldAt (v.subs n.incarnation s.grant) s =
      held_at (v.subs n.incarnation s.grant) (sub_in s.grant n.subs) s (p.subs s.grant) there in
      let t = held.sub in
      let live : Live v n.incarnation s.grant t = record { member = h.mode; holds = held.is } in
      let fresh = unrecorded v n.incarnation s.grant s (run_reached run) (rw h.mode tt) held in
      let move : IsGrantMove v n.incarnation s.grant t thief seq x
      (granted_out (next_grant v n.incarnation) thief x s.content) =
      grant_moves v n.incarnation s.grant t thief seq number s.content x live may held.shown.content ready fresh in
      let same : next_grant v n.incarnation ≡ new_grant =
      ap (λ (k : ℕ). let g : Grant = record { minter = n.incarnation; number = k + 1 } in g) p.minted in
      let view : View = grant_frame v n.incarnation s.grant t x.frame.number thief seq move.begun.content in
      let keeps : KeepsSent v view = keeps_one move.move in
      let given : Transfer = grant_of v n.incarnation thief seq move.begun.content in
      let y : tables.Reply = record { seq = seq; given = Some given } in
      let answer : PacketShown view (grant_packet thief seq x s.saved) =
      record {
        transfer = given;
        sent = inl refl;
        grant = same;
        hop = refl;
        from = refl;
        to_is = refl;
        seq = refl;
        content = move.begun.shown;
      } in
      let new : IsShown (record {
        hop = t.hop;
        content = regrant t.content x.frame.number (Some (next_grant v n.incarnation));
      })
      (with_content s (granted_out new_grant thief x s.content)) =
      record {
        hop = held.shown.hop;
        content = rw (← same) move.shown;
        kept =
            rw (← same) (grant_kept s.content (next_grant v n.incarnation) thief number x held.shown.kept ready fresh);
      }
      in
      let parts : PartsShown view (grants job thief seq s x n).after = record {
        minted = put_here v.minted n.incarnation (v.minted n.incarnation + 1) ∙ ap (λ (k : ℕ). k + 1) p.minted;
        asked = p.asked;
        pending = p.pending;
        seen = p.seen;
        subs = shows_put v.subs n.incarnation n.subs
            (record { hop = t.hop; content = regrant t.content x.frame.number (Some (next_grant v n.incarnation)) })
            (with_content s (granted_out new_grant thief x s.content)) p.subs new;
        order = put_order name_of_sub (with_content s (granted_out new_grant thief x s.content)) n.subs p.order;
        replies = reply_put v.kept n.incarnation n.replies y
            (record { thief = thief; seq = seq; packet = grant_packet thief seq x s.saved }) p.replies
            (record { seq = refl; to = refl; given = (same, refl) });
        said = said_put keeps n.replies (record {
          thief = thief;
          seq = seq;
          packet = grant_packet thief seq x s.saved;
        }) p.said answer;
        reply_order = put_order name_of_reply
            (record { thief = thief; seq = seq; packet = grant_packet thief seq x s.saved }) n.replies p.reply_order;
        confirmed = p.confirmed;
        roster = p.roster;
      } in
      record {
        view = view;
        way = moved unmoved move.move (move.right m)
            (of_grant v n.incarnation s.grant t x.frame.number thief seq move.begun.content);
        name = refl;
        node = record { mode = shown.mode; parts = λ up. parts };
        sent = one_shown view (grant_packet thief seq x s.saved) answer;
        transfers = λ u. elim [
          | inl e ↦ inr (rw e (record {
            packet = grant_packet thief seq x s.saved;
            there = inl refl;
            job_is = refl;
            to = refl;
            carries = (sym same, refl, refl, sym move.begun.task_is);
          }))
          | inr old ↦ inl old
        ];
        fills = refl;
      }

  -- a newer request is answered
  pub served_shown : (b : Steal) (choice : Option Candidate) → MayAnswer v n.incarnation b.from b.seq
      → AnswerShown m job.number v n (served job b (candidate_in n choice) n)
  served_shown b choice may = by_choice choice
    where
      by_room : (f : ReadyFrame) (k : ℕ) (g : Grant) → ready_at n g k ≡ Some f → (room : Bool)
          → AnswerShown m job.number v n (cond room (Does (grants job b.from b.seq f.sub f.ready n))
          (Refused error.Spent))
      by_room f k g at false = tt
      by_room f k g at true = let x = ready_there n r g k f is at in grants_shown b.from b.seq x.number f.sub f.ready
          may x.held x.ready

      by_frame : (o : Option ReadyFrame) → ((f : ReadyFrame) → o ≡ Some f
          → (g : Grant) × (k : ℕ) × (ready_at n g k ≡ Some f)) → AnswerShown m job.number v n (served job b o n)
      by_frame None from = let h = member_shown v n r is shown in refuses_shown m job v n
          (rw h.mode tt) h.parts shown b.from b.seq may
      by_frame (Some f) from = let x = from f refl in by_room f x.1 x.0 x.2 (nat_lt (n.minted + 1) (2 ^ 64))

      by_choice : (c : Option Candidate) → AnswerShown m job.number v n (served job b (candidate_in n c) n)
      by_choice None = by_frame None (λ f e. cc)
      by_choice (Some c) = by_frame (ready_at n c.grant c.frame) (λ f e. (c.grant, c.frame, e))

  -- a Steal comes
  pub stolen_shown : (b : Steal) (choice : Option Candidate) → steal_of b.from b.seq n.incarnation ∈ v.steals
      → AnswerShown m job.number v n (stolen job r b (candidate_in n choice) n)
  stolen_shown b choice asked =
      let h = member_shown v n r is shown in
      stolen_by m job v n (rw h.mode tt) h.parts shown r h.roster (candidate_in n choice)
      (λ x may. served_shown x choice may) b asked

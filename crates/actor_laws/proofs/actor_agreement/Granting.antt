-- A Steal comes: a ready frame is granted to the thief, or it is refused, or gets the last answer
-- again.
use Rattle.std.proofs.Common.{◌≡◌, ◌+◌, ◌^◌, ℕ, nat_lt, [], ◌∷◌, Option, None, Some, refl}
use Rattle.std.specs.Ordering.{nat_cmp}
use Rattle.ids.specs.Members.{is_live}
use Rattle.ids.specs.Names.{Grant}
use Rattle.ids.specs.Options.{◌>>=◌}
use Rattle.codec.specs.declared.body.Body.{Body}
use Rattle.codec.specs.declared.body.Body.TheVariants as body
use Rattle.codec.specs.declared.body.Roster.{Roster}
use Rattle.codec.specs.declared.body.Steal.{Steal}
use Rattle.serial_meaning.specs.Job.{JobOf}
use Rattle.sub_rules.specs.Changes.{granted_out}
use Rattle.sub_rules.specs.Content.{Ready, ready_in, task_of}
use Rattle.steal_protocol.specs.Replies.{by_reply, reply_in}
use Rattle.steal_protocol.specs.declared.replies.Reply.{Reply}
use Rattle.subcomputation.specs.Subs.{SubOf, put_sub, sub_in, with_content}
use Rattle.node_state.specs.Node.{NodeOf, by_state}
use Rattle.node_state.specs.Posts.{ReadyFrame, live_subs, ready_at, ready_of_sub}
use Rattle.node_state.specs.declared.parts.State.{State}
use Rattle.node_state.specs.declared.parts.State.TheVariants.{Joining, Member, Leaving, Ended}
use Rattle.node_steps.specs.Cases.{Candidate, candidate_in, served, stolen}
use Rattle.node_steps.specs.Moves.{answers, grants, packet}
use Rattle.node_steps.specs.Steps.{Does, Ignored, sends}
use Rattle.table_laws.specs.Tables.{◌∈◌}
use Rattle.table_laws.proofs.Among.{found_among}
use Rattle.agreement_laws.proofs.Granting.{granted_task}
use Rattle.agreement_laws.proofs.Saving.{under_agrees}
use Rattle.saved_values.specs.Saved.{saved_under}
use Rattle.actor_laws.specs.actor_agreement.Values.{AnswerIsRight, BodyIsRight, NextGrantIsFresh, IsRight, NodeIsRight, StepIsRight, next_grant}
use Rattle.actor_laws.proofs.actor_agreement.Below.{under_fit}
use Rattle.actor_laws.proofs.actor_agreement.Contents.{granted_right}
use Rattle.actor_laws.proofs.actor_agreement.Sent.{one_sent, replies_put}
use Rattle.actor_laws.proofs.actor_agreement.Steps.{by_test, in_order, put_right, sends_one}

-- a ready frame of what a node holds
pub record IsReadyIn (n : NodeOf) (f : ReadyFrame) : Type 0 where
  pub number : ℕ
  pub held : f.sub ∈ n.subs
  pub ready : ready_in number f.sub.content ≡ Some f.ready

ready_of_held : (n : NodeOf) (g : Grant) (k : ℕ) (f : ReadyFrame) → ready_at n g k ≡ Some f → IsReadyIn n f
unfolding by_state
ready_of_held n g k f e = by_sub (sub_in g (live_subs n)) refl e
  where
    by_where : (x : State) (s : SubOf) → s ∈ by_state x [] (λ r. n.subs) (λ r heir. []) [] → s ∈ n.subs
    by_where Joining s m = absurd m
    by_where (Member r) s m = m
    by_where (Leaving r heir) s m = absurd m
    by_where Ended s m = absurd m

    by_ready : (s : SubOf) → s ∈ n.subs → (o : Option Ready) → ready_in k s.content ≡ o
        → (o >>= (λ x. Some (record { sub = s; ready = x }))) ≡ Some f → IsReadyIn n f
    by_ready s held None ready is = cc
    by_ready s held (Some x) ready is =
        let same : record { sub = s; ready = x } ≡ f = cc in
        rw (← same) (record { number = k; held = held; ready = ready })

    by_sub : (o : Option SubOf) → sub_in g (live_subs n) ≡ o → ready_of_sub k o ≡ Some f → IsReadyIn n f
    by_sub None there is = cc
    by_sub (Some s) there is = by_ready s (by_where n.state s (found_among _ s (live_subs n) there))
        (ready_in k s.content) refl is

-- what is chosen, if anything is
abbrev pub IsChosen : NodeOf → Option ReadyFrame → Type 0
IsChosen n o = (f : ReadyFrame) → o ≡ Some f → IsReadyIn n f

pub chosen_is : (n : NodeOf) (choice : Option Candidate) → IsChosen n (candidate_in n choice)
chosen_is n None f e = cc
chosen_is n (Some c) f e = ready_of_held n c.grant c.frame f e

module _ (job : JobOf) (n : NodeOf) (right : NodeIsRight job n) where
  -- a thief is answered
  answers_right : (thief seq : ℕ) (b : Body) → BodyIsRight job b → (k : NodeOf) → NodeIsRight job k
      → StepIsRight job (answers job thief seq b k)
  answers_right thief seq b is k held = record {
    after = record {
      subs = held.subs;
      replies =
          replies_put job (record { thief = thief; seq = seq; packet = packet job thief b }) k.replies is held.replies;
    };
    sent = one_sent job (packet job thief b) is;
    fills = λ f m. absurd m;
  }

  -- by a Grant
  grants_right : (thief seq : ℕ) (f : ReadyFrame) → IsReadyIn n f → NextGrantIsFresh n
      → StepIsRight job (grants job thief seq f.sub f.ready n)
  grants_right thief seq f ready fresh =
      let whole = right.subs f.sub ready.held in
      let held = whole.content in
      let left : SubOf = with_content f.sub (granted_out (next_grant n) thief f.ready f.sub.content) in
      let new : IsRight job left.content =
      granted_right job f.sub.content ready.number (next_grant n) thief f.ready held ready.ready
      (fresh f.sub ready.held) in
      let k : NodeOf = record n { minted = n.minted + 1; subs = put_sub left n.subs } in
      answers_right thief seq (body.Grant
      (record {
        seq = seq;
        grant = next_grant n;
        task = task_of f.ready;
        saved = saved_under f.ready.frame.place f.sub.saved;
      })) (
        granted_task job f.sub.content ready.number f.ready held.agrees ready.ready,
        under_agrees job f.ready.frame.place f.sub.saved whole.saved,
        under_fit (task_of f.ready) f.sub.saved,
      ) k
      (record {
        subs = put_right job left n.subs (record { content = new; saved = whole.saved }) right.subs;
        replies = right.replies;
      })

  module _ (o : Option ReadyFrame) (chosen : IsChosen n o) (fresh : NextGrantIsFresh n) where
    served_right : (b : Steal) → AnswerIsRight job (served job b o n)
    served_right b = by_choice o chosen
      where
        by_choice : (x : Option ReadyFrame) → IsChosen n x → AnswerIsRight job (served job b x n)
        by_choice None is = answers_right b.from b.seq (body.Refuse (record { seq = b.seq })) tt n right
        by_choice (Some f) is = by_test job (nat_lt (n.minted + 1) (2 ^ 64)) _ _
            (grants_right b.from b.seq f (is f refl) fresh) tt

    pub stolen_right : (r : Roster) (b : Steal) → AnswerIsRight job (stolen job r b o n)
    stolen_right r b = by_test job (is_live b.from r.members) _ _ (by_kept (reply_in b.from n.replies) refl) tt
      where
        by_kept : (x : Option Reply) → reply_in b.from n.replies ≡ x
            → AnswerIsRight job (by_reply x b.seq Ignored (λ reply. Does (sends (reply ∷ []) n)) (served job b o n))
        by_kept None e = served_right b
        by_kept (Some reply) e = in_order job (nat_cmp b.seq reply.seq) _ _ _ tt
            (sends_one job reply.packet n (right.replies reply (found_among _ reply n.replies e)) right)
            (served_right b)

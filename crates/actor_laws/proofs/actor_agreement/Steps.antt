-- What a node holds agrees after a change of it; steps after which all agrees, and answers that
-- lead to them.
use Rattle.std.proofs.Common.{◌≡◌, ℕ, Bool, true, false, cond, List, [], ◌∷◌, Option, None, Some, ⊎_elim, refl, Ordering, Less, Equal, Greater}
use Rattle.ids.specs.Names.{Grant}
use Rattle.ids.specs.declared.member.Status.{Status}
use Rattle.ids.specs.declared.member.Status.TheVariants as member
use Rattle.codec.specs.Table.{PacketOf}
use Rattle.codec.specs.declared.body.Roster.{Roster}
use Rattle.serial_meaning.specs.Job.{JobOf}
use Rattle.steal_protocol.specs.Replies.{by_order}
use Rattle.subcomputation.specs.Subs.{SubOf, name_of_sub, put_sub, without_sub}
use Rattle.node_state.specs.Node.{NodeOf, by_state, ended}
use Rattle.node_state.specs.declared.parts.State.{State}
use Rattle.node_state.specs.declared.parts.State.TheVariants.{Joining, Member, Leaving, Ended}
use Rattle.node_steps.specs.Cases.{by_option, by_status}
use Rattle.node_steps.specs.Steps.{Answer, StepOf, quiet, sends, ◌then◌}
use Rattle.table_laws.specs.Tables.{◌∈◌}
use Rattle.table_laws.proofs.Lists.{either}
use Rattle.table_laws.proofs.Among.{filtered, put_among}
use Rattle.actor_laws.specs.actor_agreement.Values.{AllRight, AnswerIsRight, BodyIsRight, NodeIsRight, StepIsRight, SubIsRight}
use Rattle.actor_laws.proofs.actor_agreement.Sent.{none_sent, one_sent, both_sent}

-- subcomputations are right
abbrev pub SubsAreRight : JobOf → List SubOf → Type 0
SubsAreRight job subs = (s : SubOf) → s ∈ subs → SubIsRight job s

module _ (job : JobOf) where
  pub put_right : (s : SubOf) (subs : List SubOf) → SubIsRight job s → SubsAreRight job subs
      → SubsAreRight job (put_sub s subs)
  put_right s subs new all x m = ⊎_elim (λ same. rw same new) (λ was. all x was) (put_among name_of_sub s x subs m)

  pub without_right : (g : Grant) (subs : List SubOf) → SubsAreRight job subs → SubsAreRight job (without_sub g subs)
  without_right g subs all x m = all x (filtered _ x subs m)

  -- a node that has ended holds nothing
  pub ended_right : (n : NodeOf) → NodeIsRight job (ended n)
  ended_right n = record { subs = λ s m. absurd m; replies = λ r m. absurd m }

  -- packets alone
  pub sends_right : (packets : List PacketOf) (n : NodeOf) → AllRight job packets → NodeIsRight job n
      → StepIsRight job (sends packets n)
  sends_right packets n sent after = record { after = after; sent = sent; fills = λ f m. absurd m }

  pub sends_one : (p : PacketOf) (n : NodeOf) → BodyIsRight job p.body → NodeIsRight job n
      → StepIsRight job (sends (p ∷ []) n)
  sends_one p n right after = sends_right (p ∷ []) n (one_sent job p right) after

  pub quiet_right : (n : NodeOf) → NodeIsRight job n → StepIsRight job (quiet n)
  quiet_right n after = sends_right [] n (none_sent job) after

  -- one step, and then another
  pub then_right : (s : StepOf) (f : NodeOf → StepOf) → StepIsRight job s → StepIsRight job (f s.after)
      → StepIsRight job (s then f)
  then_right s f a b = record {
    after = b.after;
    sent = both_sent job s.sent (f s.after).sent a.sent b.sent;
    fills = λ x m. ⊎_elim (λ k. a.fills x k) (λ k. b.fills x k) (either s.fills (f s.after).fills x m);
  }

  -- answers by a test, by what is there, by where the node stands, by what a roster says, and by
  -- the order of two numbers
  pub by_test : (b : Bool) (x y : Answer) → AnswerIsRight job x → AnswerIsRight job y → AnswerIsRight job (cond b x y)
  by_test true x y a c = a
  by_test false x y a c = c

  pub if_there : {A : Type 0} (o : Option A) (none : Answer) (some : A → Answer) → AnswerIsRight job none
      → ((a : A) → o ≡ Some a → AnswerIsRight job (some a)) → AnswerIsRight job (by_option o none some)
  unfolding by_option
  if_there None none some x y = x
  if_there (Some a) none some x y = y a refl

  pub in_state : (s : State) (joining : Answer) (joined : Roster → Answer) (leaving : Roster → ℕ
      → Answer) (over : Answer) → AnswerIsRight job joining → ((r : Roster) → AnswerIsRight job (joined r))
      → ((r : Roster) (heir : ℕ) → AnswerIsRight job (leaving r heir)) → AnswerIsRight job over
      → AnswerIsRight job (by_state s joining joined leaving over)
  unfolding by_state
  in_state Joining joining joined leaving over a b c d = a
  in_state (Member r) joining joined leaving over a b c d = b r
  in_state (Leaving r heir) joining joined leaving over a b c d = c r heir
  in_state Ended joining joined leaving over a b c d = d

  pub by_listed : (s : Option Status) (live gone unlisted : Answer) → AnswerIsRight job live → AnswerIsRight job gone
      → AnswerIsRight job unlisted → AnswerIsRight job (by_status s live gone unlisted)
  unfolding by_status
  by_listed None live gone unlisted a b c = c
  by_listed (Some member.Live) live gone unlisted a b c = a
  by_listed (Some member.Dead) live gone unlisted a b c = b
  by_listed (Some (member.Left heir)) live gone unlisted a b c = b

  pub in_order : (o : Ordering) (below same above : Answer) → AnswerIsRight job below → AnswerIsRight job same
      → AnswerIsRight job above → AnswerIsRight job (by_order o below same above)
  unfolding by_order
  in_order Less below same above a b c = a
  in_order Equal below same above a b c = b
  in_order Greater below same above a b c = c

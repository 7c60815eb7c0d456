-- A content changes: by a turn that is carried out, or by a Result.
use Rattle.std.proofs.Common.{◌≡◌, ◌∙◌, ℕ, ℤ, Bool, true, false, cond, [], ◌∷◌, Option, None, Some, Result, Ok, Err, inl, inr, refl}
use Rattle.ids.specs.Names.{Grant, house_of}
use Rattle.ids.specs.Options.{◌>>=◌}
use Rattle.ids.specs.declared.outcome.Outcome.{Outcome}
use Rattle.ids.specs.declared.outcome.Outcome.TheVariants.{Value, TooDeep}
use Rattle.ids.specs.declared.work.Record.{Record}
use Rattle.kind_check.specs.Turns.{turn_of}
use Rattle.kind_check.specs.declared.turn.Turn.{Turn}
use Rattle.body_eval.specs.Done.{DoneOf}
use Rattle.codec.specs.Table.{PacketOf}
use Rattle.codec.specs.declared.body.Body.TheVariants as body
use Rattle.codec.specs.declared.body.Roster.{Roster}
use Rattle.codec.specs.declared.body.TaskResult.{TaskResult}
use Rattle.serial_meaning.specs.Job.{JobOf, IsJob}
use Rattle.serial_meaning.specs.Places.{outcome_at, outcome_of, value_at}
use Rattle.victim_records.specs.Records.{record_in}
use Rattle.sub_rules.specs.Carrying.{exec_content as carried_out}
use Rattle.saved_values.specs.Places.{is_saved_place, stripped}
use Rattle.saved_values.specs.Saved.{known_by}
use Rattle.agreement_laws.specs.Agreement.{AllSavedAgree, RecordHolds}
use Rattle.agreement_laws.proofs.Saving.{known_agrees, stripped_value}
use Rattle.sub_rules.specs.Changes.{closed}
use Rattle.sub_rules.specs.declared.change.ContentChange.{ContentChange}
use Rattle.sub_rules.specs.declared.change.Filling.{Filling}
use Rattle.sub_rules.specs.declared.change.SubError.{SubError}
use Rattle.sub_rules.specs.declared.change.SubError.TheVariants as sub
use Rattle.sub_rules.specs.declared.content.Content.{Content}
use Rattle.subcomputation.specs.Subs.{SubOf, host_in, sub_in, with_content}
use Rattle.node_state.specs.Node.{NodeOf}
use Rattle.node_state.specs.Posts.{ReadyFrame, ready_at}
use Rattle.node_steps.specs.Calls as calls
use Rattle.node_steps.specs.Cases.{by_option, returned}
use Rattle.node_steps.specs.Moves.{aborts, changes, closes, closes_by, packet, result_ack, results, save_of}
use Rattle.node_steps.specs.Steps.{Refused, fill_of, fills_of, for_some, sends}
use Rattle.node_steps.specs.declared.error.NodeError.TheVariants as error
use Rattle.node_steps.specs.declared.parts.Fill.{Fill}
use Rattle.table_laws.specs.Tables.{◌∈◌}
use Rattle.table_laws.proofs.Among.{found_among}
use Rattle.agreement_laws.specs.Agreement.{FillAgrees, IsReceived}
use Rattle.content_laws.proofs.Apart.{own_grant}
use Rattle.content_laws.proofs.Carrying.{Comes, comes_of}
use Rattle.ids.specs.declared.work.Frame.{Frame}
use Rattle.frames.specs.Frames.{frame_in}
use Rattle.node_state.specs.Node.{by_state}
use Rattle.node_state.specs.Posts.{ready_of_sub}
use Rattle.node_state.specs.declared.parts.State.{State}
use Rattle.node_state.specs.declared.parts.State.TheVariants.{Joining, Member, Leaving, Ended}
use Rattle.node_steps.specs.Calls.{own_whole, sends_it, whole_ready, whole_value}
use Rattle.node_steps.proofs.WholeValues.{ReadyThere, given_within, one_frame, one_sub, ready_there}
use Rattle.actor_laws.specs.actor_agreement.Values.{AllRight, AnswerIsRight, BodyIsRight, IsOutcomeAt, IsRight, NodeIsRight, StepIsRight, filling_of}
use Rattle.actor_laws.proofs.actor_agreement.Contents.{ChangeIsRight, closed_right, executed_right}
use Rattle.actor_laws.proofs.actor_agreement.Sent.{aborts_right, both_sent, results_right}
use Rattle.actor_laws.proofs.actor_agreement.Steps.{if_there, in_state, put_right, quiet_right, sends_one, then_right}

-- the value that a change puts into a slot
fills_right : (job : JobOf) (g : Grant) (o : Option Filling) → FillAgrees job o → (f : Fill) → f ∈ fills_of g o
    → IsReceived job (filling_of f)
fills_right job g None agrees f m = absurd m
fills_right job g (Some x) agrees f (inl e) = let received : IsReceived job (filling_of (fill_of g x)) =
    agrees in rw e received
fills_right job g (Some x) agrees f (inr m) = absurd m

-- whatever frame of that number the sub of a grant has, the turn is an end that it comes to
abbrev pub EndsRight : JobOf → NodeOf → Grant → ℕ → DoneOf → Type 0
EndsRight job n g f d = (s : SubOf) (x : Frame) → sub_in g n.subs ≡ Some s → frame_in f s.content.frames ≡ Some x
    → Comes job.program x.place d.thread d.numbers d.turn

-- a ready frame that sends its whole value comes to that
pub whole_ends : (job : JobOf) (n : NodeOf) (g : Grant) (f : ℕ) (x : ReadyFrame) (v : ℤ) → ReadyThere n.subs g f x
    → whole_value job.program x.ready ≡ Some v → EndsRight job n g f (sends_it job.program x.ready v)
whole_ends job n g f x v there gives = λ s y at here.
    let sub : x.sub ≡ s = one_sub (sub_in g n.subs) x.sub s there.sub at in
    let found : frame_in f x.sub.content.frames ≡ Some y = rw sub here in
    let frame : x.ready.frame ≡ y = one_frame (frame_in f x.sub.content.frames) x.ready.frame y there.frame found in
    rw (← frame) gives

module _ (job : JobOf) (n : NodeOf) (right : NodeIsRight job n) where
  changes_right : (s : SubOf) (c : ContentChange) → AllSavedAgree job s.saved → ChangeIsRight job c
      → StepIsRight job (changes job s c n)
  changes_right s c saved changed = record {
    after = record {
      subs = put_right job (with_content s c.after) n.subs
          (record { content = changed.after; saved = saved }) right.subs;
      replies = right.replies;
    };
    sent = both_sent job (aborts job c.dropped) (results job n.incarnation (with_content s c.after))
        (aborts_right job c.dropped) (results_right job n.incarnation (with_content s c.after));
    fills = fills_right job s.grant c.fill changed.fill;
  }

  -- a value that is saved is that of its place
  saves_right : (i : ℕ) (r : Roster) (x : Record) (c : Content) (o : Outcome) → IsRight job c
      → record_in x.grant c.records ≡ Some x → o ≡ outcome_at job.program job.input x.task.place
      → AllRight job (save_of job i r x.task.place o)
  saves_right i r x c TooDeep whole there is p m = absurd m
  saves_right i r x c (Value v) whole there is p m = by_test (is_saved_place (stripped x.task.place)) p m
    where
      holds : RecordHolds job c.task.place c.frames x
      holds = whole.agrees.records x.grant x there

      told : (k : Option ℤ) → Value v ≡ outcome_of k → k ≡ Some v
      told None e = cc
      told (Some w) e = cc

      value : value_at job.program job.input (stripped x.task.place) ≡ Some v
      value = stripped_value job x.task.place
          (record { thread = x.task.thread; numbers = x.task.numbers }) holds.task.short holds.task.at
          ∙ told (value_at job.program job.input x.task.place) is

      save : PacketOf
      save = packet job (house_of r.epoch) (body.Save (record { from = i; place = stripped x.task.place; value = v }))

      by_test : (b : Bool) (q : PacketOf) → q ∈ cond b (save ∷ []) [] → BodyIsRight job q.body
      by_test true q (inl e) = rw e value
      by_test true q (inr k) = absurd k
      by_test false q k = absurd k

  -- a record is closed by a Result that tells the outcome of its task
  closes_by_right : (r : Roster) (s : SubOf) (x : Record) (o : Outcome) → s ∈ n.subs
      → record_in x.grant s.content.records ≡ Some x → o ≡ outcome_at job.program job.input x.task.place
      → StepIsRight job (closes_by job r o s x n)
  closes_by_right r s x o held there is =
      let whole = right.subs s held in
      let c = changes_right s (closed x o s.content) whole.saved
      (closed_right job s.content x o whole.content there is) in
      record {
        after = c.after;
        sent = both_sent job (changes job s (closed x o s.content) n).sent
            (save_of job n.incarnation r x.task.place o) c.sent
            (saves_right n.incarnation r x s.content o whole.content there is);
        fills = c.fills;
      }

  closes_right : (r : Roster) (b : TaskResult) → IsOutcomeAt job n b
      → StepIsRight job (closes job r b.grant b.outcome n)
  unfolding for_some
  closes_right r b is = by_sub (host_in b.grant n.subs) refl
    where
      by_record : (s : SubOf) → s ∈ n.subs → (o : Option Record) → record_in b.grant s.content.records ≡ o
          → StepIsRight job (for_some o (closes_by job r b.outcome s) n)
      by_record s held None e = quiet_right job n right
      by_record s held (Some x) e = closes_by_right r s x b.outcome held
          (rw (own_grant b.grant x s.content.records e) at e) (is s x held e)

      by_sub : (o : Option SubOf) → host_in b.grant n.subs ≡ o
          → StepIsRight job (for_some o (λ s.
          for_some (record_in b.grant s.content.records) (closes_by job r b.outcome s)) n)
      by_sub None e = quiet_right job n right
      by_sub (Some s) e = by_record s (found_among _ s n.subs e) (record_in b.grant s.content.records) refl

  pub returned_right : (r : Roster) (b : TaskResult) → IsOutcomeAt job n b → AnswerIsRight job (returned job r b n)
  returned_right r b is = then_right job (sends (result_ack job b.from b.grant ∷ []) n) (closes job r b.grant b.outcome)
      (sends_one job (result_ack job b.from b.grant) n tt right) (closes_right r b is)

  -- a frame is carried out by an end that it comes to
  ended_right : IsJob job → (d : DoneOf) (g : Grant) (f : ℕ) → EndsRight job n g f d
      → AnswerIsRight job (calls.exec job d g f n)
  unfolding calls.exec
  ended_right accepted d g f end = in_state job n.state _ _ _ _ tt
      (λ r. if_there job (sub_in g n.subs) _ _ tt
      (λ s e. by_change s (λ x at. end s x e at) (found_among _ s n.subs e)
      (carried_out (known_by s.saved) d f s.content) refl)) (λ r heir. tt) tt
    where
      by_change : (s : SubOf) → ((x : Frame) → frame_in f s.content.frames ≡ Some x
          → Comes job.program x.place d.thread d.numbers d.turn) → s ∈ n.subs → (o : Result ContentChange SubError)
          → carried_out (known_by s.saved) d f s.content ≡ o → AnswerIsRight job (calls.changed job s n o)
      by_change s ends held (Ok c) is = changes_right s c (right.subs s held).saved
          (executed_right job (known_by s.saved) s.content d f c accepted
          (known_agrees job s.saved (right.subs s held).saved) ends (right.subs s held).content is)
      by_change s ends held (Err sub.Stale) is = tt
      by_change s ends held (Err sub.Spent) is = tt
      by_change s ends held (Err sub.Memory) is = tt

  exec_right : IsJob job → (d : DoneOf) (g : Grant) (f : ℕ) → turn_of job.program d.thread d.numbers ≡ Some d.turn
      → AnswerIsRight job (calls.exec job d g f n)
  exec_right accepted d g f end = ended_right accepted d g f
      (λ s x there at. comes_of job.program x.place d.thread d.numbers d.turn end)

  -- a ready frame is carried out by its whole value
  pub whole_ready_right : IsJob job → (most : ℕ) (g : Grant) (f : ℕ) → AnswerIsRight job (whole_ready job most g f n)
  unfolding by_option by_state
  whole_ready_right accepted most g f = by_where n.state
    where
      by_value : (x : ReadyFrame) → ReadyThere n.subs g f x → (o : Option ℤ) → own_whole job.program most x.ready ≡ o
          → AnswerIsRight job (by_option o (Refused error.NoValue)
          (λ w. calls.exec job (sends_it job.program x.ready w) g f n))
      by_value x there None e = tt
      by_value x there (Some w) e = ended_right accepted (sends_it job.program x.ready w) g f
          (whole_ends job n g f x w there (given_within job.program most x.ready w e))

      by_frame : (o : Option ReadyFrame) → ((x : ReadyFrame) → o ≡ Some x → ReadyThere n.subs g f x)
          → AnswerIsRight job (by_option o (Refused error.Stale)
          (λ x. by_option (own_whole job.program most x.ready) (Refused error.NoValue)
          (λ w. calls.exec job (sends_it job.program x.ready w) g f n)))
      by_frame None there = tt
      by_frame (Some x) there = by_value x (there x refl) (own_whole job.program most x.ready) refl

      by_where : (s : State) → AnswerIsRight job
          (by_state s (Refused error.NotJoined)
          (λ y. by_option (ready_of_sub f (sub_in g (by_state s [] (λ r. n.subs) (λ r heir. []) [])))
          (Refused error.Stale) (λ x. by_option (own_whole job.program most x.ready) (Refused error.NoValue)
          (λ w. calls.exec job (sends_it job.program x.ready w) g f n))) (λ y heir. Refused error.Stale)
          (Refused error.NotJoined))
      by_where Joining = tt
      by_where (Member y) = by_frame (ready_of_sub f (sub_in g n.subs)) (λ x at. ready_there n.subs g f x at)
      by_where (Leaving y heir) = tt
      by_where Ended = tt

  -- that of a ready frame
  pub exec_ready_right : IsJob job → (g : Grant) (f : ℕ) → AnswerIsRight job (calls.exec_ready job g f n)
  unfolding by_option
  exec_ready_right accepted g f = in_state job n.state _ _ _ _ tt
      (λ r. if_there job (ready_at n g f) _ _ tt
      (λ x e. by_turn x (turn_of job.program x.ready.frame.thread x.ready.numbers) refl)) (λ r heir. tt) tt
    where
      by_turn : (x : ReadyFrame) (o : Option Turn) → turn_of job.program x.ready.frame.thread x.ready.numbers ≡ o
          → AnswerIsRight job (by_option (o >>=
          (λ turn. Some (record {
            program = job.program;
            thread = x.ready.frame.thread;
            numbers = x.ready.numbers;
            turn = turn;
          }))) (Refused error.Stale) (λ d. calls.exec job d g f n))
      by_turn x None e = tt
      by_turn x (Some turn) e = exec_right accepted
          (record {
            program = job.program;
            thread = x.ready.frame.thread;
            numbers = x.ready.numbers;
            turn = turn;
          }) g f e

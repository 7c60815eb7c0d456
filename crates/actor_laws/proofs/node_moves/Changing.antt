-- The content of a subcomputation changes: the node tells its outcome, if it has one, and tells
-- holders to stop.
use Rattle.std.proofs.Common.{◌≡◌, if◌then◌else◌, ℤ, ℕ, List, [], ◌∷◌, ◌++◌, inl, inr, Option, None, Some, Result, Ok, Err, refl}
use Rattle.ids.specs.Names.{Grant}
use Rattle.ids.specs.Options.{◌>>=◌}
use Rattle.ids.specs.declared.outcome.Progress.{Progress}
use Rattle.ids.specs.declared.outcome.Progress.TheVariants.{Active, Finished}
use Rattle.ids.specs.declared.work.Record.{Record}
use Rattle.kind_check.specs.Turns.{turn_of}
use Rattle.kind_check.specs.declared.turn.Turn.{Turn}
use Rattle.body_eval.specs.Done.{DoneOf}
use Rattle.codec.specs.Table.{PacketOf}
use Rattle.codec.specs.declared.body.Roster.{Roster}
use Rattle.serial_meaning.specs.Job.{JobOf}
use Rattle.sub_rules.specs.Carrying.{exec_content as carried_out}
use Rattle.saved_values.specs.Saved.{known_by}
use Rattle.agreement_laws.specs.Agreement.{AllSavedAgree}
use Rattle.agreement_laws.proofs.Saving.{known_agrees}
use Rattle.sub_rules.specs.Resuming.{resumed}
use Rattle.sub_rules.specs.declared.change.ContentChange.{ContentChange}
use Rattle.sub_rules.specs.declared.change.Filling.{Filling}
use Rattle.sub_rules.specs.declared.change.SubError.{SubError}
use Rattle.sub_rules.specs.declared.change.SubError.TheVariants as sub
use Rattle.subcomputation.specs.Subs.{SubOf, name_of_sub, sub_in, with_content}
use Rattle.node_state.specs.Node.{NodeOf, by_state}
use Rattle.node_state.specs.Posts.{ReadyFrame, ready_at}
use Rattle.node_state.specs.declared.parts.State.{State}
use Rattle.node_state.specs.declared.parts.State.TheVariants.{Joining, Member, Leaving, Ended}
use Rattle.node_steps.specs.Calls as calls
use Rattle.node_steps.specs.Cases.{by_option}
use Rattle.node_steps.specs.Moves.{aborts, changes, result_by, results}
use Rattle.node_steps.specs.Steps.{Refused, fills_of, sends, ◌then◌}
use Rattle.node_steps.specs.declared.error.NodeError.TheVariants as error
use Rattle.table_laws.specs.Tables.{◌∈◌}
use Rattle.table_laws.specs.Content as tables
use Rattle.table_laws.specs.Content.{filled}
use Rattle.table_laws.specs.View.{Result as Told, View}
use Rattle.table_laws.specs.Facts.{Live}
use Rattle.table_laws.specs.Meaning.{Meaning}
use Rattle.table_laws.specs.Program.{program_meaning}
use Rattle.table_laws.specs.Moves.{alter}
use Rattle.table_laws.specs.Runs.{Run}
use Rattle.table_laws.proofs.Lists.{early}
use Rattle.content_laws.specs.Moved.{IsKept, IsMove, fill_of, grants_of_records, told, told_by}
use Rattle.content_laws.proofs.Carrying.{Comes, comes_of, ended_moves}
use Rattle.content_laws.proofs.Evaluated.{IsCarried, carried}
use Rattle.content_laws.proofs.Keeping.{turn_kept}
use Rattle.content_laws.proofs.Orders.{put_order}
use Rattle.move_laws.specs.Beside.{KeepsSent, unmoved, moved}
use Rattle.move_laws.proofs.Sent.{keeps_one, of_alter}
use Rattle.ids.specs.declared.work.Frame.{Frame}
use Rattle.frames.specs.Frames.{frame_in}
use Rattle.sub_rules.specs.Content.{ready}
use Rattle.node_state.specs.Posts.{ready_of_sub}
use Rattle.node_steps.specs.Calls.{own_whole, sends_it, whole_ready, whole_value}
use Rattle.node_steps.proofs.WholeValues.{ReadyThere, given_within, one_frame, one_sub, ready_there}
use Rattle.actor_laws.specs.node_moves.Shows.{IsShown, PartsShown, NodeShown}
use Rattle.actor_laws.specs.node_moves.Steps.{AllShown, StepShown, AnswerShown, shown_fills}
use Rattle.actor_laws.proofs.node_moves.Held.{HeldAt, held_at, shows_put}
use Rattle.actor_laws.proofs.node_moves.Told.{packet_kept, both_shown}
use Rattle.actor_laws.proofs.node_moves.Members.{member_shown, own_sub}

-- Aborts of records whose grants are settled
pub aborts_shown : (job : JobOf) (v : View) (records : List Record)
    → ((g : Grant) → g ∈ grants_of_records records → g ∈ v.settled) → AllShown v (aborts job records)
aborts_shown job v [] all p x = absurd x
aborts_shown job v (r ∷ records) all p (inl e) = rw e (all r.grant (inl refl))
aborts_shown job v (r ∷ records) all p (inr x) = aborts_shown job v records (λ g y. all g (inr y)) p x

-- the Result of an outcome that is told
pub results_shown : (job : JobOf) (v : View) (i : ℕ) (s : SubOf)
    → ((x : Told) → x ∈ told s.grant s.content → x ∈ v.results) → AllShown v (results job i s)
results_shown job v i s all = by_progress s.content.progress all
  where
    by_progress : (p : Progress) → ((x : Told) → x ∈ told_by s.grant s.content.parent p → x ∈ v.results)
        → AllShown v (result_by job i s p)
    by_progress Active all p x = absurd x
    by_progress (Finished o) all p (inl e) = rw e (all _ (inl refl))
    by_progress (Finished o) all p (inr x) = absurd x

-- a fill, as it is shown
pub fill_shown : (g : Grant) (o : Option Filling) (fills : List tables.Fill)
    → filled (fill_of g o) fills ≡ shown_fills (fills_of g o) fills
fill_shown g None fills = refl
fill_shown g (Some x) fills = refl

module _ (m : Meaning) (job : JobOf) (v : View) (n : NodeOf) (run : Run m v) (shown : NodeShown v n)
    (p : PartsShown v n) where
  -- a change that is a move
  pub changes_behind : (before : List PacketOf) (s : SubOf) (c : ContentChange) (gone : List Grant)
      (held : HeldAt (v.subs n.incarnation s.grant) s) → IsMove m v n.incarnation s.grant held.sub c.after c.fill gone
      → IsKept c.after → ((g : Grant) → g ∈ grants_of_records c.dropped → g ∈ gone)
      → ((w : View) → KeepsSent v w → ((g : Grant) → g ∈ gone → g ∈ w.settled) → AllShown w before)
      → StepShown m job.number v n (sends before n then changes job s c)
  changes_behind before s c gone held move kept all told_first =
      let t = held.sub in
      let view : View = alter v n.incarnation s.grant t move.content (fill_of s.grant c.fill)
      (told s.grant c.after) gone in
      let keeps : KeepsSent v view = keeps_one move.move in
      let after : SubOf = with_content s c.after in
      let new : IsShown (record { hop = t.hop; content = move.content }) after =
      record { hop = held.shown.hop; content = move.shown; kept = kept } in
      let parts : PartsShown view (changes job s c n).after = record {
        minted = p.minted;
        asked = p.asked;
        pending = p.pending;
        seen = p.seen;
        subs = shows_put v.subs n.incarnation n.subs (record { hop = t.hop; content = move.content }) after p.subs new;
        order = put_order name_of_sub after n.subs p.order;
        replies = p.replies;
        said = λ thief r e. packet_kept keeps r.packet (p.said thief r e);
        reply_order = p.reply_order;
        confirmed = p.confirmed;
        roster = p.roster;
      } in
      record {
        view = view;
        way = moved unmoved move.move move.right
            (of_alter v n.incarnation s.grant t move.content (fill_of s.grant c.fill) (told s.grant c.after) gone);
        name = refl;
        node = record { mode = shown.mode; parts = λ x. parts };
        sent = both_shown view before (aborts job c.dropped ++ results job n.incarnation after)
            (told_first view keeps (λ g x. early gone v.settled g x))
            (both_shown view (aborts job c.dropped) (results job n.incarnation after)
            (aborts_shown job view c.dropped (λ g x. early gone v.settled g (all g x)))
            (results_shown job view n.incarnation after (λ x y. early (told s.grant c.after) v.results x y)));
        transfers = λ u old. inl old;
        fills = fill_shown s.grant c.fill v.fills;
      }

  pub changes_shown : (s : SubOf) (c : ContentChange) (gone : List Grant)
      (held : HeldAt (v.subs n.incarnation s.grant) s) → IsMove m v n.incarnation s.grant held.sub c.after c.fill gone
      → IsKept c.after → ((g : Grant) → g ∈ grants_of_records c.dropped → g ∈ gone)
      → StepShown m job.number v n (changes job s c n)
  changes_shown s c gone held move kept all = changes_behind [] s c gone held move kept all (λ w k x p m. absurd m)

-- whatever frame of that number the sub of a grant has, the turn is an end that it comes to
abbrev pub EndsRight : JobOf → NodeOf → Grant → ℕ → DoneOf → Type 0
EndsRight job n g f d = (s : SubOf) (x : Frame) → sub_in g n.subs ≡ Some s → frame_in f s.content.frames ≡ Some x
    → Comes job.program x.place d.thread d.numbers d.turn

-- what came with the sub of a grant agrees
abbrev pub SavedRight : JobOf → NodeOf → Grant → Type 0
SavedRight job n g = (s : SubOf) → sub_in g n.subs ≡ Some s → AllSavedAgree job s.saved

-- a frame is carried out by an end that it comes to
module _ (job : JobOf) (v : View) (n : NodeOf) (r : Roster) (run : Run (program_meaning job.program job.input) v)
    (is : n.state ≡ Member r) (shown : NodeShown v n) where
  turned_shown : (d : DoneOf) (s : SubOf) (f : ℕ) (c : ContentChange)
      → ((x : Frame) → frame_in f s.content.frames ≡ Some x → Comes job.program x.place d.thread d.numbers d.turn)
      → AllSavedAgree job s.saved → sub_in s.grant n.subs ≡ Some s → carried_out (known_by s.saved) d f s.content ≡ Ok c
      → StepShown (program_meaning job.program job.input) job.number v n (changes job s c n)
  turned_shown d s f c end saved there ok =
      let h = member_shown v n r is shown in
      let held : HeldAt (v.subs n.incarnation s.grant) s =
      held_at (v.subs n.incarnation s.grant) (sub_in s.grant n.subs) s (h.parts.subs s.grant) there in
      let live : Live v n.incarnation s.grant held.sub = record { member = h.mode; holds = held.is } in
      let x : IsCarried (known_by s.saved) d f s.content c = carried (known_by s.saved) d f s.content c ok in
      let turn : Comes job.program x.frame.place x.frame.thread d.numbers d.turn = rw x.thread (end x.frame x.at) in
      let move : IsMove (program_meaning job.program job.input) v n.incarnation s.grant held.sub c.after c.fill
      (grants_of_records c.dropped) = rw (← x.is)
      (ended_moves job.program job.input v n.incarnation s.grant held.sub s.content x.frame d.numbers live
      (record { kept = held.shown.kept; shows = held.shown.content; there = x.there; full = x.full })
      (known_by s.saved) d.turn (known_agrees job s.saved saved) turn) in
      let kept : IsKept c.after = rw (← x.is)
      (turn_kept s.content x.frame d.numbers held.shown.kept x.there x.full
      (resumed (known_by s.saved) x.frame.place d.turn)) in
      changes_shown (program_meaning job.program job.input) job v n run shown h.parts s c
      (grants_of_records c.dropped) held move kept (λ g y. y)

  pub exec_member_shown : (d : DoneOf) (g : Grant) (f : ℕ) → EndsRight job n g f d → SavedRight job n g
      → AnswerShown (program_meaning job.program job.input) job.number v n
      (by_option (sub_in g n.subs) (Refused error.Stale)
      (λ s. calls.changed job s n (carried_out (known_by s.saved) d f s.content)))
  unfolding by_option
  exec_member_shown d g f end saved = by_sub (sub_in g n.subs) refl
    where
      by_change : (s : SubOf) → ((x : Frame) → frame_in f s.content.frames ≡ Some x
          → Comes job.program x.place d.thread d.numbers d.turn) → AllSavedAgree job s.saved
          → sub_in s.grant n.subs ≡ Some s → (o : Result ContentChange SubError)
          → carried_out (known_by s.saved) d f s.content ≡ o
          → AnswerShown (program_meaning job.program job.input) job.number v n (calls.changed job s n o)
      by_change s ends agree there (Ok c) ok = turned_shown d s f c ends agree there ok
      by_change s ends agree there (Err sub.Stale) e = tt
      by_change s ends agree there (Err sub.Spent) e = tt
      by_change s ends agree there (Err sub.Memory) e = tt

      by_sub : (o : Option SubOf) → sub_in g n.subs ≡ o
          → AnswerShown (program_meaning job.program job.input) job.number v n
          (by_option o (Refused error.Stale)
          (λ s. calls.changed job s n (carried_out (known_by s.saved) d f s.content)))
      by_sub None none = tt
      by_sub (Some s) there = by_change s (λ x at. end s x there at) (saved s there)
          (rw (own_sub g s n.subs there) at there) (carried_out (known_by s.saved) d f s.content) refl

-- a ready frame that sends its whole value comes to that
pub whole_ends : (job : JobOf) (n : NodeOf) (g : Grant) (f : ℕ) (x : ReadyFrame) (v : ℤ) → ReadyThere n.subs g f x
    → whole_value job.program x.ready ≡ Some v → EndsRight job n g f (sends_it job.program x.ready v)
whole_ends job n g f x v there gives = λ s y at here.
    let sub : x.sub ≡ s = one_sub (sub_in g n.subs) x.sub s there.sub at in
    let found : frame_in f x.sub.content.frames ≡ Some y = rw sub here in
    let frame : x.ready.frame ≡ y = one_frame (frame_in f x.sub.content.frames) x.ready.frame y there.frame found in
    rw (← frame) gives

-- wherever the node stands
module _ (job : JobOf) (v : View) (n : NodeOf) (run : Run (program_meaning job.program job.input) v)
    (shown : NodeShown v n) where
  ended_shown : (d : DoneOf) (g : Grant) (f : ℕ) → EndsRight job n g f d → SavedRight job n g
      → AnswerShown (program_meaning job.program job.input) job.number v n (calls.exec job d g f n)
  unfolding calls.exec by_state
  ended_shown d g f end saved = by_where n.state refl
    where
      by_where : (x : State) → n.state ≡ x
          → AnswerShown (program_meaning job.program job.input) job.number v n
          (by_state x (Refused error.NotJoined)
          (λ y. by_option (sub_in g n.subs) (Refused error.Stale)
          (λ s. calls.changed job s n (carried_out (known_by s.saved) d f s.content))) (λ y heir. Refused error.Stale)
          (Refused error.NotJoined))
      by_where Joining e = tt
      by_where (Member y) e = exec_member_shown job v n y run e shown d g f end saved
      by_where (Leaving y heir) e = tt
      by_where Ended e = tt

  pub exec_shown : (d : DoneOf) (g : Grant) (f : ℕ) → SavedRight job n g
      → turn_of job.program d.thread d.numbers ≡ Some d.turn
      → AnswerShown (program_meaning job.program job.input) job.number v n (calls.exec job d g f n)
  exec_shown d g f saved end = ended_shown d g f
      (λ s x there at. comes_of job.program x.place d.thread d.numbers d.turn end) saved

  pub whole_ready_shown : (most : ℕ) (g : Grant) (f : ℕ) → SavedRight job n g
      → AnswerShown (program_meaning job.program job.input) job.number v n (whole_ready job most g f n)
  unfolding by_state by_option
  whole_ready_shown most g f saved = by_where n.state refl
    where
      by_value : (x : ReadyFrame) → ReadyThere n.subs g f x → (o : Option ℤ) → own_whole job.program most x.ready ≡ o
          → AnswerShown (program_meaning job.program job.input) job.number v n
          (by_option o (Refused error.NoValue) (λ w. calls.exec job (sends_it job.program x.ready w) g f n))
      by_value x there None e = tt
      by_value x there (Some w) e = ended_shown (sends_it job.program x.ready w) g f
          (whole_ends job n g f x w there (given_within job.program most x.ready w e)) saved

      by_frame : (o : Option ReadyFrame) → ((x : ReadyFrame) → o ≡ Some x → ReadyThere n.subs g f x)
          → AnswerShown (program_meaning job.program job.input) job.number v n
          (by_option o (Refused error.Stale)
          (λ x. by_option (own_whole job.program most x.ready) (Refused error.NoValue)
          (λ w. calls.exec job (sends_it job.program x.ready w) g f n)))
      by_frame None there = tt
      by_frame (Some x) there = by_value x (there x refl) (own_whole job.program most x.ready) refl

      by_where : (s : State) → n.state ≡ s
          → AnswerShown (program_meaning job.program job.input) job.number v n
          (by_state s (Refused error.NotJoined)
          (λ y. by_option (ready_of_sub f (sub_in g (by_state s [] (λ r. n.subs) (λ r heir. []) [])))
          (Refused error.Stale) (λ x. by_option (own_whole job.program most x.ready) (Refused error.NoValue)
          (λ w. calls.exec job (sends_it job.program x.ready w) g f n))) (λ y heir. Refused error.Stale)
          (Refused error.NotJoined))
      by_where Joining e = tt
      by_where (Member y) e = by_frame (ready_of_sub f (sub_in g n.subs)) (λ x at. ready_there n.subs g f x at)
      by_where (Leaving y heir) e = tt
      by_where Ended e = tt

  pub exec_ready_shown : (g : Grant) (f : ℕ) → SavedRight job n g
      → AnswerShown (program_meaning job.program job.input) job.number v n (calls.exec_ready job g f n)
  unfolding by_state by_option
  exec_ready_shown g f saved = by_where n.state
    where
      by_turn : (x : ReadyFrame) (o : Option Turn) → turn_of job.program x.ready.frame.thread x.ready.numbers ≡ o
          → AnswerShown (program_meaning job.program job.input) job.number v n
          (by_option (o >>= (λ turn. Some (record {
            program = job.program;
            thread = x.ready.frame.thread;
            numbers = x.ready.numbers;
            turn = turn;
          }))) (Refused error.Stale) (λ d. calls.exec job d g f n))
      by_turn x None e = tt
      by_turn x (Some turn) e = exec_shown
          (record {
            program = job.program;
            thread = x.ready.frame.thread;
            numbers = x.ready.numbers;
            turn = turn;
          }) g f saved e

      by_frame : (o : Option ReadyFrame) → AnswerShown (program_meaning job.program job.input) job.number v n
          (by_option o (Refused error.Stale)
          (λ x. by_option (calls.own_turn job.program x.ready) (Refused error.Stale) (λ d. calls.exec job d g f n)))
      by_frame None = tt
      by_frame (Some x) = by_turn x (turn_of job.program x.ready.frame.thread x.ready.numbers) refl

      by_where : (x : State) → AnswerShown (program_meaning job.program job.input) job.number v n
          (by_state x (Refused error.NotJoined)
          (λ y. by_option (ready_at n g f) (Refused error.Stale)
          (λ x. by_option (calls.own_turn job.program x.ready) (Refused error.Stale) (λ d. calls.exec job d g f n)))
          (λ y heir. Refused error.Stale) (Refused error.NotJoined))
      by_where Joining = tt
      by_where (Member y) = by_frame (ready_at n g f)
      by_where (Leaving y heir) = tt
      by_where Ended = tt

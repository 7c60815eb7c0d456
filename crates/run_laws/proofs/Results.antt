-- A Result tells the outcome of the task that was granted under its name: so the tables of the
-- whole run say.
use Rattle.std.proofs.Common.{◌≡◌, ◌+◌, ℕ, ℤ, List, Option, None, Some, refl, sym, ap, ◌∙◌}
use Rattle.ids.specs.Names.{Grant}
use Rattle.ids.specs.declared.outcome.Outcome.{Outcome}
use Rattle.codec.specs.declared.body.TaskResult.{TaskResult}
use Rattle.recovery.proofs.Orders.{all_there}
use Rattle.serial_meaning.specs.Job.{JobOf}
use Rattle.serial_meaning.specs.Places.{outcome_at, outcome_of}
use Rattle.victim_records.specs.Records.{record_in}
use Rattle.subcomputation.specs.Subs.{SubOf, name_of_sub, sub_in}
use Rattle.node_state.specs.Node.{NodeOf}
use Rattle.table_laws.specs.Tables.{◌∈◌}
use Rattle.table_laws.specs.Content.{HoldsTask}
use Rattle.table_laws.specs.View.{Transfer, Works, View}
use Rattle.table_laws.specs.Facts.{Granted, held, result_to, sent}
use Rattle.table_laws.specs.Runs.{Run}
use Rattle.table_laws.proofs.Among.{of_each}
use Rattle.table_laws.proofs.NamesReached.{names_reached}
use Rattle.table_laws.proofs.ProgramMeaning.{program_serial}
use Rattle.table_laws.proofs.TasksKept.{tasks_reached}
use Rattle.table_laws.proofs.ValuesKept.{run_reached, values_run}
use Rattle.content_laws.specs.Shown.{outcome_number, ShowsRecord}
use Rattle.content_laws.proofs.Apart.{own_grant}
use Rattle.actor_laws.specs.house_moves.Steps.{tables_meaning}
use Rattle.actor_laws.specs.node_moves.Shows.{mode_of, NodeShown, PartsShown}
use Rattle.actor_laws.proofs.node_moves.Held.{HeldAt, held_at}
use Rattle.actor_laws.proofs.node_moves.Members.{unrecorded}
use Rattle.actor_laws.specs.actor_agreement.Values.{NextGrantIsFresh, IsOutcomeAt}
use Rattle.run_laws.proofs.Recorded.{told_back}

module _ (job : JobOf) (v : View) (run : Run (tables_meaning job) v) where
  -- the value of the task of whatever was sent under its name
  pub told_value : (g : Grant) (to : ℕ) (o : Option ℤ) (t : Transfer) → result_to g to o ∈ v.results → t ∈ v.transfers
      → t.grant ≡ g → o ≡ (tables_meaning job).value t.content.task.place
  told_value g to o t told there is = (values_run (tables_meaning job)
      (program_serial job.program job.input) run).results_agree (result_to g to o) t.content told (sent t there is refl)

  -- at a place, the outcome
  pub told_outcome : (o : Outcome) (place : List ℕ) → outcome_number o ≡ (tables_meaning job).value place
      → o ≡ outcome_at job.program job.input place
  told_outcome o place e = sym (told_back o) ∙ ap outcome_of e

  -- what stands in the tables of a subcomputation that a node holds
  held_there : (n : NodeOf) → NodeShown v n → Works (mode_of n.state) → (s : SubOf) → s ∈ n.subs
      → HeldAt (v.subs n.incarnation s.grant) s
  held_there n shown up s m =
      let p : PartsShown v n = shown.parts up in
      let at : sub_in s.grant n.subs ≡ Some s =
      of_each (λ (y : SubOf). sub_in y.grant n.subs ≡ Some y) n.subs (all_there name_of_sub n.subs p.order) s m in
      held_at (v.subs n.incarnation s.grant) (sub_in s.grant n.subs) s (p.subs s.grant) at

  -- nothing that a node holds has a record of the next grant that it mints
  pub fresh_there : (n : NodeOf) → NodeShown v n → Works (mode_of n.state) → NextGrantIsFresh n
  fresh_there n shown up s m =
      let i = n.incarnation in
      let p : PartsShown v n = shown.parts up in
      let works : Works (v.mode i) = rw shown.mode up in
      let none : record_in (record { minter = i; number = v.minted i + 1 }) s.content.records ≡ None =
      unrecorded v i s.grant s (run_reached run) works (held_there n shown up s m) in
      let at : v.minted i ≡ n.minted = p.minted in
      rw at at none

  -- that of the record's task, at a host that has the record of a grant
  pub outcome_there : (n : NodeOf) → NodeShown v n → Works (mode_of n.state) → (b : TaskResult) (to : ℕ)
      → result_to b.grant to (outcome_number b.outcome) ∈ v.results → IsOutcomeAt job n b
  outcome_there n shown up b to told s r m there =
      let i = n.incarnation in
      let h : HeldAt (v.subs i s.grant) s = held_there n shown up s m in
      let rec : ShowsRecord h.sub.content r = h.shown.content.records b.grant r there in
      let granted : Granted v.transfers b.grant =
      (names_reached (run_reached run)).result_granted (result_to b.grant to (outcome_number b.outcome)) told in
      let t = granted.transfer in
      let mine : b.grant ≡ r.grant = own_grant b.grant r s.content.records there in
      let task : HoldsTask h.sub.content r.frame t.content.task =
      (tasks_reached (run_reached run)).record_task s.grant b.grant h.sub.content t.content r.frame
      (held i h.sub (rw shown.mode up) h.is refl) (rec.stolen
      ∙ ap Some (sym mine)) (sent t granted.sent granted.grant refl) in
      let place : t.content.task.place ≡ r.task.place = sym task.place ∙ rec.holds.place in
      told_outcome b.outcome r.task.place
      (told_value b.grant to (outcome_number b.outcome) t told granted.sent granted.grant
      ∙ ap (tables_meaning job).value place)

-- A recorded outcome is the job's meaning.
use Rattle.std.proofs.Common.{◌≡◌, Some, refl, sym, ap, ◌∙◌}
use Rattle.disk.specs.Device.{Unarmed}
use Rattle.ids.specs.declared.outcome.Outcome.{Outcome}
use Rattle.ids.specs.declared.outcome.Outcome.TheVariants.{Value, TooDeep}
use Rattle.serial_meaning.specs.Job.{JobOf, meaning_of}
use Rattle.serial_meaning.specs.Places.{outcome_of}
use Rattle.clearinghouse.specs.House.{Open, Stopped}
use Rattle.table_laws.specs.View.{View}
use Rattle.table_laws.specs.Program.{program_meaning}
use Rattle.table_laws.proofs.ProgramMeaning.{program_serial}
use Rattle.table_laws.proofs.ValuesKept.{values_run}
use Rattle.content_laws.specs.Shown.{outcome_number}
use Rattle.world_steps.specs.Runs.{CanBegin}
use Rattle.world_steps.specs.World.{Down, HouseAt, IsUp, WorldOf, recorded, recorded_at}
use Rattle.actor_laws.specs.house_moves.Shows.{stored_of}
use Rattle.run_laws.specs.Shown.{HouseShown, Tied}

pub told_back : (o : Outcome) → outcome_of (outcome_number o) ≡ o
told_back (Value v) = refl
told_back TooDeep = refl

pub stored_at : (v : View) (house : HouseAt) (o : Outcome) → HouseShown v house → recorded_at house ≡ Some o
    → v.stored ≡ Some (outcome_number o)
stored_at v Down o s e = cc
stored_at v (IsUp (Open h)) o s e = s.shown.stored ∙ ap stored_of e
stored_at v (IsUp (Stopped why)) o s e = cc

-- the outcome that the disk keeps, whatever a crash leaves of it
pub kept_is_meant : (job : JobOf) (w : WorldOf) → (tied : Tied job w) → (o : Outcome)
    → tied.shown.disk.found.outcome ≡ Some o → o ≡ meaning_of job
kept_is_meant job w tied o e =
    let stored = tied.shown.disk.stored ∙ ap stored_of e in
    sym (told_back o) ∙ ap outcome_of ((values_run (program_meaning job.program job.input)
    (program_serial job.program job.input) tied.run).stored_agrees (outcome_number o) stored)

-- so another run can begin on it
pub goes_on : (job : JobOf) (w : WorldOf) → Tied job w → w.disk.arming ≡ Unarmed → CanBegin job w.disk
goes_on job w tied unarmed = record {
  unarmed = unarmed;
  sequence = tied.shown.disk.sequence;
  found = tied.shown.disk.found;
  kept = tied.shown.disk.keeps;
  own = tied.shown.disk.own;
  meant = kept_is_meant job w tied;
  saved = tied.shown.disk.saved;
}

pub recorded_is_meant : (job : JobOf) (w : WorldOf) → Tied job w → (o : Outcome) → recorded w ≡ Some o
    → o ≡ meaning_of job
recorded_is_meant job w tied o e =
    let stored = stored_at tied.view w.house o tied.shown.house e in
    sym (told_back o) ∙ ap outcome_of ((values_run (program_meaning job.program job.input)
    (program_serial job.program job.input) tied.run).stored_agrees (outcome_number o) stored)

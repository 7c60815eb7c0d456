-- What is right of a content stays so at each change.
use Rattle.std.proofs.Common.{◌≡◌, ℕ, ℤ, List, Some, None, Ok}
use Rattle.ids.specs.Names.{Grant}
use Rattle.ids.specs.declared.outcome.Outcome.{Outcome}
use Rattle.ids.specs.declared.work.Record.{Record}
use Rattle.ids.specs.declared.work.Task.{Task}
use Rattle.body_eval.specs.Done.{DoneOf}
use Rattle.serial_meaning.specs.Job.{JobOf, IsJob}
use Rattle.serial_meaning.specs.Places.{outcome_at}
use Rattle.victim_records.specs.Records.{record_in}
use Rattle.sub_rules.specs.Carrying.{exec_content}
use Rattle.sub_rules.specs.Resuming.{Known, resumed}
use Rattle.sub_rules.specs.Changes.{turned, closed, granted_out, redone, with_parent, with_thief}
use Rattle.sub_rules.specs.Content.{Ready, ready_in, granted_content}
use Rattle.sub_rules.specs.declared.change.ContentChange.{ContentChange}
use Rattle.sub_rules.specs.declared.content.Content.{Content}
use Rattle.agreement_laws.specs.Agreement.{ContentAgrees, FillAgrees, KnownAgrees, TaskAgrees}
use Rattle.agreement_laws.proofs.Granting.{grant_agrees, parent_agrees, redone_agrees, result_agrees, thief_agrees}
use Rattle.agreement_laws.proofs.Arriving.{ChangeAgrees}
use Rattle.agreement_laws.proofs.Turning.{given_agrees, granted_agrees, turn_agrees}
use Rattle.content_laws.proofs.Carrying.{Comes}
use Rattle.frames.specs.Frames.{frame_in}
use Rattle.ids.specs.Slots.{numbers_in}
use Rattle.ids.specs.declared.work.Frame.{Frame}
use Rattle.kind_check.specs.declared.turn.Turn.{Turn}
use Rattle.kind_check.specs.declared.turn.Turn.TheVariants.{Sends, Joins}
use Rattle.content_laws.proofs.Evaluated.{carried, exec_kept}
use Rattle.content_laws.proofs.Keeping.{begun_kept, grant_kept, parent_kept, redo_kept, result_kept, thief_kept}
use Rattle.actor_laws.specs.actor_agreement.Values.{IsRight}

-- the content with which a task begins
pub begun_right : (job : JobOf) (host : ℕ) (task : Task) → TaskAgrees job task → IsRight job (granted_content host task)
begun_right job host task agrees = record { agrees = granted_agrees job host task agrees; kept = begun_kept host task }

-- another host waits for its outcome
pub parent_right : (job : JobOf) (host : ℕ) (c : Content) → IsRight job c → IsRight job (with_parent host c)
parent_right job host c right = record {
  agrees = parent_agrees job host c right.agrees;
  kept = parent_kept c host right.kept;
}

-- another worker holds a stolen frame
pub thief_right : (job : JobOf) (g : Grant) (holder : ℕ) (c : Content) → IsRight job c
    → IsRight job (with_thief g holder c)
thief_right job g holder c right = record {
  agrees = thief_agrees job g holder c right.agrees;
  kept = thief_kept c g holder right.kept;
}

-- a stolen frame is there again
pub redone_right : (job : JobOf) (c : Content) (r : Record) → IsRight job c → record_in r.grant c.records ≡ Some r
    → IsRight job (redone r c)
redone_right job c r right there = record {
  agrees = redone_agrees job c r right.kept.sound right.agrees there;
  kept = redo_kept c r right.kept there;
}

-- a ready frame is granted away, under a grant of which there is no record
pub granted_right : (job : JobOf) (c : Content) (n : ℕ) (g : Grant) (thief : ℕ) (r : Ready) → IsRight job c
    → ready_in n c ≡ Some r → record_in g c.records ≡ None → IsRight job (granted_out g thief r c)
granted_right job c n g thief r right is new = record {
  agrees = grant_agrees job c n g thief r right.kept.sound right.kept.frames right.agrees is;
  kept = grant_kept c g thief n r right.kept is new;
}

-- a change after which a content is right; the value that it puts into a slot is the one that the
-- slot receives
pub record ChangeIsRight (job : JobOf) (change : ContentChange) : Type 0 where
  pub after : IsRight job change.after
  pub fill : FillAgrees job change.fill

-- a record is closed by the outcome of its task
pub closed_right : (job : JobOf) (c : Content) (r : Record) (o : Outcome) → IsRight job c
    → record_in r.grant c.records ≡ Some r → o ≡ outcome_at job.program job.input r.task.place
    → ChangeIsRight job (closed r o c)
closed_right job c r o right there is =
    let agrees = result_agrees job c r o right.agrees there is in
    record { after = record { agrees = agrees.content; kept = result_kept c r right.kept there o }; fill = agrees.fill }

-- a ready frame comes to an end, by what is known of its kids' values
ended_agrees : (job : JobOf) (known : Known) (c : Content) (f : Frame) (numbers : List ℤ) (turn : Turn) → IsJob job
    → KnownAgrees job known → IsRight job c → frame_in f.number c.frames ≡ Some f → numbers_in f.slots ≡ Some numbers
    → Comes job.program f.place f.thread numbers turn → ChangeAgrees job (turned f (resumed known f.place turn) c)
ended_agrees job known c f numbers (Sends v) accepted knows right there full end =
    given_agrees job c f numbers v right.kept.sound right.kept.frames right.agrees there full end
ended_agrees job known c f numbers (Joins t slots) accepted knows right there full end =
    turn_agrees job known c f numbers (Joins t slots) accepted.accepted knows right.kept.sound right.kept.frames
    right.agrees there full end

-- a frame is carried out by an end that it comes to
pub executed_right : (job : JobOf) (known : Known) (c : Content) (d : DoneOf) (n : ℕ) (change : ContentChange)
    → IsJob job → KnownAgrees job known
    → ((x : Frame) → frame_in n c.frames ≡ Some x → Comes job.program x.place d.thread d.numbers d.turn) → IsRight job c
    → exec_content known d n c ≡ Ok change → ChangeIsRight job change
executed_right job known c d n change accepted knows end right is =
    let done = carried known d n c change is in
    let turn : Comes job.program done.frame.place done.frame.thread d.numbers d.turn =
    rw done.thread (end done.frame done.at) in
    let agrees = ended_agrees job known c done.frame d.numbers d.turn accepted knows right done.there done.full turn in
    let after : ContentAgrees job change.after = rw (← done.is) agrees.content in
    let fill : FillAgrees job change.fill = rw (← done.is) agrees.fill in
    record { after = record { agrees = after; kept = exec_kept known c d n change right.kept is }; fill = fill }

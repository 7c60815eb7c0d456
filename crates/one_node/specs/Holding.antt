-- What a run keeps between its turns, and what a turn of it is.
use Rattle.std.specs.Prelude.{◌≡◌, ◌≤◌, ◌^◌, ℕ, ℤ, nat_eq, ◌&&◌, List, [], length, Some, sum_by, Result, Ok, Err}
use Rattle.std.specs.List.{AllByRecursion}
use Rattle.ids.specs.Naming.{name_of_frame}
use Rattle.ids.specs.Ordered.{AreInOrder}
use Rattle.ids.specs.Slots.{numbers_in}
use Rattle.ids.specs.declared.outcome.Progress.TheVariants.{Active}
use Rattle.ids.specs.declared.work.Frame.{Frame}
use Rattle.kind_check.specs.Total.{Takes}
use Rattle.body_eval.specs.Done.{DoneOf, IsEvaluated}
use Rattle.serial_meaning.specs.Job.{JobOf, IsJob}
use Rattle.frames.specs.Frames.{frame_in}
use Rattle.level_deques.specs.declared.posts.Post.{Post}
use Rattle.sub_rules.specs.declared.change.ContentChange.{ContentChange}
use Rattle.sub_rules.specs.declared.change.Readied.{Readied}
use Rattle.sub_rules.specs.declared.change.SubError.{SubError}
use Rattle.sub_rules.specs.declared.change.SubError.TheVariants.{Spent}
use Rattle.sub_rules.specs.declared.content.Content.{Content}
use Rattle.sub_rules.specs.Content.{is_ready}
use Rattle.sub_rules.specs.Debts.{IsSound, one_if}
use Rattle.agreement_laws.specs.Agreement.{ContentAgrees}
use Rattle.one_node.specs.declared.fault.RunFault.{RunFault}
use Rattle.one_node.specs.declared.fault.RunFault.TheVariants.{TurnsSpent, NumbersSpent, Memory}
use Rattle.one_node.specs.Runs.{RunOf, one_turn, own_grant}

-- 1 where a post is that of frame n
abbrev pub names : ℕ → Post → ℕ
names n p = one_if (nat_eq p.frame n)

-- 1 where a frame is frame n, and ready
abbrev pub is_ready_at : ℕ → Frame → ℕ
is_ready_at n f = one_if (nat_eq f.number n && is_ready f)

-- the posts are the ready frames, each once
pub record ArePosted (frames : List Frame) (posts : List Post) : Type 0 where
  pub own : AllByRecursion (λ p. p.grant ≡ own_grant) posts
  pub each : (n : ℕ) → sum_by (names n) posts ≡ sum_by (is_ready_at n) frames

-- a run that goes on: its content is sound and agrees with the job, it is that of the root task, of
-- which no frame was stolen, and its ready frames are posted
pub record Holds (job : JobOf) (run : RunOf) : Type 0 where
  pub known : IsJob job
  pub active : run.content.progress ≡ Active
  pub sound : IsSound run.content
  pub alone : run.content.records ≡ []
  pub order : AreInOrder name_of_frame run.content.frames
  pub agrees : ContentAgrees job run.content
  pub rooted : run.content.task.place ≡ []
  pub posted : ArePosted run.content.frames run.posts

-- a run after a turn: it agrees, and holds this if it goes on
pub record Follows (job : JobOf) (run : RunOf) : Type 0 where
  pub agrees : ContentAgrees job run.content
  pub rooted : run.content.task.place ≡ []
  pub goes_on : run.content.progress ≡ Active → Holds job run

-- a frame is there and ready, and its thread takes its numbers
pub record IsFrame (job : JobOf) (c : Content) (n : ℕ) : Type 0 where
  pub frame : Frame
  pub there : frame_in n c.frames ≡ Some frame
  pub numbers : List ℤ
  pub full : numbers_in frame.slots ≡ Some numbers
  pub takes : Takes job.program frame.thread (length numbers)

-- a turn that was evaluated is that of a frame
pub record IsTurnOf (c : Content) (n : ℕ) (d : DoneOf) : Type 0 where
  pub frame : Frame
  pub there : frame_in n c.frames ≡ Some frame
  pub full : numbers_in frame.slots ≡ Some d.numbers
  pub thread : d.thread ≡ frame.thread
  pub evaluated : IsEvaluated d

-- a turn needs a frame number above 2^32 - 1
pub record IsSpent (job : JobOf) (run : RunOf) : Type 0 where
  pub next : RunOf
  pub turn : one_turn job.program run ≡ Some next
  pub spent : 2 ^ 32 ≤ next.content.next

-- why a turn of a run that goes on isn't taken
abbrev pub TurnFails : JobOf → RunOf → RunFault → Type 0
TurnFails job run TurnsSpent = ⊥
TurnFails job run NumbersSpent = IsSpent job run
TurnFails job run Memory = Unit {0}

-- a change that was to be made leads to this content, and to these ready frames
pub record CarriedTo (expected : Result ContentChange SubError) (after : Content) (ready : List Readied) : Type 0 where
  pub change : ContentChange
  pub done : expected ≡ Ok change
  pub led : change.after ≡ after
  pub told : change.ready ≡ ready

-- a frame's turn that is carried out, or needs too great a number
abbrev pub IsCarried : Result ContentChange SubError → Content → Result (List Readied) RunFault → Type 0
IsCarried expected after (Ok ready) = CarriedTo expected after ready
IsCarried expected after (Err TurnsSpent) = ⊥
IsCarried expected after (Err NumbersSpent) = expected ≡ Err Spent
IsCarried expected after (Err Memory) = Unit {0}

-- Each step of a run leads from a sound world to a sound one.
use Rattle.std.proofs.Common.{◌≡◌, List, ◌⊎◌, inl, inr, refl, subst}
use Rattle.disk.specs.Device.{Device}
use Rattle.event_script.specs.declared.event.Event.{Event}
use Rattle.serial_meaning.specs.Job.{JobOf, IsJob}
use Rattle.table_laws.specs.Tables.{◌∈◌}
use Rattle.table_laws.specs.View.{View}
use Rattle.world_steps.specs.Answers.{StepResult}
use Rattle.world_steps.specs.Runs.{CanBegin, Entry, Runs, ends, goes}
use Rattle.world_steps.specs.Steps.{Step}
use Rattle.world_steps.specs.World.{WorldOf, first_over}
use Rattle.run_laws.specs.Sound.{IsSound, SoundSince, sound_here, sound_of}
use Rattle.run_laws.proofs.Events.{first_tied}
use Rattle.run_laws.proofs.StepsAgree.{first_right}
use Rattle.run_laws.proofs.Wholes.{whole_step}

module _ (job : JobOf) (ok : IsJob job) where
  -- a step
  pub step_sound : (base : View) (w : WorldOf) → SoundSince job base w → (e : Event) (o : StepResult) → Step job e w o
      → SoundSince job base o.world
  step_sound base w s e o step = whole_step job ok base s.whole s.from.one s.from.kept s.tied s.right e o
      (subst (λ (x : WorldOf). Step job e x o) s.from.cut step)

  -- a run
  pub runs_sound : (base : View) (w : WorldOf) (entries : List Entry) (worlds : List WorldOf)
      → Runs job w entries worlds → SoundSince job base w → (v : WorldOf) → v ∈ worlds → SoundSince job base v
  runs_sound base _ _ _ (ends {w = w}) s v m = absurd m
  runs_sound base _ _ _ (goes {w = w} {v = x} {e = e} {entries = entries} {worlds = worlds} step rest) s v m =
      let next : SoundSince job base x = step_sound base w s e.event (record { world = x; answer = e.answer }) step in
      by_place next (runs_sound base x entries worlds rest next v) m
    where
      by_place : SoundSince job base x → (v ∈ worlds → SoundSince job base v) → (v ≡ x) ⊎ (v ∈ worlds)
          → SoundSince job base v
      by_place next later (inl same) = rw same next
      by_place next later (inr m) = later m

-- the first world
pub first_sound : (job : JobOf) (d : Device) → CanBegin job d → IsSound job (first_over d)
first_sound job d can = record {
  whole = first_over d;
  from = record { cut = refl; one = λ p q o u mp mq ep eq grant hop. absurd mp; kept = λ a n at. cc };
  tied = first_tied job d can;
  right = first_right job d;
}

pub run_sound : (job : JobOf) → IsJob job → (d : Device) (entries : List Entry) (worlds : List WorldOf) (v : WorldOf)
    → CanBegin job d → Runs job (first_over d) entries worlds → v ∈ worlds → IsSound job v
run_sound job ok d entries worlds v can runs m =
    let first = first_sound job d can in sound_of
    (runs_sound job ok first.tied.view (first_over d) entries worlds runs (sound_here first) v m)

-- What a newcomer does in a run.
use Rattle.std.proofs.Common.{◌≡◌, ◌+◌, ◌<◌, ◌≤◌, ◌^◌, ℕ, ℤ, inl, List, Some, None}
use Rattle.ids.specs.declared.outcome.Outcome.TheVariants.{Value}
use Rattle.disk.specs.Device.{Device}
use Rattle.serial_meaning.specs.Job.{JobOf, IsJob, meaning_of}
use Rattle.clearinghouse.specs.House.{HouseOf}
use Rattle.clearinghouse.specs.declared.parts.RootGrant.{RootGrant}
use Rattle.event_script.specs.declared.event.Event.{Event}
use Rattle.event_script.specs.declared.event.Event.TheVariants.{AtHouse}
use Rattle.event_script.specs.declared.event.HouseEvent.TheVariants.{Tick}
use Rattle.table_laws.specs.Tables.{◌∈◌}
use Rattle.world_steps.specs.Answers.{StepResult}
use Rattle.world_steps.specs.Runs.{CanBegin, Entry, Runs}
use Rattle.world_steps.specs.Steps.{CarriedOut}
use Rattle.world_steps.specs.World.{WorldOf, first_over, open_house, recorded}
use Rattle.run_laws.specs.Next.{IsSilent}
use Rattle.run_laws.specs.Sound.{IsSound, sound_here, sound_of}
use Rattle.run_laws.specs.Standing.{WorldStands}
use Rattle.run_laws.proofs.Going.{first_sound, run_sound, step_sound}
use Rattle.run_laws.proofs.StandingSteps.{first_stands, runs_stand}
use Rattle.newcomer_laws.specs.Newcomers.{AllCarriedOut, CanCome, IsReady, newcomers, turns_of}
use Rattle.newcomer_laws.proofs.Alone.{finishes}
use Rattle.newcomer_laws.proofs.Ready.{moment_readies}

module _ (job : JobOf) (ok : IsJob job) (d : Device) (entries : List Entry) (worlds : List WorldOf)
    (can : CanBegin job d) (runs : Runs job (first_over d) entries worlds) (w : WorldOf) (m : w ∈ worlds) where
  sound : IsSound job w
  sound = run_sound job ok d entries worlds w can runs m

  stands : WorldStands w
  stands = runs_stand job ok (first_over d) entries worlds runs (first_sound job d can) (first_stands d) w m

  pub finishes_now : (a word most : ℕ) (v : ℤ) (last : WorldOf) (ready : IsReady w a word) → meaning_of job ≡ Value v
      → turns_of job ≤ most → AllCarriedOut job (newcomers a word most ready.house w) w last
      → recorded last ≡ Some (Value v)
  finishes_now a word most v last ready value enough done =
      finishes job w ready.house a word most v last ok sound ready.open_now ready.finishes ready.comes value enough done

  pub finishes_later : (e : Event) (o : StepResult) → CarriedOut job e w o
      → (a word most : ℕ) (v : ℤ) (last : WorldOf) (ready : IsReady o.world a word) → meaning_of job ≡ Value v
      → turns_of job ≤ most → AllCarriedOut job (newcomers a word most ready.house o.world) o.world last
      → recorded last ≡ Some (Value v)
  finishes_later e o over a word most v last ready value enough done =
      let then_sound : IsSound job o.world =
      sound_of (step_sound job ok sound.tied.view w (sound_here sound) e o (inl over)) in
      finishes job o.world ready.house a word most v last ok then_sound ready.open_now ready.finishes ready.comes value
      enough done

  pub moment_in_run : (h : HouseOf) (a word now : ℕ) (root : RootGrant) → open_house w.house ≡ Some h
      → h.root ≡ Some root → IsSilent h root.holder now → h.moment < now → h.outcome ≡ None → h.minted + 1 < 2 ^ 64
      → h.sequence + 1 < 2 ^ 64 → CanCome w h a word → (o : StepResult) → CarriedOut job (AtHouse (Tick now)) w o
      → IsReady o.world a word
  moment_in_run h a word now root open_now out silent later none grant commit comes o over =
      moment_readies job w h a word now root stands open_now out silent later none grant commit comes o over

-- What is promised of a run's worlds, the one in which it ended among them.
use Rattle.std.proofs.Common.{◌≡◌, ℕ, List, [], ◌∷◌, ◌⊎◌, inl, inr, Option, None, Some, refl}
use Rattle.ids.specs.Names.{Grant}
use Rattle.event_script.specs.declared.event.Event.{Event}
use Rattle.event_script.specs.declared.event.Event.TheVariants.{Start, AtNode, Crash, AtHouse, HouseCrash, Cut}
use Rattle.serial_meaning.specs.Job.{JobOf, IsJob}
use Rattle.clearinghouse.specs.House.{Stopped}
use Rattle.table_laws.specs.Tables.{◌∈◌}
use Rattle.run_laws.proofs.Finding.{openings_find}
use Rattle.run_laws.proofs.Going.{first_sound}
use Rattle.run_laws.proofs.Sound.{all_safe, each_safe}
use Rattle.world_steps.specs.Answers.{StepResult}
use Rattle.world_steps.specs.Calls.{LacksMemoryBehind, WorldOn}
use Rattle.world_steps.specs.Runs.{last_of}
use Rattle.world_steps.specs.Safe.{SafeWorld}
use Rattle.world_steps.specs.Steps.{LacksMemory}
use Rattle.world_steps.specs.World.{Holder, HouseAt, IsUp, WorldOf, first_over}
use Rattle.world_steps.specs.declared.parts.NoMemory.{NoMemory}
use Rattle.world_steps.proofs.Meeting.{can_begin}
use Rattle.world.specs.Runs.{EndsIn, IsRunTo, IsSafeRunTo, StopsIn, StopsReading}

-- the world after the last entry is one of them
last_there : (w : WorldOf) (worlds : List WorldOf) → last_of w worlds ∈ (w ∷ worlds)
last_there w [] = inl refl
last_there w (v ∷ worlds) = inr (last_there v worlds)

module _ (job : JobOf) where
  -- who holds a grant is no matter of the clearinghouse
  held_on : (w : WorldOf) (house : HouseAt) (a : ℕ) (g : Grant) → Holder (record w { house = house }) a g → Holder w a g
  held_on w house a g at = record { node = at.node; sub = at.sub; up = at.up; live = at.live }

  stopped_safe : (w : WorldOf) (why : _) → SafeWorld job w → SafeWorld job (record w { house = IsUp (Stopped why) })
  stopped_safe w why s = record {
    once = s.once;
    values = s.values;
    holder = λ g a b p q. s.holder g a b (held_on w (IsUp (Stopped why)) a g p) (held_on w (IsUp (Stopped why)) b g q);
    outcome = λ o e. cc;
  }

  -- an event that finds no memory
  out_of_memory_safe : (e : Event) (w : WorldOf) (o : StepResult) → SafeWorld job w → LacksMemory job e w o
      → SafeWorld job o.world
  out_of_memory_safe (Start a word) w o s (can, is) = rw is s
  out_of_memory_safe (AtNode a e) w o s (there, is) = rw is s
  out_of_memory_safe (AtHouse e) w o s (applies, is) = rw is (stopped_safe w _ s)
  out_of_memory_safe (Cut c) w o s (can, lacks_memory) = rw (lacks_memory.1) (stopped_safe w _ s)
  out_of_memory_safe (Crash a) w o s never = absurd never
  out_of_memory_safe HouseCrash w o s never = absurd never

  behind_safe : (e : Event) (w : WorldOf) (o : StepResult) → SafeWorld job w → LacksMemoryBehind e w o
      → SafeWorld job o.world
  behind_safe (Start a word) w o s never = absurd never
  behind_safe (AtNode a e) w o s (up, there, is) = rw is s
  behind_safe (AtHouse e) w o s never = absurd never
  behind_safe (Cut c) w o s never = absurd never
  behind_safe (Crash a) w o s never = absurd never
  behind_safe HouseCrash w o s never = absurd never

  -- where a run stops
  pub stop_safe : (e : Event) (last : WorldOf) (v : WorldOn) → SafeWorld job last → StopsIn job e last v
      → SafeWorld job v.world
  stop_safe e last v s (o, inl lacks_memory, is) = rw is (out_of_memory_safe e last o s lacks_memory)
  stop_safe e last v s (o, inr lacks_memory, is) = rw is (behind_safe e last o s lacks_memory.1)

  pub reading_safe : (e : Event) (last : WorldOf) (v : WorldOn) → SafeWorld job last → StopsReading job e last v
      → SafeWorld job v.world
  reading_safe e last v s (inl stops) = stop_safe e last v s stops
  reading_safe e last v s (inr (cut, is)) = rw is s

  module _ (Stops : Event → (last : WorldOf) → (on : WorldOn)
      → Type 0) (stays : (e : Event) (last : WorldOf) (v : WorldOn) → SafeWorld job last → Stops e last v
      → SafeWorld job v.world) where
    end_safe : (events : List Event) (done : ℕ) (stopped : Option NoMemory) (last : WorldOf) (v : WorldOn)
        → SafeWorld job last → EndsIn Stops events done stopped last v → SafeWorld job v.world
    end_safe events done None last v s (all, is) = rw is s
    end_safe events done (Some lacks) last v s (e, there, stops) = stays e last v s stops

    pub promised : (events : List Event) (done : ℕ) (stopped : Option NoMemory) (v : WorldOn) → IsJob job
        → IsRunTo Stops job events done stopped v → IsSafeRunTo Stops job events done stopped v
    promised events done stopped v ok run =
        let can = can_begin job run.disk run.formatted in
        let last : WorldOf = last_of (first_over run.disk) run.worlds in
        record {
          run = run;
          safe = all_safe job ok run.disk run.entries run.worlds can run.runs;
          last = end_safe events done stopped last v
              (each_safe job ok run.disk run.entries run.worlds can run.runs last
              (last_there (first_over run.disk) run.worlds)) run.ends;
          openings = openings_find job ok (first_over run.disk) run.entries run.worlds run.runs
              (first_sound job run.disk can);
        }

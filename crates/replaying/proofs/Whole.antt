-- A replay that nothing stopped is a run.
use Rattle.std.proofs.Common.{◌≡◌, ℕ, List, refl, subst, false, Option, None, Some, is_some}
use Rattle.event_script.specs.declared.event.Event.{Event}
use Rattle.serial_meaning.specs.Job.{JobOf}
use Rattle.world.specs.Runs.{IsReplay, IsRun}
use Rattle.world_steps.specs.Calls.{WorldOn}
use Rattle.world_steps.specs.declared.parts.NoMemory.{NoMemory}

pub none_is : (o : Option NoMemory) → is_some o ≡ false → o ≡ None
none_is None is = refl
none_is (Some e) is = absurd cc

pub whole : (job : JobOf) (events : List Event) (done : ℕ) (stopped : Option NoMemory) (v : WorldOn) → stopped ≡ None
    → IsReplay job events done stopped v → IsRun job events done None v
whole job events done stopped v none replay =
    let r : IsReplay job events done None v = subst (λ s. IsReplay job events done s v) none replay in
    record {
      run = record {
        disk = r.run.disk;
        formatted = r.run.formatted;
        entries = r.run.entries;
        worlds = r.run.worlds;
        runs = r.run.runs;
        carried = r.run.carried;
        ends = r.run.ends;
      };
      safe = r.safe;
      last = r.last;
      openings = r.openings;
    }

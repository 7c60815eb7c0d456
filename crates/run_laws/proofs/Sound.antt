-- Each world of a run is cut from one that is tied to tables and right by value, and so all that is
-- promised holds of it.
use Rattle.std.proofs.Common.{List, ◌∷◌, inl, inr, sym, subst}
use Rattle.disk.specs.Device.{Device}
use Rattle.serial_meaning.specs.Job.{JobOf, IsJob}
use Rattle.table_laws.specs.Tables.{◌∈◌}
use Rattle.table_laws.proofs.Among.{got}
use Rattle.world_steps.specs.Agrees.{Agrees}
use Rattle.world_steps.specs.Lost.{NothingLost}
use Rattle.world_steps.specs.Runs.{CanBegin, Entry, Runs}
use Rattle.world_steps.specs.Safe.{SafeWorld}
use Rattle.world_steps.specs.World.{Holder, WorldOf, first_over}
use Rattle.run_laws.specs.Promises.{AllSafe}
use Rattle.run_laws.specs.Right.{WorldIsRight}
use Rattle.run_laws.specs.Shown.{Tied}
use Rattle.run_laws.specs.Sound.{IsSound, cut_world}
use Rattle.run_laws.specs.Standing.{WorldStands}
use Rattle.run_laws.proofs.CutAgrees.{cut_agrees}
use Rattle.run_laws.proofs.CutLoses.{cut_loses}
use Rattle.run_laws.proofs.Filled.{filled_once}
use Rattle.run_laws.proofs.Going.{first_sound, run_sound}
use Rattle.run_laws.proofs.Holding.{one_holder}
use Rattle.run_laws.proofs.Losing.{nothing_lost}
use Rattle.run_laws.proofs.Recorded.{recorded_is_meant}
use Rattle.run_laws.proofs.NextSteps.{next_steps}
use Rattle.run_laws.proofs.SentAgrees.{received}
use Rattle.run_laws.proofs.StandingSteps.{first_stands, runs_stand}
use Rattle.run_laws.proofs.Staying.{runs_stay}

-- what a world of whole packets promises, one that is cut from it does too
cut_safe : (job : JobOf) (v : WorldOf) → Tied job v → WorldIsRight job v → SafeWorld job (cut_world v)
cut_safe job v tied right = record {
  once = filled_once job v tied;
  values = λ i f e. received job v right i f e;
  holder = λ g a b p q. (
      let x : Holder v a g = record { node = p.node; sub = p.sub; up = p.up; live = p.live } in
      let y : Holder v b g = record { node = q.node; sub = q.sub; up = q.up; live = q.live } in
      one_holder job v tied g a b x y);
  outcome = λ o e. recorded_is_meant job v tied o e;
}

pub sound_safe : (job : JobOf) (w : WorldOf) → IsSound job w → SafeWorld job w
sound_safe job w s = subst (SafeWorld job) (sym s.from.cut) (cut_safe job s.whole s.tied s.right)

pub sound_agrees : (job : JobOf) (w : WorldOf) → IsSound job w → Agrees job w
sound_agrees job w s = subst (Agrees job) (sym s.from.cut) (cut_agrees job s.whole s.tied s.right s.from.kept)

pub sound_loses : (job : JobOf) (w : WorldOf) → IsSound job w → NothingLost w
sound_loses job w s = subst NothingLost (sym s.from.cut) (cut_loses s.whole (nothing_lost job s.whole s.tied))

module _ (job : JobOf) (ok : IsJob job) (d : Device) (entries : List Entry) (worlds : List WorldOf)
    (can : CanBegin job d) (runs : Runs job (first_over d) entries worlds) where
  pub sound : (w : WorldOf) → w ∈ (first_over d ∷ worlds) → IsSound job w
  sound w (inl same) = rw same (first_sound job d can)
  sound w (inr m) = run_sound job ok d entries worlds w can runs m

  -- one of its worlds by itself
  pub each_safe : (w : WorldOf) → w ∈ (first_over d ∷ worlds) → SafeWorld job w
  each_safe w m = sound_safe job w (sound w m)

  stands : (w : WorldOf) → w ∈ (first_over d ∷ worlds) → WorldStands w
  stands w (inl same) = rw same (first_stands d)
  stands w (inr m) = runs_stand job ok (first_over d) entries worlds runs (first_sound job d can) (first_stands d) w m

  pub all_safe : AllSafe job (first_over d ∷ worlds)
  all_safe = record {
    safe = record {
      each = λ i w e. each_safe w (got (first_over d ∷ worlds) i w e);
      stays = runs_stay job ok d entries worlds can runs;
    };
    agree = λ w m. sound_agrees job w (sound w m);
    none_lost = λ w m. sound_loses job w (sound w m);
    stand = stands;
    next = λ w m. next_steps job ok w (sound w m) (stands w m);
  }

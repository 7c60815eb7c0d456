-- What a start, a fall and a cut of the clearinghouse lead to is tied, and so is a first world.
use Rattle.std.proofs.Common.{◌≡◌, ℕ, ℤ, Bool, true, false, cond, not, ◌&&◌, List, [], Option, None, Some, is_some, refl, sym, ap, ◌∙◌, arith}
use Rattle.ids.specs.Names.{is_worker}
use Rattle.ids.specs.declared.outcome.Outcome.{Outcome}
use Rattle.serial_meaning.specs.Job.{IsJob, JobOf, meaning_of as job_meaning}
use Rattle.serial_meaning.specs.Places.{outcome_of}
use Rattle.content_laws.specs.Shown.{outcome_number}
use Rattle.node_state.specs.Node.{NodeOf}
use Rattle.node_steps.specs.Calls as call
use Rattle.table_laws.specs.View.{View}
use Rattle.table_laws.specs.Facts.{of_worker}
use Rattle.table_laws.specs.Runs.{at_start}
use Rattle.table_laws.specs.View as tables
use Rattle.world_steps.specs.Answers.{StepResult, Unfit, same, stepped}
use Rattle.world_steps.specs.Nodes.{starts}
use Rattle.world_steps.specs.Runs.{CanBegin}
use Rattle.world_steps.specs.Steps.{HouseEnds, HouseHalts, ThenCut, ThenStopped, house_crash, settled_by}
use Rattle.world_steps.specs.World.{Down, HouseAt, IsUp, WorldOf, first_over, is_used, node_in, with_used}
use Rattle.actor_laws.specs.house_moves.Steps.{tables_meaning}
use Rattle.actor_laws.specs.house_moves.Shows.{stored_of}
use Rattle.clearinghouse.specs.House.{Stopped}
use Rattle.clearinghouse.specs.declared.parts.Stop.TheVariants as by
use Rattle.disk.specs.Device.{Device}
use Rattle.disk.specs.File.{settled_file}
use Rattle.event_script.specs.declared.event.HouseEvent.{HouseEvent}
use Rattle.event_script.specs.declared.event.Cut.{Cut as CutOf}
use Rattle.run_laws.proofs.Disks.{settled_keeps}
use Rattle.run_laws.proofs.HouseEvents.{house_ends, house_halts}
use Rattle.run_laws.proofs.Stopping.{is_down, is_stopped, shut_tied}
use Rattle.run_laws.specs.Right.{WorldIsRight}
use Rattle.run_laws.specs.Shown.{Tied, TiedSince}
use Rattle.run_laws.proofs.Starting.{start_tied}

module _ (job : JobOf) (base : View) (w : WorldOf) (tied : TiedSince job base w) where
  pub starts_tied : (a word : ℕ) → TiedSince job base (starts job a word w).world
  unfolding of_worker
  starts_tied a word = by_word (is_worker word) refl
    where
      none_there : (o : Option NodeOf) → is_some o ≡ false → o ≡ None
      none_there None e = refl
      none_there (Some n) e = cc

      by_place : is_worker word ≡ true → is_used word w ≡ false → (b : Bool) → is_some (node_in a w.nodes) ≡ b
          → TiedSince job base (cond (not b) (stepped a (call.start job word) (with_used word w)) (same Unfit w)).world
      by_place worker unused true e = tied
      by_place worker unused false e = start_tied job base tied.view w tied.run tied.since tied.shown a word worker
          unused (none_there (node_in a w.nodes) e)

      by_use : is_worker word ≡ true → (b : Bool) → is_used word w ≡ b
          → TiedSince job base (cond (not b && not (is_some (node_in a w.nodes)))
          (stepped a (call.start job word) (with_used word w)) (same Unfit w)).world
      by_use worker true e = tied
      by_use worker false e = by_place worker e (is_some (node_in a w.nodes)) refl

      by_word : (b : Bool) → is_worker word ≡ b
          → TiedSince job base (cond (b && not (is_used word w) && not (is_some (node_in a w.nodes)))
          (stepped a (call.start job word) (with_used word w)) (same Unfit w)).world
      by_word false e = tied
      by_word true e = by_use e (is_used word w) refl

  pub falls_tied : (x : HouseAt) → w.house ≡ x → TiedSince job base (house_crash x w).world
  falls_tied Down is = tied
  falls_tied (IsUp state) is = shut_tied job base w tied Down
      (record w.disk { file = settled_file w.disk.file [] }) is_down (λ n r k. settled_keeps w.disk.file [] n r k)

  -- a call of the disk fails, and the clearinghouse is stopped
  pub stopped_tied : IsJob job → WorldIsRight job w → (e : HouseEvent) (k : ℕ) (bytes : List ℕ) (o : StepResult)
      → ThenStopped (HouseHalts job e w.house k bytes w) o → TiedSince job base o.world
  stopped_tied ok right e k bytes o (before, halts, is) =
      rw is (shut_tied job base before.world (house_halts job ok base w tied right e w.house refl k bytes before halts)
      (IsUp (Stopped by.Device)) before.world.disk (is_stopped by.Device) (λ n r kept. kept))

  -- an event ends, and then what isn't synced settles
  pub ended_tied : IsJob job → WorldIsRight job w → (c : CutOf) (o : StepResult)
      → ThenCut c.bytes (HouseEnds job c.event w.house w) o → TiedSince job base o.world
  ended_tied ok right c o (before, done, is) =
      rw is (shut_tied job base before.world (house_ends job ok base w tied right c.event w.house refl before done)
      (IsUp (Stopped by.Device)) (settled_by c.bytes before.world.disk) (is_stopped by.Device)
      (λ m r kept. settled_keeps before.world.disk.file c.bytes m r kept))

-- what an outcome of a job's meaning is in the tables
means_at_root : (job : JobOf) (o : Outcome) → o ≡ job_meaning job → outcome_number o ≡ (tables_meaning job).value []
means_at_root job o is = ap outcome_number is ∙ told ((tables_meaning job).value [])
  where
    told : (x : Option ℤ) → outcome_number (outcome_of x) ≡ x
    told None = refl
    told (Some n) = refl

-- the first world
pub first_tied : (job : JobOf) (d : Device) → CanBegin job d → Tied job (first_over d)
first_tied job d can = record {
  view = tables.first_over can.found.epoch (stored_of can.found.outcome);
  run = at_start can.found.epoch (stored_of can.found.outcome) (λ o e. meant can.found.outcome refl o e);
  shown = record {
    nodes = λ a n e. cc;
    workers = λ a n e. cc;
    started = λ a n e. cc;
    apart = λ a b n o e f same. cc;
    up = λ i works not_house. absurd works;
    words = λ i m of. absurd m;
    house = record { none = refl; nobody = λ i e. cc };
    disk = record {
      sequence = can.sequence;
      found = can.found;
      keeps = can.kept;
      own = can.own;
      stored = refl;
      epoch = omega arith;
      saved = can.saved;
      held = tt;
    };
    net = λ p m. absurd m;
    sent = λ t m. absurd m;
    fills = refl;
  };
}
  where
    meant : (x : Option Outcome) → can.found.outcome ≡ x → (o : Option ℤ) → stored_of x ≡ Some o
        → o ≡ (tables_meaning job).value []
    meant None e o is = cc
    meant (Some y) e o is = let same : outcome_number y ≡ o = cc in sym same ∙ means_at_root job y (can.meant y e)

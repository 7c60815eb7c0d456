-- Nothing is lost in a world that is tied.
use Rattle.std.proofs.Common.{◌≡◌, inl, inr, Option, None, Some, refl, subst}
use Rattle.serial_meaning.specs.Job.{JobOf}
use Rattle.clearinghouse.specs.House.{HouseOf, Open, Stopped}
use Rattle.clearinghouse.specs.declared.parts.RootGrant.{RootGrant}
use Rattle.table_laws.specs.View.{View}
use Rattle.table_laws.proofs.ValuesKept.{run_reached}
use Rattle.actor_laws.specs.house_moves.Shows.{OpenShown}
use Rattle.world_steps.specs.Lost.{NothingLost, NothingLostAt}
use Rattle.world_steps.specs.World.{Down, HouseAt, IsUp, WorldOf, open_house}
use Rattle.run_laws.specs.Shown.{HouseShown, Tied}
use Rattle.run_laws.proofs.Busy.{some_work}
use Rattle.run_laws.proofs.Coming.{found_there}

-- the open clearinghouse is shown
open_shown : (v : View) (house : HouseAt) (h : HouseOf) → HouseShown v house → open_house house ≡ Some h → OpenShown v h
open_shown v Down h s e = cc
open_shown v (IsUp (Open k)) h s e = let same : k ≡ h = cc in subst (λ x. OpenShown v x) same s.shown
open_shown v (IsUp (Stopped why)) h s e = cc

pub nothing_lost : (job : JobOf) (w : WorldOf) → Tied job w → NothingLost w
nothing_lost job w tied = by_house (open_house w.house) refl
  where
    by_root : (h : HouseOf) → OpenShown tied.view h → (o : Option RootGrant) → h.root ≡ o → NothingLostAt w (Some h)
    by_root h s None e = inr (inl e)
    by_root h s (Some r) e = inr (inr (record {
      found = found_there job tied.view w tied.shown (run_reached tied.run) h s;
      some = some_work job tied.view w tied.shown (run_reached tied.run) h s r e;
    }))

    by_house : (o : Option HouseOf) → open_house w.house ≡ o → NothingLostAt w o
    by_house None e = tt
    by_house (Some h) e = by_root h (open_shown tied.view w.house h tied.shown.house e) h.root refl

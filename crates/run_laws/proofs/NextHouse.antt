-- What an open clearinghouse does with a packet, and with a moment, as a step of the world.
use Rattle.std.proofs.Common.{◌≡◌, ℕ, Some, subst}
use Rattle.codec.specs.declared.body.Body.{Body}
use Rattle.serial_meaning.specs.Job.{JobOf}
use Rattle.clearinghouse.specs.Calls.{passes}
use Rattle.clearinghouse.specs.Cases.{on_packet}
use Rattle.clearinghouse.specs.House.{HouseOf, Open, Stopped, name_of}
use Rattle.clearinghouse.specs.Steps as house
use Rattle.event_script.specs.declared.event.Event.TheVariants.{AtHouse}
use Rattle.event_script.specs.declared.event.HouseEvent.TheVariants as at_house
use Rattle.table_laws.proofs.Lists.{some_same}
use Rattle.world_steps.specs.Answers.{StepResult}
use Rattle.world_steps.specs.Houses.{Ends}
use Rattle.world_steps.specs.Steps.{CarriedOut, HouseEnds}
use Rattle.world_steps.specs.World.{Down, HouseAt, IsUp, WorldOf, open_house}
use Rattle.run_laws.specs.Next.{IsPacket}

module _ (job : JobOf) (w : WorldOf) where
  pub house_does : (i : ℕ) (h : HouseOf) (x : Body) → open_house w.house ≡ Some h → (p : IsPacket job w i (name_of h) x)
      → (s : house.HouseStepOf) → on_packet job p.packet h ≡ house.Does s → (o : StepResult)
      → CarriedOut job (AtHouse (at_house.Deliver i)) w o → Ends job h (house.Does s) w o
  house_does i h x open_now p s answer o over = by_house w.house open_now over
    where
      by_house : (y : HouseAt) → open_house y ≡ Some h → HouseEnds job (at_house.Deliver i) y w o
          → Ends job h (house.Does s) w o
      by_house Down e ends = cc
      by_house (IsUp (Stopped why)) e ends = cc
      by_house (IsUp (Open k)) e ends =
          let one : k ≡ h = some_same e in
          let sent = p.sent in
          let first : Ends job k (on_packet job p.packet k) w o = rw sent at ends in
          let done : Ends job h (on_packet job p.packet h) w o =
          subst (λ (z : HouseOf). Ends job z (on_packet job p.packet z) w o) one first in
          subst (λ (z : house.HouseAnswer). Ends job h z w o) answer done

  pub moment_does : (now : ℕ) (h : HouseOf) → open_house w.house ≡ Some h → (o : StepResult)
      → CarriedOut job (AtHouse (at_house.Tick now)) w o → Ends job h (house.Does (passes job now h)) w o
  moment_does now h open_now o over = by_house w.house open_now over
    where
      by_house : (y : HouseAt) → open_house y ≡ Some h → HouseEnds job (at_house.Tick now) y w o
          → Ends job h (house.Does (passes job now h)) w o
      by_house Down e ends = cc
      by_house (IsUp (Stopped why)) e ends = cc
      by_house (IsUp (Open k)) e ends = subst (λ (z : HouseOf). Ends job z (house.Does (passes job now z)) w o)
          (some_same e) ends

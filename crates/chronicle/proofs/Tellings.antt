-- An outcome that is told of a step is recorded after it.
use Rattle.std.proofs.Common.{◌≡◌, inl, inr, ℕ, Bool, true, false, cond, List, Option, None, Some, refl, sym, ap, ◌∙◌}
use Rattle.ids.specs.declared.outcome.Outcome.{Outcome}
use Rattle.codec.specs.Table.{PacketOf}
use Rattle.serial_meaning.specs.Job.{JobOf}
use Rattle.node_state.specs.Node.{NodeOf}
use Rattle.node_steps.specs.Calls as call
use Rattle.node_steps.specs.Cases.{Candidate, on_packet}
use Rattle.node_steps.specs.Steps as node
use Rattle.clearinghouse.specs.House.{HouseOf, Open, Stopped}
use Rattle.clearinghouse.specs.Steps as house
use Rattle.event_script.specs.declared.event.Event.{Event}
use Rattle.event_script.specs.declared.event.Event.TheVariants.{Start, AtNode, Crash, AtHouse, HouseCrash, Cut}
use Rattle.event_script.specs.declared.event.HouseEvent.{HouseEvent}
use Rattle.event_script.specs.declared.event.HouseEvent.TheVariants.{Deliver, Tick, Restart}
use Rattle.event_script.specs.declared.event.NodeEvent.{NodeEvent}
use Rattle.event_script.specs.declared.event.NodeEvent.TheVariants as at
use Rattle.world_steps.specs.Answers.{WorldAnswer, Unfit, Ignored, Refused, Did, House, StepResult, answered, same, stepped, with_some}
use Rattle.world_steps.specs.Calls.{told_of}
use Rattle.world_steps.specs.Houses.{Ends, Halts, RestartHalts, Restarts, house_answer}
use Rattle.world_steps.specs.Nodes.{at_node, can_start, grant_of, starts, victim_of}
use Rattle.world_steps.specs.Steps.{CarriedOut, DeviceFails, HouseEnds, HouseHalts, IfApplies, Step, house_crash, stopped_answer}
use Rattle.world_steps.specs.World.{Down, HouseAt, IsUp, WorldOf, node_in, recorded, with_used}
use Rattle.chronicle.specs.History.{outcome_told}

-- what is told of an answer is recorded in its world
record Recorded (o : StepResult) : Type 0 where
  pub recorded_is : (x : Outcome) → outcome_told (told_of o.answer) ≡ Some x → recorded o.world ≡ Some x

-- nothing is told
silent : (o : StepResult) → outcome_told (told_of o.answer) ≡ None → Recorded o
silent o none = record { recorded_is = λ x is. (let no : None ≡ Some x = sym none ∙ is in absurd cc) }

silent_as : (o p : StepResult) → o ≡ p → outcome_told (told_of p.answer) ≡ None → Recorded o
silent_as o p is none = silent o (ap (λ (q : StepResult). outcome_told (told_of q.answer)) is ∙ none)

-- what is told is what is recorded
spoken : (o : StepResult) → outcome_told (told_of o.answer) ≡ recorded o.world → Recorded o
spoken o tells = record { recorded_is = λ x is. sym tells ∙ is }

spoken_as : (o p : StepResult) → o ≡ p → outcome_told (told_of p.answer) ≡ recorded p.world → Recorded o
spoken_as o p is tells = spoken o (ap (λ (q : StepResult). outcome_told (told_of q.answer)) is
    ∙ (tells ∙ sym (ap (λ (q : StepResult). recorded q.world) is)))

-- nodes tell none

abbrev Silent : StepResult → Type 0
Silent o = outcome_told (told_of o.answer) ≡ None

by_some : {A : Type 0} (a : Option A) (w : WorldOf) (f : A → StepResult) → ((x : A) → Silent (f x))
    → Silent (with_some a w f)
unfolding with_some
by_some None w f each = refl
by_some (Some x) w f each = each x

answered_silent : (a : ℕ) (r : node.Answer) (w : WorldOf) → Silent (answered a r w)
answered_silent a node.Ignored w = refl
answered_silent a (node.Refused e) w = refl
answered_silent a (node.Does s) w = refl
answered_silent a (node.Forgets m) w = refl

at_node_silent : (job : JobOf) (choice : Option Candidate) (a : ℕ) (e : NodeEvent) (n : NodeOf) (w : WorldOf)
    → Silent (at_node job choice a e n w)
at_node_silent job choice a (at.Deliver i) n w =
    by_some _ w (λ (p : PacketOf). answered a (on_packet job choice p n) w)
    (λ p. answered_silent a (on_packet job choice p n) w)
at_node_silent job choice a (at.Exec f) n w = answered_silent a (call.exec_ready job (grant_of f) f.frame n) w
at_node_silent job choice a (at.Whole f most) n w =
    answered_silent a (call.whole_ready job most (grant_of f) f.frame n) w
at_node_silent job choice a (at.Ask v) n w = answered_silent a (call.ask job (victim_of v) n) w
at_node_silent job choice a at.Resend n w = answered_silent a (call.resend job n) w
at_node_silent job choice a (at.Depart heir) n w = answered_silent a (call.depart job heir n) w

starts_silent : (job : JobOf) (a word : ℕ) (w : WorldOf) → Silent (starts job a word w)
starts_silent job a word w =
    elim (can_start a word w) as (λ (b : Bool). Silent
    (cond b (stepped a (call.start job word) (with_used word w)) (same Unfit w))) [ true ↦ refl | false ↦ refl ]

-- the clearinghouse

module _ (job : JobOf) where
  ends_recorded : (h : HouseOf) (a : house.HouseAnswer) (w : WorldOf) (o : StepResult) → Ends job h a w o → Recorded o
  ends_recorded h house.Ignored w o is = spoken_as o _ is refl
  ends_recorded h (house.Refused e) w o is = spoken_as o _ is refl
  ends_recorded h (house.Does s) w o (calls, makes, is) = spoken_as o _ is refl

  halts_recorded : (h : HouseOf) (a : house.HouseAnswer) (k : ℕ) (bytes : List ℕ) (w : WorldOf) (o : StepResult)
      → Halts job h a k bytes w o → Recorded o
  halts_recorded h house.Ignored k bytes w o never = absurd never
  halts_recorded h (house.Refused e) k bytes w o never = absurd never
  halts_recorded h (house.Does s) k bytes w o (calls, makes, few, is) = spoken_as o _ is refl

  restarts_recorded : (w : WorldOf) (o : StepResult) → Restarts job w o → Recorded o
  restarts_recorded w o (inl (way, is)) = spoken_as o _ is refl
  restarts_recorded w o (inr (e, refused, is)) = spoken_as o _ is refl

  restart_halts_recorded : (k : ℕ) (bytes : List ℕ) (w : WorldOf) (o : StepResult) → RestartHalts job k bytes w o
      → Recorded o
  restart_halts_recorded k bytes w o (calls, which, few, is) = spoken_as o _ is refl

  applied : (P : house.HouseAnswer → Type 0) (unfit : Type 0) (a : Option house.HouseAnswer) (o : StepResult)
      → IfApplies job P unfit a → ((x : house.HouseAnswer) → P x → Recorded o) → (unfit → Recorded o) → Recorded o
  applied P unfit None o is each other = other is
  applied P unfit (Some x) o is each other = each x is

  open_recorded : (e : HouseEvent) (h : HouseOf) (w : WorldOf) (o : StepResult) → HouseEnds job e (IsUp (Open h)) w o
      → Recorded o
  open_recorded e h w o is = applied _ _ (house_answer job e h w) o is (λ a. ends_recorded h a w o)
      (λ unfit. spoken_as o _ unfit refl)

  house_recorded : (e : HouseEvent) (at : HouseAt) (w : WorldOf) (o : StepResult) → HouseEnds job e at w o → Recorded o
  house_recorded e (IsUp (Open h)) w o is = open_recorded e h w o is
  house_recorded Restart (IsUp (Stopped s)) w o is = restarts_recorded w o is
  house_recorded Restart Down w o is = restarts_recorded w o is
  house_recorded (Deliver i) (IsUp (Stopped s)) w o is = spoken_as o _ is refl
  house_recorded (Deliver i) Down w o is = spoken_as o _ is refl
  house_recorded (Tick t) (IsUp (Stopped s)) w o is = spoken_as o _ is refl
  house_recorded (Tick t) Down w o is = spoken_as o _ is refl

  house_halts_recorded : (e : HouseEvent) (at : HouseAt) (k : ℕ) (bytes : List ℕ) (w : WorldOf) (o : StepResult)
      → HouseHalts job e at k bytes w o → Recorded o
  house_halts_recorded e (IsUp (Open h)) k bytes w o is =
      applied _ _ (house_answer job e h w) o is (λ a. halts_recorded h a k bytes w o) (λ never. absurd never)
  house_halts_recorded Restart (IsUp (Stopped s)) k bytes w o is = restart_halts_recorded k bytes w o is
  house_halts_recorded Restart Down k bytes w o is = restart_halts_recorded k bytes w o is
  house_halts_recorded (Deliver i) (IsUp (Stopped s)) k bytes w o never = absurd never
  house_halts_recorded (Deliver i) Down k bytes w o never = absurd never
  house_halts_recorded (Tick t) (IsUp (Stopped s)) k bytes w o never = absurd never
  house_halts_recorded (Tick t) Down k bytes w o never = absurd never

  -- behind a Cut none is told
  stopped_silent : (a : WorldAnswer) → outcome_told (told_of (stopped_answer a)) ≡ None
  stopped_silent Unfit = refl
  stopped_silent Ignored = refl
  stopped_silent (Refused e) = refl
  stopped_silent (Did sent fills) = refl
  stopped_silent (House e sent outcome) = refl

  crash_recorded : (h : HouseAt) (w : WorldOf) (o : StepResult) → o ≡ house_crash h w → Recorded o
  crash_recorded Down w o is = spoken_as o _ is refl
  crash_recorded (IsUp state) w o is = spoken_as o _ is refl

  carried_recorded : (e : Event) (w : WorldOf) (o : StepResult) → CarriedOut job e w o → Recorded o
  carried_recorded (Start a word) w o is = silent_as o _ is (starts_silent job a word w)
  carried_recorded (AtNode a e) w o (choice, allowed, is) =
      silent_as o _ is (by_some (node_in a w.nodes) w (λ n. at_node job choice a e n w)
      (λ n. at_node_silent job choice a e n w))
  carried_recorded (Crash a) w o is = silent_as o _ is (by_some (node_in a w.nodes) w _ (λ n. refl))
  carried_recorded (AtHouse e) w o is = house_recorded e w.house w o is
  carried_recorded HouseCrash w o is = crash_recorded w.house w o is
  carried_recorded (Cut c) w o (inl (unfit, is)) = spoken_as o _ is refl
  carried_recorded (Cut c) w o (inr (can, applies, inl (n, makes, few, (before, ends, is)))) =
      silent_as o _ is (stopped_silent before.answer)
  carried_recorded (Cut c) w o (inr (can, applies, inr (before, halts, is))) =
      silent_as o _ is (stopped_silent before.answer)

  failing_recorded : (e : Event) (w : WorldOf) (o : StepResult) → DeviceFails job e w o → Recorded o
  failing_recorded (AtHouse e) w o (k, bytes, alone, is) = house_halts_recorded e w.house k bytes w o is
  failing_recorded (Cut c) w o (can, restart, k, first, some, (before, halts, is)) =
      silent_as o _ is (stopped_silent before.answer)
  failing_recorded (Start a word) w o never = absurd never
  failing_recorded (AtNode a e) w o never = absurd never
  failing_recorded (Crash a) w o never = absurd never
  failing_recorded HouseCrash w o never = absurd never

  step_recorded : (e : Event) (w : WorldOf) (o : StepResult) → Step job e w o → Recorded o
  step_recorded e w o (inl is) = carried_recorded e w o is
  step_recorded e w o (inr is) = failing_recorded e w o is

pub told_recorded : (job : JobOf) (e : Event) (w : WorldOf) (o : StepResult) → Step job e w o → (x : Outcome)
    → outcome_told (told_of o.answer) ≡ Some x → recorded o.world ≡ Some x
told_recorded job e w o step x is = (step_recorded job e w o step).recorded_is x is

-- What happens in a world keeps it right by value.
use Rattle.std.proofs.Common.{◌≡◌, ℕ, Bool, true, false, cond, ◌&&◌, List, [], ◌++◌, inl, inr, ⊎_elim, Option, None, Some, slice_get, nat_eq, refl}
use Rattle.codec.specs.Table.{PacketOf}
use Rattle.codec.specs.declared.body.Body.{Body}
use Rattle.codec.specs.declared.body.Body.TheVariants as body
use Rattle.disk.specs.Device.{Device}
use Rattle.disk.specs.File.{bytes_of}
use Rattle.serial_meaning.specs.Job.{JobOf, IsJob}
use Rattle.clearinghouse.specs.Calls.{begins, passes}
use Rattle.clearinghouse.specs.Cases as house_cases
use Rattle.clearinghouse.specs.House.{HouseOf, Open, Stopped}
use Rattle.clearinghouse.specs.Meeting.{begun_of}
use Rattle.clearinghouse.specs.Steps as house
use Rattle.clearinghouse.specs.declared.parts.Stop.TheVariants as by
use Rattle.node_state.specs.Node.{NodeOf, by_state}
use Rattle.node_state.specs.declared.parts.State.{State as Stage}
use Rattle.node_state.specs.declared.parts.State.TheVariants.{Joining, Member, Leaving, Ended}
use Rattle.node_steps.specs.Calls as call
use Rattle.node_steps.specs.Cases.{Candidate, on_body, on_packet}
use Rattle.node_steps.specs.Steps as node
use Rattle.event_script.specs.declared.event.Cut.{Cut as CutOf}
use Rattle.event_script.specs.declared.event.HouseEvent.{HouseEvent}
use Rattle.event_script.specs.declared.event.HouseEvent.TheVariants as at_house
use Rattle.table_laws.specs.Tables.{◌∈◌}
use Rattle.table_laws.specs.View.{Works}
use Rattle.table_laws.proofs.Among.{got}
use Rattle.table_laws.proofs.Lists.{either}
use Rattle.actor_laws.specs.node_moves.Shows.{mode_of, BodyShown}
use Rattle.actor_laws.specs.actor_agreement.Values as actor
use Rattle.actor_laws.specs.actor_agreement.Values.{AllRight, AnswerIsRight, BodyIsRight, HouseAnswerIsRight, BodyMayCome, NodeIsRight, StepIsRight}
use Rattle.actor_laws.proofs.actor_agreement.House.{passes_right}
use Rattle.actor_laws.proofs.actor_agreement.House.{packet_right as house_packet_right}
use Rattle.actor_laws.proofs.actor_agreement.Sent.{both_sent, none_sent}
use Rattle.actor_laws.proofs.actor_agreement.Table.{packet_right, start_right}
use Rattle.world_steps.specs.Answers.{StepResult, Unfit, answered, house_same, same, stepped}
use Rattle.world_steps.specs.Houses.{Ends, Halts, RestartHalts, Restarts, silence}
use Rattle.world_steps.specs.Nodes.{can_start, starts}
use Rattle.world_steps.specs.Steps.{HouseEnds, HouseHalts, ThenCut, ThenStopped, house_crash, settled_by}
use Rattle.world_steps.specs.World.{Down, HouseAt, IsUp, WorldOf, first_over, node_in, with_used, without_node}
use Rattle.run_laws.specs.Shown.{Tied}
use Rattle.run_laws.proofs.Below.{read_below}
use Rattle.run_laws.proofs.HouseEvents.{may_save}
use Rattle.run_laws.proofs.Opening.{read_saved}
use Rattle.run_laws.proofs.Places.{left_there, new_or_old}
use Rattle.run_laws.specs.Right.{HouseIsRight, WorldIsRight}
use Rattle.run_laws.proofs.Results.{fresh_there, outcome_there}

-- a first world
pub first_right : (job : JobOf) (d : Device) → WorldIsRight job (first_over d)
first_right job d = record { nodes = λ a n e. cc; house = tt; net = λ p m. absurd m; fills = λ f m. absurd m }

-- what is as it was, but for the clearinghouse, its disk, and more packets
housed : (job : JobOf) (w : WorldOf) → WorldIsRight job w → (house : HouseAt) (d : Device) (sent : List PacketOf)
    → HouseIsRight job house → AllRight job sent
    → WorldIsRight job (record w { house = house; disk = d; net = w.net ++ sent })
housed job w right house d sent answers all =
    record { nodes = right.nodes; house = answers; net = both_sent job w.net sent right.net all; fills = right.fills }

-- no more packets
shut : (job : JobOf) (w : WorldOf) → WorldIsRight job w → (house : HouseAt) (d : Device)
    → HouseIsRight job house → WorldIsRight job (record w { house = house; disk = d })
shut job w right house d answers = record { nodes = right.nodes; house = answers; net = right.net; fills = right.fills }

-- an ended node ignores all
ended_ignores_body : (job : JobOf) (choice : Option Candidate) (n : NodeOf) → n.state ≡ Ended → (b : Body)
    → AnswerIsRight job (on_body job choice b n)
unfolding on_body by_state
ended_ignores_body job choice n is (body.Join b) = tt
ended_ignores_body job choice n is (body.Roster b) = rw is tt
ended_ignores_body job choice n is (body.Steal b) = rw is tt
ended_ignores_body job choice n is (body.Grant b) = rw is tt
ended_ignores_body job choice n is (body.Refuse b) = rw is tt
ended_ignores_body job choice n is (body.Result b) = rw is tt
ended_ignores_body job choice n is (body.ResultAck b) = rw is tt
ended_ignores_body job choice n is (body.Offer b) = rw is tt
ended_ignores_body job choice n is (body.OfferAck b) = rw is tt
ended_ignores_body job choice n is (body.Leave b) = tt
ended_ignores_body job choice n is (body.Abort b) = rw is tt
ended_ignores_body job choice n is (body.Beat b) = tt
ended_ignores_body job choice n is (body.Piece b) = rw is tt
ended_ignores_body job choice n is (body.Save b) = tt

ended_ignores : (job : JobOf) (choice : Option Candidate) (n : NodeOf) → n.state ≡ Ended → (p : PacketOf)
    → AnswerIsRight job (on_packet job choice p n)
unfolding on_packet
ended_ignores job choice n is p = by_address (nat_eq p.job job.number && nat_eq p.to n.incarnation)
  where
    by_address : (b : Bool) → AnswerIsRight job (cond b (on_body job choice p.body n) node.Ignored)
    by_address true = ended_ignores_body job choice n is p.body
    by_address false = tt

module _ (job : JobOf) (w : WorldOf) (ok : IsJob job) (tied : Tied job w) (right : WorldIsRight job w) where
  -- the last answers of the open clearinghouse, and what it has saved
  own_house : (h : HouseOf) → w.house ≡ IsUp (Open h) → actor.HouseIsRight job h
  own_house h is = let r = right.house in rw is at r

  -- it stops, and nothing is sent
  stops_right : (d : Device) → WorldIsRight job
      (record w { house = IsUp (Stopped by.Device); disk = d; net = w.net ++ [] })
  stops_right d = housed job w right (IsUp (Stopped by.Device)) d [] tt (none_sent job)

  module _ (a : ℕ) where
    -- a step of the node there
    stepped_right : (s : node.StepOf) (used : List ℕ) → StepIsRight job s
        → WorldIsRight job (stepped a s (record w { used = used })).world
    stepped_right s used k = record {
      nodes = λ b n at. ⊎_elim (λ new. rw (new.1) k.after) (λ old. right.nodes b n old.1)
          (new_or_old a b s.after n w.nodes at);
      house = right.house;
      net = both_sent job w.net s.sent right.net k.sent;
      fills = λ f m. ⊎_elim (λ old. right.fills f old) (λ new. k.fills f new) (either w.fills s.fills f m);
    }

    pub answered_right : (ans : node.Answer) → AnswerIsRight job ans → WorldIsRight job (answered a ans w).world
    answered_right node.Ignored k = right
    answered_right (node.Refused e) k = right
    answered_right (node.Does s) k = stepped_right s w.used k
    answered_right (node.Forgets m) k = record {
      nodes = λ b n at. ⊎_elim (λ new. rw (new.1) k) (λ old. right.nodes b n old.1) (new_or_old a b m n w.nodes at);
      house = right.house;
      net = right.net;
      fills = right.fills;
    }

  -- what comes to a node
  module _ (a : ℕ) (n : NodeOf) (there : node_in a w.nodes ≡ Some n) where
    own : NodeIsRight job n
    own = right.nodes a n there

    -- a packet that was sent may come, a Result among them
    may_come : Works (mode_of n.state) → (b : Body) (to : ℕ) → BodyIsRight job b → BodyShown tied.view to b
        → BodyMayCome job n b
    may_come up (body.Result b) to r s = outcome_there job tied.view tied.run n (tied.shown.nodes a n there) up b to s
    may_come up (body.Grant b) to r s = r
    may_come up (body.Offer b) to r s = r
    may_come up (body.Join b) to r s = tt
    may_come up (body.Roster b) to r s = tt
    may_come up (body.Steal b) to r s = tt
    may_come up (body.Refuse b) to r s = tt
    may_come up (body.ResultAck b) to r s = tt
    may_come up (body.OfferAck b) to r s = tt
    may_come up (body.Leave b) to r s = tt
    may_come up (body.Abort b) to r s = tt
    may_come up (body.Beat b) to r s = tt
    may_come up (body.Piece b) to r s = absurd s
    may_come up (body.Save b) to r s = r

    pub hears_right : (choice : Option Candidate) (p : PacketOf) → p ∈ w.net
        → AnswerIsRight job (on_packet job choice p n)
    hears_right choice p m = by_stage n.state refl
      where
        works : Works (mode_of n.state) → AnswerIsRight job (on_packet job choice p n)
        works up = packet_right job n own choice p (may_come up p.body p.to (right.net p m) (tied.shown.net p m))
            (fresh_there job tied.view tied.run n (tied.shown.nodes a n there) up)

        by_stage : (x : Stage) → n.state ≡ x → AnswerIsRight job (on_packet job choice p n)
        by_stage Joining is = works (rw is tt)
        by_stage (Member r) is = works (rw is tt)
        by_stage (Leaving r heir) is = works (rw is tt)
        by_stage Ended is = ended_ignores job choice n is p

  pub starts_right : (a word : ℕ) → WorldIsRight job (starts job a word w).world
  starts_right a word = by_word (can_start a word w)
    where
      by_word : (b : Bool) → WorldIsRight job
          (cond b (stepped a (call.start job word) (with_used word w)) (same Unfit w)).world
      by_word true = stepped_right a (call.start job word) (with_used word w).used (start_right job word)
      by_word false = right

  pub crashes_right : (a : ℕ) → WorldIsRight job (record w { nodes = without_node a w.nodes })
  crashes_right a = record {
    nodes = λ b n at. right.nodes b n (left_there a b n w.nodes at).1;
    house = right.house;
    net = right.net;
    fills = right.fills;
  }

  -- what an open clearinghouse answers
  ends_right : (h : HouseOf) (a : house.HouseAnswer) → HouseAnswerIsRight job a → (o : StepResult) → Ends job h a w o
      → WorldIsRight job o.world
  ends_right h house.Ignored k o e = rw e right
  ends_right h (house.Refused f) k o e = rw e right
  ends_right h (house.Does s) k o e = rw (e.2) (housed job w right (IsUp (Open s.after)) _ s.sent k.after k.sent)

  halts_right : (h : HouseOf) (a : house.HouseAnswer) (k : ℕ) (bytes : List ℕ) (o : StepResult)
      → Halts job h a k bytes w o → WorldIsRight job o.world
  halts_right h house.Ignored k bytes o e = absurd e
  halts_right h (house.Refused f) k bytes o e = absurd e
  halts_right h (house.Does s) k bytes o e = rw (e.3) (stops_right _)

  open_ends : (e : HouseEvent) (h : HouseOf) → w.house ≡ IsUp (Open h) → (o : StepResult)
      → HouseEnds job e (IsUp (Open h)) w o → WorldIsRight job o.world
  open_ends (at_house.Deliver i) h is o ends = by_packet (slice_get w.net i) refl
    where
      by_packet : (q : Option PacketOf) → slice_get w.net i ≡ q → WorldIsRight job o.world
      by_packet None e = let same : o ≡ house_same None w = rw e at ends in rw same right
      by_packet (Some p) e = let done : Ends job h (house_cases.on_packet job p h) w o =
          rw e at ends in ends_right h (house_cases.on_packet job p h)
          (house_packet_right job h (own_house h is) ok p (may_save job p.body (right.net p (got w.net i p e)))) o done
  open_ends (at_house.Tick now) h is o ends =
      ends_right h (house.Does (passes job now h)) (passes_right job h (own_house h is) now) o ends
  open_ends at_house.Restart h is o ends = rw ends right

  open_halts : (e : HouseEvent) (h : HouseOf) (k : ℕ) (bytes : List ℕ) (o : StepResult)
      → HouseHalts job e (IsUp (Open h)) k bytes w o → WorldIsRight job o.world
  open_halts (at_house.Deliver i) h k bytes o halts = by_packet (slice_get w.net i) refl
    where
      by_packet : (q : Option PacketOf) → slice_get w.net i ≡ q → WorldIsRight job o.world
      by_packet None e = let never : ⊥ = rw e at halts in absurd never
      by_packet (Some p) e = let done : Halts job h (house_cases.on_packet job p h) k bytes w o =
          rw e at halts in halts_right h (house_cases.on_packet job p h) k bytes o done
  open_halts (at_house.Tick now) h k bytes o halts = halts_right h (house.Does (passes job now h)) k bytes o halts
  open_halts at_house.Restart h k bytes o halts = absurd halts

  -- an opening begins with no answers
  restarts_right : (o : StepResult) → Restarts job w o → WorldIsRight job o.world
  restarts_right o (inl (way, e)) = rw e
      (housed job w right (IsUp (Open (begins silence (begun_of way.way)).after)) _ [] (
        (λ r m. absurd m),
        read_saved job tied.view w tied.shown way.way,
        read_below (bytes_of w.disk.file) way.way.sequence way.way.found way.way.reads,
      ) (none_sent job))
  restarts_right o (inr (f, refused, e)) = rw e (shut job w right w.house _ right.house)

  restart_halts_right : (k : ℕ) (bytes : List ℕ) (o : StepResult) → RestartHalts job k bytes w o
      → WorldIsRight job o.world
  restart_halts_right k bytes o (calls, why, within, e) = rw e (stops_right _)

  pub house_ends : (e : HouseEvent) (x : HouseAt) → w.house ≡ x → (o : StepResult) → HouseEnds job e x w o
      → WorldIsRight job o.world
  house_ends e (IsUp (Open h)) is o ends = open_ends e h is o ends
  house_ends (at_house.Deliver i) (IsUp (Stopped s)) is o ends = rw ends right
  house_ends (at_house.Tick now) (IsUp (Stopped s)) is o ends = rw ends right
  house_ends at_house.Restart (IsUp (Stopped s)) is o ends = restarts_right o ends
  house_ends (at_house.Deliver i) Down is o ends = rw ends right
  house_ends (at_house.Tick now) Down is o ends = rw ends right
  house_ends at_house.Restart Down is o ends = restarts_right o ends

  pub house_halts : (e : HouseEvent) (x : HouseAt) (k : ℕ) (bytes : List ℕ) (o : StepResult)
      → HouseHalts job e x k bytes w o → WorldIsRight job o.world
  house_halts e (IsUp (Open h)) k bytes o halts = open_halts e h k bytes o halts
  house_halts (at_house.Deliver i) (IsUp (Stopped s)) k bytes o halts = absurd halts
  house_halts (at_house.Tick now) (IsUp (Stopped s)) k bytes o halts = absurd halts
  house_halts at_house.Restart (IsUp (Stopped s)) k bytes o halts = restart_halts_right k bytes o halts
  house_halts (at_house.Deliver i) Down k bytes o halts = absurd halts
  house_halts (at_house.Tick now) Down k bytes o halts = absurd halts
  house_halts at_house.Restart Down k bytes o halts = restart_halts_right k bytes o halts

  pub falls_right : (x : HouseAt) → WorldIsRight job (house_crash x w).world
  falls_right Down = right
  falls_right (IsUp state) = shut job w right Down _ tt

  -- a Cut
  pub stopped_right : (e : HouseEvent) (k : ℕ) (bytes : List ℕ) (o : StepResult)
      → ThenStopped (HouseHalts job e w.house k bytes w) o → WorldIsRight job o.world
  stopped_right e k bytes o (before, halts, is) =
      rw is (shut job before.world (house_halts e w.house k bytes before halts)
      (IsUp (Stopped by.Device)) before.world.disk tt)

  pub ended_right : (c : CutOf) (o : StepResult) → ThenCut c.bytes (HouseEnds job c.event w.house w) o
      → WorldIsRight job o.world
  ended_right c o (before, done, is) =
      rw is (shut job before.world (house_ends c.event w.house refl before done) (IsUp (Stopped by.Device))
      (settled_by c.bytes before.world.disk) tt)

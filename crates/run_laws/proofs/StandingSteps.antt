-- Each step leads from a world in which nobody waits for somebody who is gone to one: at a node, or
-- the clearinghouse.
use Rattle.std.proofs.Common.{◌≡◌, ℕ, Bool, true, false, cond, ◌&&◌, List, [], ◌++◌, ◌⊎◌, inl, inr, ⊎_elim, Option, None, Some, slice_get, nat_eq, refl, subst, arith}
use Rattle.codec.specs.Pieces.{cut_all}
use Rattle.codec.specs.Table.{PacketOf}
use Rattle.codec.specs.declared.body.Body.{Body}
use Rattle.codec.specs.declared.body.Body.TheVariants as body
use Rattle.disk.specs.Device.{Device}
use Rattle.serial_meaning.specs.Job.{JobOf, IsJob}
use Rattle.clearinghouse.specs.Calls.{begins, passes}
use Rattle.clearinghouse.specs.Cases as house_cases
use Rattle.clearinghouse.specs.House.{HouseOf, Open, Stopped}
use Rattle.clearinghouse.specs.Meeting.{begun_of}
use Rattle.clearinghouse.specs.Steps as house
use Rattle.clearinghouse.specs.declared.parts.Stop.TheVariants as by
use Rattle.node_state.specs.Node.{NodeOf, by_state}
use Rattle.node_state.specs.declared.parts.State.{State as Stage}
use Rattle.node_state.specs.declared.parts.State.TheVariants.{Joining, Member, Leaving, Ended}
use Rattle.node_steps.specs.Calls as call
use Rattle.node_steps.specs.Cases.{Candidate, on_body, on_packet}
use Rattle.node_steps.specs.Steps as node
use Rattle.event_script.specs.declared.event.Cut.{Cut as CutOf}
use Rattle.event_script.specs.declared.event.Event.{Event}
use Rattle.event_script.specs.declared.event.Event.TheVariants.{Start, AtNode, Crash, AtHouse, HouseCrash, Cut}
use Rattle.event_script.specs.declared.event.HouseEvent.{HouseEvent}
use Rattle.event_script.specs.declared.event.HouseEvent.TheVariants as at_house
use Rattle.event_script.specs.declared.event.NodeEvent.{NodeEvent}
use Rattle.event_script.specs.declared.event.NodeEvent.TheVariants.{Deliver, Exec, Whole, Ask, Resend, Depart}
use Rattle.table_laws.specs.Tables.{◌∈◌}
use Rattle.table_laws.specs.View.{Works}
use Rattle.table_laws.proofs.Among.{got}
use Rattle.table_laws.proofs.Lists.{some_same}
use Rattle.actor_laws.specs.node_moves.Shows.{NodeShown, mode_of}
use Rattle.actor_laws.specs.house_moves.Steps.{tables_meaning}
use Rattle.world_steps.specs.Answers.{StepResult, Unfit, answered, house_same, same, stepped, with_some}
use Rattle.world_steps.specs.Houses.{Ends, Halts, RestartHalts, Restarts, silence}
use Rattle.world_steps.specs.Nodes.{at_node, can_start, grant_of, starts, victim_of}
use Rattle.world_steps.specs.Runs.{Entry, Runs, ends, goes}
use Rattle.world_steps.specs.Steps.{HouseEnds, HouseHalts, IsCut, Step, ThenCut, ThenStopped, house_crash, settled_by}
use Rattle.world_steps.specs.World.{Down, HouseAt, IsUp, WorldOf, first_over, node_in, open_house, with_used, without_node}
use Rattle.actor_laws.specs.whole_offers.Kept.{NodeKept}
use Rattle.actor_laws.specs.whole_offers.Whole.{OneOffer}
use Rattle.run_laws.specs.Shown.{Tied}
use Rattle.run_laws.specs.Sound.{IsSound, cut_world, sound_here, sound_of}
use Rattle.run_laws.specs.Standing.{WorldStands}
use Rattle.run_laws.proofs.Going.{step_sound}
use Rattle.run_laws.proofs.Places.{left_there, new_or_old}
use Rattle.run_laws.proofs.StandingApart.{comes_apart}
use Rattle.actor_laws.specs.standing.Lasting.{AnswerLasts, NodeLasts}
use Rattle.actor_laws.specs.standing.Root.{HouseAnswerStands, RootStands}
use Rattle.actor_laws.specs.standing.Standing.{AnswerStands, NodeStands}
use Rattle.actor_laws.proofs.standing.HouseRows.{moment_stands, root_stands}
use Rattle.actor_laws.proofs.standing.Lasting.{ask_lasts, depart_lasts, exec_ready_lasts, packet_lasts, resend_lasts, start_lasts, whole_ready_lasts}
use Rattle.actor_laws.proofs.standing.Rows.{ask_stand, body_stands, depart_stand, exec_ready_stand, resend_stand, start_stands, whole_ready_stand}

pub first_stands : (d : Device) → WorldStands (first_over d)
first_stands d = record { waits = λ a n e. cc; lasts = λ a n e. cc; root = λ h e. cc }

-- of the clearinghouse of a world, if it is open
abbrev RootAt : HouseAt → Type 0
RootAt house = (h : HouseOf) → open_house house ≡ Some h → RootStands h

closed_down : RootAt Down
closed_down h e = cc

closed_stopped : RootAt (IsUp (Stopped by.Device))
closed_stopped h e = cc

opened_root : (h : HouseOf) → RootStands h → RootAt (IsUp (Open h))
opened_root h stands k e = subst RootStands (some_same e) stands

none_out : (h : HouseOf) → h.root ≡ None → RootStands h
none_out h none r out = cc

-- with another clearinghouse
with_house : (x : WorldOf) → WorldStands x → (house : HouseAt) (d : Device) → RootAt house
    → WorldStands (record x { house = house; disk = d })
with_house x stands house d root = record { waits = stands.waits; lasts = stands.lasts; root = root }

-- a node that has ended ignores all
ended_ignores : (job : JobOf) (choice : Option Candidate) (n : NodeOf) → n.state ≡ Ended → (b : Body)
    → AnswerStands (on_body job choice b n)
unfolding on_body by_state
ended_ignores job choice n is (body.Join b) = tt
ended_ignores job choice n is (body.Roster b) = rw is tt
ended_ignores job choice n is (body.Steal b) = rw is tt
ended_ignores job choice n is (body.Grant b) = rw is tt
ended_ignores job choice n is (body.Refuse b) = rw is tt
ended_ignores job choice n is (body.Result b) = rw is tt
ended_ignores job choice n is (body.ResultAck b) = rw is tt
ended_ignores job choice n is (body.Offer b) = rw is tt
ended_ignores job choice n is (body.OfferAck b) = rw is tt
ended_ignores job choice n is (body.Leave b) = tt
ended_ignores job choice n is (body.Abort b) = rw is tt
ended_ignores job choice n is (body.Beat b) = tt
ended_ignores job choice n is (body.Piece b) = rw is tt
ended_ignores job choice n is (body.Save b) = tt

module _ (job : JobOf) (v : WorldOf) (single : OneOffer v.net)
    (kept : (a : ℕ) (n : NodeOf) → node_in a v.nodes ≡ Some n → NodeKept job.number v.net n) (tied : Tied job v)
    (right : WorldStands (cut_world v)) where
  abbrev w : WorldOf
  w = cut_world v

  with_there : {A : Type 0} (o : Option A) (f : A → StepResult) → ((a : A) → o ≡ Some a → WorldStands (f a).world)
      → WorldStands (with_some o w f).world
  unfolding with_some
  with_there None f all = right
  with_there (Some a) f all = all a refl

  -- ---- a node
  module _ (a : ℕ) where
    stepped_stands : (s : node.StepOf) (used : List ℕ) → NodeStands s.after → NodeLasts s.after
        → WorldStands (stepped a s (record w { used = used })).world
    stepped_stands s used waits lasts = record {
      waits =
          λ b n at. ⊎_elim (λ new. rw (new.1) waits) (λ old. right.waits b n old.1)
          (new_or_old a b s.after n v.nodes at);
      lasts =
          λ b n at. ⊎_elim (λ new. rw (new.1) lasts) (λ old. right.lasts b n old.1)
          (new_or_old a b s.after n v.nodes at);
      root = right.root;
    }

    answered_stands : (ans : node.Answer) → AnswerStands ans → AnswerLasts ans → WorldStands (answered a ans w).world
    answered_stands node.Ignored waits lasts = right
    answered_stands (node.Refused e) waits lasts = right
    answered_stands (node.Does s) waits lasts = stepped_stands s w.used waits lasts
    answered_stands (node.Forgets m) waits lasts = record {
      waits = λ b n at. ⊎_elim (λ new. rw (new.1) waits) (λ old. right.waits b n old.1) (new_or_old a b m n v.nodes at);
      lasts = λ b n at. ⊎_elim (λ new. rw (new.1) lasts) (λ old. right.lasts b n old.1) (new_or_old a b m n v.nodes at);
      root = right.root;
    }

  module _ (a : ℕ) (n : NodeOf) (there : node_in a v.nodes ≡ Some n) where
    own : NodeStands n
    own = right.waits a n there

    lives : NodeLasts n
    lives = right.lasts a n there

    -- a packet that went comes, whole or a Piece
    hears : (choice : Option Candidate) (p : PacketOf) → p ∈ cut_all v.net → AnswerStands (on_packet job choice p n)
    unfolding on_packet
    hears choice p m = by_address (nat_eq p.job job.number) (nat_eq p.to n.incarnation) refl refl
      where
        works : p.job ≡ job.number → p.to ≡ n.incarnation → Works (mode_of n.state)
            → AnswerStands (on_body job choice p.body n)
        works mine here up =
            let shown : NodeShown tied.view n = tied.shown.nodes a n there in
            body_stands job n own (shown.parts up).order choice p.body
            (comes_apart (tables_meaning job) tied.view tied.run n shown up job v.net tied.shown.net single
            (kept a n there) p m mine here)

        by_stage : p.job ≡ job.number → p.to ≡ n.incarnation → (x : Stage) → n.state ≡ x
            → AnswerStands (on_body job choice p.body n)
        by_stage mine here Joining is = works mine here (rw is tt)
        by_stage mine here (Member r) is = works mine here (rw is tt)
        by_stage mine here (Leaving r heir) is = works mine here (rw is tt)
        by_stage mine here Ended is = ended_ignores job choice n is p.body

        by_address : (x y : Bool) → nat_eq p.job job.number ≡ x → nat_eq p.to n.incarnation ≡ y
            → AnswerStands (cond (x && y) (on_body job choice p.body n) node.Ignored)
        by_address false y e f = tt
        by_address true false e f = tt
        by_address true true e f =
            let mine : p.job ≡ job.number = grind (arith, e) in
            let here : p.to ≡ n.incarnation = grind (arith, f) in
            by_stage mine here n.state refl

    at_node_stands : (choice : Option Candidate) (e : NodeEvent) → WorldStands (at_node job choice a e n w).world
    at_node_stands choice (Deliver i) =
        with_there (slice_get (cut_all v.net) i) (λ p. answered a (on_packet job choice p n) w) (λ p e.
        answered_stands a (on_packet job choice p n) (hears choice p (got (cut_all v.net) i p e))
        (packet_lasts job n lives choice p))
    at_node_stands choice (Exec f) =
        answered_stands a (call.exec_ready job (grant_of f) f.frame n) (exec_ready_stand job n own (grant_of f) f.frame)
        (exec_ready_lasts job n lives (grant_of f) f.frame)
    at_node_stands choice (Whole f most) =
        answered_stands a (call.whole_ready job most (grant_of f) f.frame n)
        (whole_ready_stand job n own most (grant_of f) f.frame)
        (whole_ready_lasts job n lives most (grant_of f) f.frame)
    at_node_stands choice (Ask x) =
        answered_stands a (call.ask job (victim_of x) n) (ask_stand job n own (victim_of x))
        (ask_lasts job n lives (victim_of x))
    at_node_stands choice Resend =
        answered_stands a (call.resend job n) (resend_stand job n own) (resend_lasts job n lives)
    at_node_stands choice (Depart heir) =
        answered_stands a (call.depart job heir n) (depart_stand job n own heir) (depart_lasts job n lives heir)

  starts_stand : (a word : ℕ) → WorldStands (starts job a word w).world
  starts_stand a word = by_word (can_start a word w)
    where
      by_word : (b : Bool)
          → WorldStands (cond b (stepped a (call.start job word) (with_used word w)) (same Unfit w)).world
      by_word true =
          stepped_stands a (call.start job word) (with_used word w).used (start_stands job word) (start_lasts job word)
      by_word false = right

  crashes_stand : (a : ℕ) → WorldStands (record w { nodes = without_node a v.nodes })
  crashes_stand a = record {
    waits = λ b n at. right.waits b n (left_there a b n v.nodes at).1;
    lasts = λ b n at. right.lasts b n (left_there a b n v.nodes at).1;
    root = right.root;
  }

  -- ---- the clearinghouse
  goes_on : (house : HouseAt) (d : Device) (sent : List PacketOf) → RootAt house
      → WorldStands (record w { house = house; disk = d; net = w.net ++ sent })
  goes_on house d sent root = record { waits = right.waits; lasts = right.lasts; root = root }

  ends_stand : (h : HouseOf) (a : house.HouseAnswer) → HouseAnswerStands a → (o : StepResult) → Ends job h a w o
      → WorldStands o.world
  ends_stand h house.Ignored k o e = rw e right
  ends_stand h (house.Refused f) k o e = rw e right
  ends_stand h (house.Does s) k o e = rw (e.2) (goes_on (IsUp (Open s.after)) _ s.sent (opened_root s.after k))

  halts_stand : (h : HouseOf) (a : house.HouseAnswer) (k : ℕ) (bytes : List ℕ) (o : StepResult)
      → Halts job h a k bytes w o → WorldStands o.world
  halts_stand h house.Ignored k bytes o e = absurd e
  halts_stand h (house.Refused f) k bytes o e = absurd e
  halts_stand h (house.Does s) k bytes o e = rw (e.3) (goes_on (IsUp (Stopped by.Device)) _ [] closed_stopped)

  own_root : (h : HouseOf) → v.house ≡ IsUp (Open h) → RootStands h
  own_root h is = right.root h (rw is refl)

  open_ends : (e : HouseEvent) (h : HouseOf) → v.house ≡ IsUp (Open h) → (o : StepResult)
      → HouseEnds job e (IsUp (Open h)) w o → WorldStands o.world
  open_ends (at_house.Deliver i) h is o over = by_packet (slice_get (cut_all v.net) i) refl
    where
      by_packet : (q : Option PacketOf) → slice_get (cut_all v.net) i ≡ q → WorldStands o.world
      by_packet None e = let same : o ≡ house_same None w = rw e at over in rw same right
      by_packet (Some p) e =
          let done : Ends job h (house_cases.on_packet job p h) w o = rw e at over in
          ends_stand h (house_cases.on_packet job p h) (root_stands job h (own_root h is) p) o done
  open_ends (at_house.Tick now) h is o over =
      ends_stand h (house.Does (passes job now h)) (moment_stands job h (own_root h is) now) o over
  open_ends at_house.Restart h is o over = rw over right

  open_halts : (e : HouseEvent) (h : HouseOf) (k : ℕ) (bytes : List ℕ) (o : StepResult)
      → HouseHalts job e (IsUp (Open h)) k bytes w o → WorldStands o.world
  open_halts (at_house.Deliver i) h k bytes o halts = by_packet (slice_get (cut_all v.net) i) refl
    where
      by_packet : (q : Option PacketOf) → slice_get (cut_all v.net) i ≡ q → WorldStands o.world
      by_packet None e = let never : ⊥ = rw e at halts in absurd never
      by_packet (Some p) e =
          let done : Halts job h (house_cases.on_packet job p h) k bytes w o = rw e at halts in
          halts_stand h (house_cases.on_packet job p h) k bytes o done
  open_halts (at_house.Tick now) h k bytes o halts = halts_stand h (house.Does (passes job now h)) k bytes o halts
  open_halts at_house.Restart h k bytes o halts = absurd halts

  -- an opening begins with no root granted
  restarts_stand : (o : StepResult) → Restarts job w o → WorldStands o.world
  restarts_stand o (inl (way, e)) =
      let new : HouseOf = (begins silence (begun_of way.way)).after in
      rw e (goes_on (IsUp (Open new)) _ [] (opened_root new (none_out new refl)))
  restarts_stand o (inr (f, refused, e)) = rw e (with_house w right w.house _ right.root)

  restart_halts_stand : (k : ℕ) (bytes : List ℕ) (o : StepResult) → RestartHalts job k bytes w o → WorldStands o.world
  restart_halts_stand k bytes o (calls, why, within, e) = rw e (goes_on (IsUp (Stopped by.Device)) _ [] closed_stopped)

  house_ends : (e : HouseEvent) (x : HouseAt) → v.house ≡ x → (o : StepResult) → HouseEnds job e x w o
      → WorldStands o.world
  house_ends e (IsUp (Open h)) is o over = open_ends e h is o over
  house_ends (at_house.Deliver i) (IsUp (Stopped s)) is o over = rw over right
  house_ends (at_house.Tick now) (IsUp (Stopped s)) is o over = rw over right
  house_ends at_house.Restart (IsUp (Stopped s)) is o over = restarts_stand o over
  house_ends (at_house.Deliver i) Down is o over = rw over right
  house_ends (at_house.Tick now) Down is o over = rw over right
  house_ends at_house.Restart Down is o over = restarts_stand o over

  house_halts : (e : HouseEvent) (x : HouseAt) (k : ℕ) (bytes : List ℕ) (o : StepResult)
      → HouseHalts job e x k bytes w o → WorldStands o.world
  house_halts e (IsUp (Open h)) k bytes o halts = open_halts e h k bytes o halts
  house_halts (at_house.Deliver i) (IsUp (Stopped s)) k bytes o halts = absurd halts
  house_halts (at_house.Tick now) (IsUp (Stopped s)) k bytes o halts = absurd halts
  house_halts at_house.Restart (IsUp (Stopped s)) k bytes o halts = restart_halts_stand k bytes o halts
  house_halts (at_house.Deliver i) Down k bytes o halts = absurd halts
  house_halts (at_house.Tick now) Down k bytes o halts = absurd halts
  house_halts at_house.Restart Down k bytes o halts = restart_halts_stand k bytes o halts

  falls_stand : (x : HouseAt) → WorldStands (house_crash x w).world
  falls_stand Down = right
  falls_stand (IsUp state) = with_house w right Down _ closed_down

  -- it is cut off
  stopped_stands : (e : HouseEvent) (k : ℕ) (bytes : List ℕ) (o : StepResult)
      → ThenStopped (HouseHalts job e v.house k bytes w) o → WorldStands o.world
  stopped_stands e k bytes o (before, halts, is) =
      rw is
      (with_house before.world (house_halts e v.house k bytes before halts)
      (IsUp (Stopped by.Device)) before.world.disk closed_stopped)

  ended_stands : (c : CutOf) (o : StepResult) → ThenCut c.bytes (HouseEnds job c.event v.house w) o
      → WorldStands o.world
  ended_stands c o (before, done, is) =
      rw is
      (with_house before.world (house_ends c.event v.house refl before done)
      (IsUp (Stopped by.Device)) (settled_by c.bytes before.world.disk) closed_stopped)

  cut_stands : (c : CutOf) (o : StepResult) → IsCut job c w o → WorldStands o.world
  cut_stands c o (inl (never, is)) = rw is right
  cut_stands c o (inr (can, applies, inl (n, makes, few, cut))) = ended_stands c o cut
  cut_stands c o (inr (can, applies, inr halts)) = stopped_stands c.event c.calls c.bytes o halts

  -- whatever happens
  whole_stands : (e : Event) (o : StepResult) → Step job e w o → WorldStands o.world
  whole_stands (Start a word) o (inl is) = rw is (starts_stand a word)
  whole_stands (AtNode a e) o (inl (choice, allowed, is)) =
      rw is
      (with_there (node_in a v.nodes) (λ n. at_node job choice a e n w) (λ n there. at_node_stands a n there choice e))
  whole_stands (Crash a) o (inl is) = rw is (with_there (node_in a v.nodes) _ (λ n there. crashes_stand a))
  whole_stands (AtHouse e) o (inl over) = house_ends e v.house refl o over
  whole_stands HouseCrash o (inl is) = rw is (falls_stand v.house)
  whole_stands (Cut c) o (inl cut) = cut_stands c o cut
  whole_stands (AtHouse e) o (inr (k, bytes, cause, halts)) = house_halts e v.house k bytes o halts
  whole_stands (Cut c) o (inr (can, restart, k, first, some, halts)) = stopped_stands c.event k c.bytes o halts
  whole_stands HouseCrash o (inr never) = absurd never
  whole_stands (Start a word) o (inr never) = absurd never
  whole_stands (AtNode a e) o (inr never) = absurd never
  whole_stands (Crash a) o (inr never) = absurd never

-- of a sound world
pub step_stands : (job : JobOf) (w : WorldOf) → IsSound job w → WorldStands w → (e : Event) (o : StepResult)
    → Step job e w o → WorldStands o.world
step_stands job w sound right e o step =
    whole_stands job sound.whole sound.from.one sound.from.kept sound.tied (subst WorldStands sound.from.cut right) e o
    (subst (λ (x : WorldOf). Step job e x o) sound.from.cut step)

-- so it is of each world of a run
pub runs_stand : (job : JobOf) → IsJob job → (w : WorldOf) (entries : List Entry) (worlds : List WorldOf)
    → Runs job w entries worlds → IsSound job w → WorldStands w → (v : WorldOf) → v ∈ worlds → WorldStands v
runs_stand job ok _ _ _ (ends {w = w}) sound right v m = absurd m
runs_stand job ok _ _ _ (goes {w = w} {v = x} {e = e} {entries = entries} {worlds = worlds} step rest) sound right v m =
    let next : IsSound job x =
    sound_of
    (step_sound job ok sound.tied.view w (sound_here sound) e.event (record { world = x; answer = e.answer }) step) in
    let stands : WorldStands x = step_stands job w sound right e.event (record { world = x; answer = e.answer }) step in
    by_place stands (runs_stand job ok x entries worlds rest next stands v) m
  where
    by_place : WorldStands x → (v ∈ worlds → WorldStands v) → (v ≡ x) ⊎ (v ∈ worlds) → WorldStands v
    by_place now later (inl same) = rw same now
    by_place now later (inr m) = later m

-- Each event of the clearinghouse keeps a world tied: it ends, or a call of the disk fails in it.
use Rattle.std.proofs.Common.{◌≡◌, ◌<◌, ℕ, List, [], ◌++◌, length, inl, inr, Option, None, Some, slice_get, refl, sym, subst}
use Rattle.codec.specs.Table.{PacketOf}
use Rattle.disk.specs.Device.{Device}
use Rattle.checkpoint.specs.Commit.{opening}
use Rattle.codec.specs.declared.body.Body.{Body}
use Rattle.codec.specs.declared.body.Body.TheVariants as body
use Rattle.serial_meaning.specs.Job.{IsJob, JobOf}
use Rattle.actor_laws.proofs.actor_agreement.House.{packet_right, passes_right}
use Rattle.actor_laws.specs.actor_agreement.Values.{BodyIsRight, HouseAnswerIsRight, HouseIsRight, SaveIsRight}
use Rattle.clearinghouse.specs.Calls.{passes}
use Rattle.clearinghouse.specs.Cases.{on_packet}
use Rattle.clearinghouse.specs.House.{HouseOf, Open, Stopped}
use Rattle.clearinghouse.specs.Laws.{KeepsHouse}
use Rattle.clearinghouse.specs.Steps as house
use Rattle.clearinghouse.specs.declared.parts.Stop.TheVariants as by
use Rattle.clearinghouse.proofs.Keeping.{moment_keeps, packet_keeps}
use Rattle.event_script.specs.declared.event.HouseEvent.{HouseEvent}
use Rattle.event_script.specs.declared.event.HouseEvent.TheVariants.{Deliver, Tick, Restart}
use Rattle.table_laws.specs.Tables.{◌∈◌}
use Rattle.table_laws.specs.View.{View}
use Rattle.table_laws.proofs.Among.{got}
use Rattle.actor_laws.specs.house_moves.Steps.{HouseAnswerShown, HouseStepShown}
use Rattle.actor_laws.proofs.house_moves.Moments.{passes_shown}
use Rattle.actor_laws.proofs.house_moves.Table.{packet_shown}
use Rattle.world_steps.specs.Answers.{StepResult, house_same}
use Rattle.world_steps.specs.Houses.{Ends, Halts, IsAttempt, RestartHalts, Restarts, calls_of, halted, made}
use Rattle.world_steps.specs.Steps.{HouseEnds, HouseHalts}
use Rattle.world_steps.specs.World.{Down, HouseAt, IsUp, WorldOf}
use Rattle.run_laws.specs.Right.{WorldIsRight}
use Rattle.run_laws.specs.Shown.{Closed, DiskShown, HouseShown, TiedSince}
use Rattle.run_laws.proofs.Disks.{read_fails, read_keeps}
use Rattle.run_laws.proofs.Housing.{own, stepped_tied}
use Rattle.run_laws.proofs.Opening.{half_opened, half_read, opened_tied}
use Rattle.run_laws.proofs.Stopping.{IsShut, is_down, is_stopped, halted_tied, net_as, same_record, shut_tied, shuts}

-- a value that comes to be saved agrees
pub may_save : (job : JobOf) (b : Body) → BodyIsRight job b → SaveIsRight job b
may_save job (body.Save b) r = r
may_save job (body.Join b) r = tt
may_save job (body.Roster b) r = tt
may_save job (body.Steal b) r = tt
may_save job (body.Grant b) r = tt
may_save job (body.Refuse b) r = tt
may_save job (body.Result b) r = tt
may_save job (body.ResultAck b) r = tt
may_save job (body.Offer b) r = tt
may_save job (body.OfferAck b) r = tt
may_save job (body.Leave b) r = tt
may_save job (body.Abort b) r = tt
may_save job (body.Beat b) r = tt
may_save job (body.Piece b) r = tt

module _ (job : JobOf) (ok : IsJob job) (base : View) (w : WorldOf) (tied : TiedSince job base w)
    (right : WorldIsRight job w) where
  abbrev v : View
  v = tied.view

  -- what an answer of an open clearinghouse promises
  abbrev Promises : HouseOf → house.HouseAnswer → Type 0
  Promises h house.Ignored = Unit {0}
  Promises h (house.Refused e) = Unit {0}
  Promises h (house.Does s) = KeepsHouse h s

  packet_promises : (p : PacketOf) (h : HouseOf) (a : house.HouseAnswer) → on_packet job p h ≡ a → Promises h a
  packet_promises p h house.Ignored e = tt
  packet_promises p h (house.Refused f) e = tt
  packet_promises p h (house.Does s) e = packet_keeps job p h s e

  module _ (h : HouseOf) (is : w.house ≡ IsUp (Open h)) where
    -- what it holds agrees, and what a packet or a moment leaves
    own_right : HouseIsRight job h
    own_right = let r = right.house in rw is at r

    packet_agrees : (p : PacketOf) → p ∈ w.net → HouseAnswerIsRight job (on_packet job p h)
    packet_agrees p m = packet_right job h own_right ok p (may_save job p.body (right.net p m))

    ends_tied : (a : house.HouseAnswer) → HouseAnswerShown job v h a → Promises h a → HouseAnswerIsRight job a
        → (o : StepResult) → Ends job h a w o → TiedSince job base o.world
    ends_tied house.Ignored step keeps agrees o e = rw e tied
    ends_tied (house.Refused f) step keeps agrees o e = rw e tied
    ends_tied (house.Does s) step keeps agrees o e =
        rw (e.2) (stepped_tied job base v w tied.run tied.since tied.shown h is s step keeps.holds keeps.commits
        agrees.after.1 e.0 e.1)

    halts_tied : (a : house.HouseAnswer) → HouseAnswerShown job v h a → Promises h a → HouseAnswerIsRight job a
        → (k : ℕ) (bytes : List ℕ) (o : StepResult) → Halts job h a k bytes w o → TiedSince job base o.world
    halts_tied house.Ignored step keeps agrees k bytes o e = absurd e
    halts_tied (house.Refused f) step keeps agrees k bytes o e = absurd e
    halts_tied (house.Does s) step keeps agrees k bytes o e =
        rw (e.3) (halted_tied job base v w tied.run tied.since tied.shown h is s step keeps.holds keeps.commits
        own_right.1 agrees.after.1 e.0 k bytes by.Device e.1 e.2)

    packet_here : (p : PacketOf) → p ∈ w.net → HouseAnswerShown job v h (on_packet job p h)
    packet_here p m = let x = own job base v w tied.run tied.since tied.shown h is in packet_shown job v tied.run h
        x.shown x.sound.listing.rising p (tied.shown.net p m)

    moment_here : (now : ℕ) → HouseStepShown job v h (passes job now h)
    moment_here now = passes_shown job v tied.run h (own job base v w tied.run tied.since tied.shown h is).shown now

    open_ends : (e : HouseEvent) (o : StepResult) → HouseEnds job e (IsUp (Open h)) w o → TiedSince job base o.world
    open_ends (Deliver i) o ends = by_packet (slice_get w.net i) refl
      where
        by_packet : (q : Option PacketOf) → slice_get w.net i ≡ q → TiedSince job base o.world
        by_packet None e = let same : o ≡ house_same None w = rw e at ends in rw same tied
        by_packet (Some p) e = let done : Ends job h (on_packet job p h) w o =
            rw e at ends in ends_tied (on_packet job p h) (packet_here p (got w.net i p e))
            (packet_promises p h (on_packet job p h) refl) (packet_agrees p (got w.net i p e)) o done
    open_ends (Tick now) o ends = ends_tied (house.Does (passes job now h)) (moment_here now) (moment_keeps job now h)
        (passes_right job h own_right now) o ends
    open_ends Restart o ends = rw ends tied

    open_halts : (e : HouseEvent) (k : ℕ) (bytes : List ℕ) (o : StepResult)
        → HouseHalts job e (IsUp (Open h)) k bytes w o → TiedSince job base o.world
    open_halts (Deliver i) k bytes o halts = by_packet (slice_get w.net i) refl
      where
        by_packet : (q : Option PacketOf) → slice_get w.net i ≡ q → TiedSince job base o.world
        by_packet None e = let never : ⊥ = rw e at halts in absurd never
        by_packet (Some p) e = let done : Halts job h (on_packet job p h) k bytes w o =
            rw e at halts in halts_tied (on_packet job p h) (packet_here p (got w.net i p e))
            (packet_promises p h (on_packet job p h) refl) (packet_agrees p (got w.net i p e)) k bytes o done
    open_halts (Tick now) k bytes o halts =
        halts_tied (house.Does (passes job now h)) (moment_here now) (moment_keeps job now h)
        (passes_right job h own_right now) k bytes o halts
    open_halts Restart k bytes o halts = absurd halts

  -- it isn't open
  module _ (house : HouseAt) (is : w.house ≡ house) (shut : IsShut house) where
    closed : Closed v
    closed = by_shut house shut (let s = tied.shown.house in rw is at s)
      where
        by_shut : (x : HouseAt) → IsShut x → HouseShown v x → Closed v
        by_shut _ is_down c = c
        by_shut _ (is_stopped s) c = c

    restarts_tied : (o : StepResult) → Restarts job w o → TiedSince job base o.world
    restarts_tied o (inl (way, e)) = rw e (opened_tied job base v w tied.run tied.since tied.shown closed way)
    restarts_tied o (inr (f, refused, e)) =
        rw e (rw_house (shut_tied job base w tied house (made w.disk opening) shut (λ n r k. read_keeps w.disk n r k)))
      where
        rw_house : TiedSince job base (record w { house = house; disk = made w.disk opening })
            → TiedSince job base (record w { disk = made w.disk opening })
        rw_house t = subst (λ (x : HouseAt). TiedSince job base (record w { house = x; disk = made w.disk opening }))
            (sym is) t

    restart_halts_tied : (k : ℕ) (bytes : List ℕ) (o : StepResult) → RestartHalts job k bytes w o
        → TiedSince job base o.world
    restart_halts_tied k bytes o (calls, why, within, e) = rw e (by_calls why)
      where
        stops : (d : Device) → DiskShown job v d Down
            → TiedSince job base (record w { house = IsUp (Stopped by.Device); disk = d; net = w.net ++ [] })
        stops d disk = net_as job base w (IsUp (Stopped by.Device)) d
            (shuts job base v w tied.run tied.since tied.shown (IsUp (Stopped by.Device)) d (is_stopped by.Device) disk)

        by_calls : IsAttempt job w.disk calls
            → TiedSince job base (record w {
              house = IsUp (Stopped by.Device);
              disk = halted w.disk calls k bytes;
              net = w.net ++ [];
            })
        by_calls (inl reads) = stops (halted w.disk calls k bytes)
            (same_record job v w.disk (halted w.disk calls k bytes) w.house (λ n r kept. (let one : k < length opening =
            rw reads at within in rw reads (read_fails w.disk n r kept bytes k one))) tied.shown.disk)
        by_calls (inr (inl (way, opens))) =
            stops (halted w.disk calls k bytes) (let some : k < length way.opens =
            rw opens at within in rw opens (half_read job v w tied.shown way k bytes some))
        by_calls (inr (inr (way, opens))) =
            stops (halted w.disk calls k bytes) (let some : k < length (calls_of way) =
            rw opens at within in rw opens (half_opened job base v w tied.run tied.since tied.shown closed way k bytes
            some))

  -- an event that ends, wherever the clearinghouse stands
  pub house_ends : (e : HouseEvent) (x : HouseAt) → w.house ≡ x → (o : StepResult) → HouseEnds job e x w o
      → TiedSince job base o.world
  house_ends e (IsUp (Open h)) is o ends = open_ends h is e o ends
  house_ends (Deliver i) (IsUp (Stopped s)) is o ends = rw ends tied
  house_ends (Tick now) (IsUp (Stopped s)) is o ends = rw ends tied
  house_ends Restart (IsUp (Stopped s)) is o ends = restarts_tied (IsUp (Stopped s)) is (is_stopped s) o ends
  house_ends (Deliver i) Down is o ends = rw ends tied
  house_ends (Tick now) Down is o ends = rw ends tied
  house_ends Restart Down is o ends = restarts_tied Down is is_down o ends

  -- one in which a call of the disk fails
  pub house_halts : (e : HouseEvent) (x : HouseAt) → w.house ≡ x → (k : ℕ) (bytes : List ℕ) (o : StepResult)
      → HouseHalts job e x k bytes w o → TiedSince job base o.world
  house_halts e (IsUp (Open h)) is k bytes o halts = open_halts h is e k bytes o halts
  house_halts (Deliver i) (IsUp (Stopped s)) is k bytes o halts = absurd halts
  house_halts (Tick now) (IsUp (Stopped s)) is k bytes o halts = absurd halts
  house_halts Restart (IsUp (Stopped s)) is k bytes o halts =
      restart_halts_tied (IsUp (Stopped s)) is (is_stopped s) k bytes o halts
  house_halts (Deliver i) Down is k bytes o halts = absurd halts
  house_halts (Tick now) Down is k bytes o halts = absurd halts
  house_halts Restart Down is k bytes o halts = restart_halts_tied Down is is_down k bytes o halts

-- A step of a world is one of the world of whole packets from which it is cut.
use Rattle.std.proofs.Common.{◌≡◌, ℕ, Bool, true, false, cond, List, [], ◌∷◌, ◌++◌, inl, inr, ⊎_elim, Option, None, Some, slice_get, refl, sym, ap, subst, ◌∙◌}
use Rattle.std.proofs.lemmas.Grind.{flat_map-append}
use Rattle.std.proofs.lemmas.List.{append-nil}
use Rattle.codec.specs.Pieces.{cut, cut_all}
use Rattle.codec.specs.Table.{PacketOf}
use Rattle.checkpoint.specs.Commit.{opening}
use Rattle.serial_meaning.specs.Job.{JobOf, IsJob}
use Rattle.node_state.specs.Node.{NodeOf, starting}
use Rattle.node_steps.specs.Calls as call
use Rattle.node_steps.specs.Cases.{Candidate}
use Rattle.node_steps.specs.Cases as cases
use Rattle.node_steps.specs.Steps as node
use Rattle.clearinghouse.specs.Calls.{passes}
use Rattle.clearinghouse.specs.Cases.{on_packet}
use Rattle.clearinghouse.specs.House.{HouseOf, Open, Stopped}
use Rattle.clearinghouse.specs.Laws.{IsHouse}
use Rattle.clearinghouse.specs.Steps as house
use Rattle.clearinghouse.specs.declared.parts.Stop.TheVariants as by
use Rattle.event_script.specs.declared.event.Cut.{Cut as CutOf}
use Rattle.event_script.specs.declared.event.Event.{Event}
use Rattle.event_script.specs.declared.event.Event.TheVariants.{Start, AtNode, Crash, AtHouse, HouseCrash, Cut}
use Rattle.event_script.specs.declared.event.HouseEvent.{HouseEvent}
use Rattle.event_script.specs.declared.event.HouseEvent.TheVariants as at_house
use Rattle.event_script.specs.declared.event.NodeEvent.{NodeEvent}
use Rattle.event_script.specs.declared.event.NodeEvent.TheVariants.{Deliver, Exec, Whole, Ask, Resend, Depart}
use Rattle.table_laws.specs.Tables.{◌∈◌}
use Rattle.table_laws.specs.View.{View}
use Rattle.table_laws.proofs.Among.{found_among, got, placed}
use Rattle.agreement_laws.specs.Agreement.{AllSavedAgree}
use Rattle.ids.specs.Names.{Grant}
use Rattle.subcomputation.specs.Subs.{SubOf, sub_in}
use Rattle.actor_laws.specs.node_moves.Shows.{NodeShown}
use Rattle.actor_laws.specs.node_moves.Steps.{AnswerShown}
use Rattle.actor_laws.proofs.node_moves.Changing.{exec_ready_shown, whole_ready_shown}
use Rattle.actor_laws.proofs.node_moves.Resending.{resend_shown}
use Rattle.actor_laws.proofs.node_moves.Table.{ask_shown, depart_shown}
use Rattle.actor_laws.specs.actor_agreement.Values.{AnswerIsRight}
use Rattle.actor_laws.proofs.actor_agreement.Changing.{exec_ready_right, whole_ready_right}
use Rattle.actor_laws.proofs.actor_agreement.Leaving.{depart_right, resend_right}
use Rattle.actor_laws.proofs.actor_agreement.Table.{ask_right}
use Rattle.actor_laws.specs.house_moves.Steps.{tables_meaning}
use Rattle.world_steps.specs.Answers.{StepResult, Unfit, answered, house_same, same, stepped, with_some}
use Rattle.world_steps.specs.Houses.{Ends, Halts, RestartHalts, Restarts, goes_to, halted, made, opened_by}
use Rattle.world_steps.specs.Nodes.{at_node, can_start, crashes, grant_of, starts, victim_of}
use Rattle.world_steps.specs.Steps.{HouseEnds, HouseHalts, IsCut, Step, cut_short, house_crash, settled_by, stopped}
use Rattle.world_steps.specs.World.{Down, HouseAt, IsUp, WorldOf, node_in, with_used, without_node}
use Rattle.actor_laws.specs.whole_offers.Kept.{AnswerKept, NodeKept}
use Rattle.actor_laws.specs.whole_offers.Plain.{ArePlain, IsPlainNode}
use Rattle.actor_laws.specs.whole_offers.Whole.{IsPieceOf, OneOffer, cut_answer}
use Rattle.actor_laws.proofs.whole_offers.Cutting.{arrives, plain_uncut}
use Rattle.actor_laws.proofs.whole_offers.Rows.{none, one}
use Rattle.actor_laws.proofs.whole_offers.Steps.{ask_kept, depart_kept, exec_ready_kept, kept_more, packet_kept, plain_one, resend_kept, start_kept, waits_not, whole_ready_kept}
use Rattle.actor_laws.proofs.whole_offers.Uncut.{ask_uncut, depart_cut, exec_ready_uncut, packet_uncut, resend_cut, whole_ready_uncut}
use Rattle.actor_laws.proofs.whole_offers.Wires.{comes_shown, piece_agrees}
use Rattle.run_laws.specs.Right.{WorldIsRight}
use Rattle.run_laws.specs.Shown.{TiedSince, tied_of}
use Rattle.run_laws.specs.Sound.{SoundSince, cut_world}
use Rattle.run_laws.proofs.Events.{ended_tied, falls_tied, starts_tied, stopped_tied}
use Rattle.run_laws.proofs.HouseEvents.{house_ends, house_halts}
use Rattle.run_laws.proofs.HousePlain.{AnswerIsPlain, packet_plain, passes_plain, piece_ignored}
use Rattle.run_laws.proofs.Housing.{own}
use Rattle.run_laws.proofs.Places.{left_there, new_or_old}
use Rattle.run_laws.proofs.Starting.{gone_tied}
use Rattle.run_laws.proofs.Stepping.{answered_tied}
use Rattle.run_laws.proofs.StepsAgree as right

-- what goes of packets that were sent before, and of others
cut_more : (net sent : List PacketOf) → cut_all (net ++ sent) ≡ cut_all net ++ cut_all sent
cut_more net sent = flat_map-append cut net sent

plain_more : (net sent : List PacketOf) → ArePlain sent → cut_all net ++ sent ≡ cut_all (net ++ sent)
plain_more net sent plain = ap (λ ps. cut_all net ++ ps) (sym (plain_uncut sent plain)) ∙ sym (cut_more net sent)

module _ (job : JobOf) (ok : IsJob job) (base : View) (v : WorldOf) (single : OneOffer v.net)
    (kept : (a : ℕ) (n : NodeOf) → node_in a v.nodes ≡ Some n
    → NodeKept job.number v.net n) (tied : TiedSince job base v) (is_right : WorldIsRight job v) where
  abbrev w : WorldOf
  w = cut_world v

  -- nothing happens
  here : SoundSince job base w
  here = record { whole = v; from = record { cut = refl; one = single; kept = kept }; tied = tied; right = is_right }

  here_by : (o : StepResult) (x : StepResult) → o ≡ x → x.world ≡ w → SoundSince job base o.world
  here_by o x e same = subst (SoundSince job base) (sym (ap (λ (y : StepResult). y.world) e ∙ same)) here

  with_there : {A : Type 0} (o : Option A) (f : A → StepResult)
      → ((a : A) → o ≡ Some a → SoundSince job base (f a).world) → SoundSince job base (with_some o w f).world
  unfolding with_some
  with_there None f all = here
  with_there (Some a) f all = all a refl

  -- ---- a node
  module _ (a : ℕ) (n : NodeOf) (there : node_in a v.nodes ≡ Some n) where
    shown : NodeShown tied.view n
    shown = tied.shown.nodes a n there

    own_kept : NodeKept job.number v.net n
    own_kept = kept a n there

    plain : IsPlainNode n
    plain = record { replies = own_kept.replies; idle = waits_not (tables_meaning job) tied.view n tied.run shown }

    -- the saved values that it knows agree
    knows : (g : Grant) (s : SubOf) → sub_in g n.subs ≡ Some s → AllSavedAgree job s.saved
    knows g s at = ((is_right.nodes a n there).subs s (found_among _ s n.subs at)).saved

    -- what it answers goes as it is cut
    answered_sound : (ans : node.Answer) → AnswerShown (tables_meaning job) job.number tied.view n ans
        → AnswerIsRight job ans → AnswerKept job.number v.net ans
        → SoundSince job base (answered a (cut_answer ans) w).world
    answered_sound node.Ignored s r k = here
    answered_sound (node.Refused e) s r k = here
    answered_sound (node.Does step) s r k =
        let next : WorldOf = (stepped a step v).world in
        record {
          whole = next;
          from = record {
            cut = ap (λ net. record next { net = net }) (sym (cut_more v.net step.sent));
            one = k.one;
            kept = λ b m at. ⊎_elim (λ new. rw (new.1) k.node)
                (λ old. kept_more job.number v.net step.sent m (kept b m old.1))
                (new_or_old a b step.after m v.nodes at);
          };
          tied = answered_tied job base tied.view v tied.run tied.since tied.shown a n there (node.Does step) s;
          right = right.answered_right job v ok (tied_of tied) is_right a (node.Does step) r;
        }
    answered_sound (node.Forgets m) s r k = record {
      whole = (answered a (node.Forgets m) v).world;
      from = record {
        cut = refl;
        one = single;
        kept = λ b o at. ⊎_elim (λ new. rw (new.1) k) (λ old. kept b o old.1) (new_or_old a b m o v.nodes at);
      };
      tied = answered_tied job base tied.view v tied.run tied.since tied.shown a n there (node.Forgets m) s;
      right = right.answered_right job v ok (tied_of tied) is_right a (node.Forgets m) r;
    }

    answered_as : (ans goes : node.Answer) → cut_answer ans ≡ goes
        → AnswerShown (tables_meaning job) job.number tied.view n ans → AnswerIsRight job ans
        → AnswerKept job.number v.net ans → SoundSince job base (answered a goes w).world
    answered_as ans goes e s r k = subst (λ x. SoundSince job base (answered a x w).world) e (answered_sound ans s r k)

    -- a packet that went comes, whole or a Piece
    hears : (choice : Option Candidate) (p : PacketOf) → p ∈ cut_all v.net
        → SoundSince job base (answered a (cases.on_packet job choice p n) w).world
    hears choice p m = answered_as (cases.on_packet job choice p n) (cases.on_packet job choice p n)
        (packet_uncut job n plain choice p)
        (comes_shown (tables_meaning job) job tied.view n v.net choice p tied.run shown tied.shown.net single own_kept
        m)
        agrees
        (packet_kept (tables_meaning job) job tied.view v.net single n own_kept tied.run shown choice p m)
      where
        agrees : AnswerIsRight job (cases.on_packet job choice p n)
        agrees = ⊎_elim
            (λ whole. right.hears_right job v ok (tied_of tied) is_right a n there choice p whole)
            (λ (k : IsPieceOf v.net p). piece_agrees job tied.view n v.net choice p _ tied.shown.net single own_kept
            (is_right.nodes a n there) is_right.net m (ap (λ (q : PacketOf). q.body) k.is))
            (arrives v.net p m)

    at_node_sound : (choice : Option Candidate) (e : NodeEvent) → SoundSince job base (at_node job choice a e n w).world
    at_node_sound choice (Deliver i) = with_there (slice_get (cut_all v.net) i)
        (λ p. answered a (cases.on_packet job choice p n) w) (λ p e. hears choice p (got (cut_all v.net) i p e))
    at_node_sound choice (Exec f) = answered_as (call.exec_ready job (grant_of f) f.frame n)
        (call.exec_ready job (grant_of f) f.frame n) (exec_ready_uncut job n plain (grant_of f) f.frame)
        (exec_ready_shown job tied.view n tied.run shown (grant_of f) f.frame (knows (grant_of f)))
        (exec_ready_right job n (is_right.nodes a n there) ok (grant_of f) f.frame)
        (exec_ready_kept (tables_meaning job) job tied.view v.net single n own_kept tied.run shown (grant_of f) f.frame)
    at_node_sound choice (Whole f most) =
        answered_as (call.whole_ready job most (grant_of f) f.frame n)
        (call.whole_ready job most (grant_of f) f.frame n) (whole_ready_uncut job n plain most (grant_of f) f.frame)
        (whole_ready_shown job tied.view n tied.run shown most (grant_of f) f.frame (knows (grant_of f)))
        (whole_ready_right job n (is_right.nodes a n there) ok most (grant_of f) f.frame)
        (whole_ready_kept (tables_meaning job) job tied.view v.net single n own_kept tied.run shown most
        (grant_of f) f.frame)
    at_node_sound choice (Ask x) = answered_as (call.ask job (victim_of x) n) (call.ask job (victim_of x) n)
        (ask_uncut job n plain (victim_of x))
        (ask_shown (tables_meaning job) job tied.view n tied.run shown (victim_of x))
        (ask_right job n (is_right.nodes a n there) (victim_of x))
        (ask_kept (tables_meaning job) job tied.view v.net single n own_kept tied.run shown (victim_of x))
    at_node_sound choice Resend = answered_as (call.whole_resend job n) (call.resend job n) (resend_cut job n plain)
        (resend_shown (tables_meaning job) job tied.view n tied.run shown)
        (resend_right job n (is_right.nodes a n there))
        (resend_kept (tables_meaning job) job tied.view v.net single n own_kept tied.run shown)
    at_node_sound choice (Depart heir) =
        answered_as (call.whole_depart job heir n) (call.depart job heir n) (depart_cut job n plain heir)
        (depart_shown (tables_meaning job) job tied.view n tied.run shown heir)
        (depart_right job n (is_right.nodes a n there) heir)
        (depart_kept (tables_meaning job) job tied.view v.net single n own_kept tied.run shown tied.shown.net heir)

  -- ---- one starts, and one crashes
  starts_sound : (a word : ℕ) → SoundSince job base (starts job a word w).world
  starts_sound a word = by_word (can_start a word v) refl
    where
      joins : List PacketOf
      joins = call.join job word ∷ []

      next : WorldOf
      next = (stepped a (call.start job word) (with_used word v)).world

      begun : can_start a word v ≡ true → SoundSince job base (stepped a (call.start job word) (with_used word w)).world
      begun e = record {
        whole = next;
        from = record {
          cut = ap (λ net. record next { net = net }) (plain_more v.net joins (one (call.join job word) refl));
          one = plain_one v.net joins single (one (call.join job word) refl);
          kept = λ b m at. ⊎_elim (λ new. rw (new.1) (start_kept job.number (v.net ++ joins) word))
              (λ old. kept_more job.number v.net joins m (kept b m old.1))
              (new_or_old a b (starting word) m v.nodes at);
        };
        tied = (let t = starts_tied job base v tied a word in rw e at t);
        right = (let r = right.starts_right job v ok (tied_of tied) is_right a word in rw e at r);
      }

      by_word : (b : Bool) → can_start a word v ≡ b
          → SoundSince job base (cond b (stepped a (call.start job word) (with_used word w)) (same Unfit w)).world
      by_word true e = begun e
      by_word false e = here

  crashes_sound : (a : ℕ) → SoundSince job base (crashes a w).world
  crashes_sound a = with_there (node_in a v.nodes) _ (λ n there. record {
    whole = record v { nodes = without_node a v.nodes };
    from = record { cut = refl; one = single; kept = λ b m at. kept b m (left_there a b m v.nodes at).1 };
    tied = gone_tied job base tied.view v tied.run tied.since tied.shown a n there;
    right = right.crashes_right job v ok (tied_of tied) is_right a;
  })

  -- ---- the clearinghouse
  -- what comes of an event, and what comes of it in the world of whole packets
  record Follows (o x : StepResult) : Type 0 where
    sent : List PacketOf
    is_plain : ArePlain sent
    cut : o.world ≡ record x.world { net = cut_all v.net ++ sent }
    net : x.world.net ≡ v.net ++ sent
    nodes : x.world.nodes ≡ v.nodes

  follows_sound : (o x : StepResult) → Follows o x → TiedSince job base x.world → WorldIsRight job x.world
      → SoundSince job base o.world
  follows_sound o x f t r = record {
    whole = x.world;
    from = record {
      cut = f.cut ∙ ap (λ net. record x.world { net = net })
          (plain_more v.net f.sent f.is_plain ∙ ap cut_all (sym f.net));
      one = rw f.net (plain_one v.net f.sent single f.is_plain);
      kept = λ a n at. rw f.net (kept_more job.number v.net f.sent n (kept a n (rw f.nodes at at)));
    };
    tied = t;
    right = r;
  }

  -- nothing is sent
  unsent : (o x : StepResult) (y : WorldOf) → o.world ≡ record y { net = cut_all v.net } → x.world ≡ y → y.net ≡ v.net
      → y.nodes ≡ v.nodes → Follows o x
  unsent o x y e q net nodes = record {
    sent = [];
    is_plain = none;
    cut = e ∙ ap (λ (z : WorldOf). record z { net = cut_all v.net }) (sym q)
        ∙ ap (λ ps. record x.world { net = ps }) (sym (append-nil (cut_all v.net)));
    net = ap (λ (z : WorldOf). z.net) q ∙ net ∙ sym (append-nil v.net);
    nodes = ap (λ (z : WorldOf). z.nodes) q ∙ nodes;
  }

  -- nothing changes
  stays : (o : StepResult) (e : _) → o ≡ house_same e w → Follows o (house_same e v)
  stays o e is = unsent o (house_same e v) v (ap (λ (x : StepResult). x.world) is) refl refl refl

  record EndsToo (x : HouseAt) (o : StepResult) : Type 0 where
    event : HouseEvent
    result : StepResult
    done : HouseEnds job event x v result
    follows : Follows o result

  record HaltsToo (x : HouseAt) (k : ℕ) (bytes : List ℕ) (o : StepResult) : Type 0 where
    event : HouseEvent
    result : StepResult
    done : HouseHalts job event x k bytes v result
    follows : Follows o result

  module _ (h : HouseOf) where
    -- an event that doesn't apply
    unfit : (o : StepResult) → o ≡ house_same None w → EndsToo (IsUp (Open h)) o
    unfit o is = record { event = at_house.Restart; result = house_same None v; done = refl; follows = stays o None is }

    -- what it answers
    record AnswersToo (a : house.HouseAnswer) (o : StepResult) : Type 0 where
      result : StepResult
      done : Ends job h a v result
      follows : Follows o result

    answers_too : (a : house.HouseAnswer) → AnswerIsPlain a → (o : StepResult) → Ends job h a w o → AnswersToo a o
    answers_too house.Ignored p o is = record { result = house_same None v; done = refl; follows = stays o None is }
    answers_too (house.Refused e) p o is =
        record { result = house_same (Some e) v; done = refl; follows = stays o (Some e) is }
    answers_too (house.Does s) p o (calls, makes, is) = record {
      result = goes_to (Open s.after) (made v.disk calls) s.sent None v;
      done = (calls, makes, refl);
      follows = record {
        sent = s.sent;
        is_plain = p;
        cut = ap (λ (x : StepResult). x.world) is;
        net = refl;
        nodes = refl;
      };
    }

    record HaltsSo (a : house.HouseAnswer) (k : ℕ) (bytes : List ℕ) (o : StepResult) : Type 0 where
      result : StepResult
      done : Halts job h a k bytes v result
      follows : Follows o result

    halts_so : (a : house.HouseAnswer) (k : ℕ) (bytes : List ℕ) (o : StepResult) → Halts job h a k bytes w o
        → HaltsSo a k bytes o
    halts_so house.Ignored k bytes o never = absurd never
    halts_so (house.Refused e) k bytes o never = absurd never
    halts_so (house.Does s) k bytes o (calls, makes, within, is) = record {
      result = goes_to (Stopped by.Device) (halted v.disk calls k bytes) [] _ v;
      done = (calls, makes, within, refl);
      follows = record {
        sent = [];
        is_plain = none;
        cut = ap (λ (x : StepResult). x.world) is;
        net = refl;
        nodes = refl;
      };
    }

    module _ (is : v.house ≡ IsUp (Open h)) where
      holds : IsHouse h
      holds = (own job base tied.view v tied.run tied.since tied.shown h is).sound

      open_ends : (e : HouseEvent) (o : StepResult) → HouseEnds job e (IsUp (Open h)) w o → EndsToo (IsUp (Open h)) o
      open_ends (at_house.Deliver i) o ends = by_packet (slice_get (cut_all v.net) i) refl
        where
          by_packet : (q : Option PacketOf) → slice_get (cut_all v.net) i ≡ q → EndsToo (IsUp (Open h)) o
          by_packet None e = unfit o (rw e at ends)
          by_packet (Some p) e =
              let done : Ends job h (on_packet job p h) w o = rw e at ends in
              ⊎_elim
              (λ whole. (
              let at = placed v.net p whole in
              let x = answers_too (on_packet job p h) (packet_plain job p h holds) o done in
              record {
                event = at_house.Deliver at.at;
                result = x.result;
                done = rw at.is x.done;
                follows = x.follows;
              }))
              (λ (k : IsPieceOf v.net p). unfit o (let none_done : Ends job h house.Ignored w o =
              subst (λ a. Ends job h a w o) (piece_ignored job p _ h (ap (λ (q : PacketOf). q.body) k.is))
              done in none_done))
              (arrives v.net p (got (cut_all v.net) i p e))
      open_ends (at_house.Tick now) o ends =
          let x = answers_too (house.Does (passes job now h)) (passes_plain job now h) o ends in
          record { event = at_house.Tick now; result = x.result; done = x.done; follows = x.follows }
      open_ends at_house.Restart o ends = unfit o ends

      open_halts : (e : HouseEvent) (k : ℕ) (bytes : List ℕ) (o : StepResult)
          → HouseHalts job e (IsUp (Open h)) k bytes w o → HaltsToo (IsUp (Open h)) k bytes o
      open_halts (at_house.Deliver i) k bytes o halts = by_packet (slice_get (cut_all v.net) i) refl
        where
          by_packet : (q : Option PacketOf) → slice_get (cut_all v.net) i ≡ q → HaltsToo (IsUp (Open h)) k bytes o
          by_packet None e = let never : ⊥ = rw e at halts in absurd never
          by_packet (Some p) e =
              let done : Halts job h (on_packet job p h) k bytes w o = rw e at halts in
              ⊎_elim
              (λ whole. (
              let at = placed v.net p whole in
              let x = halts_so (on_packet job p h) k bytes o done in
              record {
                event = at_house.Deliver at.at;
                result = x.result;
                done = rw at.is x.done;
                follows = x.follows;
              }))
              (λ (q : IsPieceOf v.net p). absurd
              (subst (λ a. Halts job h a k bytes w o)
              (piece_ignored job p _ h (ap (λ (z : PacketOf). z.body) q.is)) done))
              (arrives v.net p (got (cut_all v.net) i p e))
      open_halts (at_house.Tick now) k bytes o halts =
          let x = halts_so (house.Does (passes job now h)) k bytes o halts in
          record { event = at_house.Tick now; result = x.result; done = x.done; follows = x.follows }
      open_halts at_house.Restart k bytes o never = absurd never

  -- an opening
  restarts_too : (o : StepResult) → Restarts job w o → (x : StepResult) × Restarts job v x × Follows o x
  restarts_too o (inl (way, is)) = (
    opened_by way v,
    inl (way, refl),
    record { sent = []; is_plain = none; cut = ap (λ (x : StepResult). x.world) is; net = refl; nodes = refl },
  )
  restarts_too o (inr (e, refused, is)) =
      let x : StepResult = house_same (Some e) (record v { disk = made v.disk opening }) in (
        x,
        inr (e, refused, refl),
        unsent o x (record v { disk = made v.disk opening })
            (ap (λ (y : StepResult). y.world) is) refl refl refl,
      )

  restart_halts_too : (k : ℕ) (bytes : List ℕ) (o : StepResult) → RestartHalts job k bytes w o
      → (x : StepResult) × RestartHalts job k bytes v x × Follows o x
  restart_halts_too k bytes o (calls, why, within, is) = (
    goes_to (Stopped by.Device) (halted v.disk calls k bytes) [] _ v,
    (calls, why, within, refl),
    record { sent = []; is_plain = none; cut = ap (λ (x : StepResult). x.world) is; net = refl; nodes = refl },
  )

  ends_too : (e : HouseEvent) (x : HouseAt) → v.house ≡ x → (o : StepResult) → HouseEnds job e x w o → EndsToo x o
  ends_too e (IsUp (Open h)) is o ends = open_ends h is e o ends
  ends_too (at_house.Deliver i) (IsUp (Stopped s)) is o ends =
      record { event = at_house.Deliver i; result = house_same None v; done = refl; follows = stays o None ends }
  ends_too (at_house.Tick now) (IsUp (Stopped s)) is o ends =
      record { event = at_house.Tick now; result = house_same None v; done = refl; follows = stays o None ends }
  ends_too at_house.Restart (IsUp (Stopped s)) is o ends = let x =
      restarts_too o ends in record { event = at_house.Restart; result = x.0; done = x.1; follows = x.2 }
  ends_too (at_house.Deliver i) Down is o ends =
      record { event = at_house.Deliver i; result = house_same None v; done = refl; follows = stays o None ends }
  ends_too (at_house.Tick now) Down is o ends =
      record { event = at_house.Tick now; result = house_same None v; done = refl; follows = stays o None ends }
  ends_too at_house.Restart Down is o ends = let x =
      restarts_too o ends in record { event = at_house.Restart; result = x.0; done = x.1; follows = x.2 }

  halts_too : (e : HouseEvent) (x : HouseAt) → v.house ≡ x → (k : ℕ) (bytes : List ℕ) (o : StepResult)
      → HouseHalts job e x k bytes w o → HaltsToo x k bytes o
  halts_too e (IsUp (Open h)) is k bytes o halts = open_halts h is e k bytes o halts
  halts_too (at_house.Deliver i) (IsUp (Stopped s)) is k bytes o never = absurd never
  halts_too (at_house.Tick now) (IsUp (Stopped s)) is k bytes o never = absurd never
  halts_too at_house.Restart (IsUp (Stopped s)) is k bytes o halts = let x =
      restart_halts_too k bytes o halts in record { event = at_house.Restart; result = x.0; done = x.1; follows = x.2 }
  halts_too (at_house.Deliver i) Down is k bytes o never = absurd never
  halts_too (at_house.Tick now) Down is k bytes o never = absurd never
  halts_too at_house.Restart Down is k bytes o halts = let x =
      restart_halts_too k bytes o halts in record { event = at_house.Restart; result = x.0; done = x.1; follows = x.2 }

  ends_sound : (e : HouseEvent) (o : StepResult) → HouseEnds job e v.house w o → SoundSince job base o.world
  ends_sound e o ends =
      let x = ends_too e v.house refl o ends in
      follows_sound o x.result x.follows (house_ends job ok base v tied is_right x.event v.house refl x.result x.done)
      (right.house_ends job v ok (tied_of tied) is_right x.event v.house refl x.result x.done)

  halts_sound : (e : HouseEvent) (k : ℕ) (bytes : List ℕ) (o : StepResult) → HouseHalts job e v.house k bytes w o
      → SoundSince job base o.world
  halts_sound e k bytes o halts =
      let x = halts_too e v.house refl k bytes o halts in
      follows_sound o x.result x.follows (house_halts job ok base v tied is_right x.event v.house refl k bytes x.result
      x.done) (right.house_halts job v ok (tied_of tied) is_right x.event v.house k bytes x.result x.done)

  -- it falls, or is cut off
  falls_sound : (x : HouseAt) → v.house ≡ x → SoundSince job base (house_crash x w).world
  falls_sound Down is = here
  falls_sound (IsUp state) is =
      let o = house_crash (IsUp state) w in
      let x = house_crash (IsUp state) v in
      follows_sound o x (unsent o x x.world refl refl refl refl) (falls_tied job base v tied (IsUp state) is)
      (right.falls_right job v ok (tied_of tied) is_right (IsUp state))

  stopped_follows : (o x : StepResult) → Follows o x → Follows (stopped o) (stopped x)
  stopped_follows o x f = record {
    sent = f.sent;
    is_plain = f.is_plain;
    cut = ap (λ (y : WorldOf). record y { house = IsUp (Stopped by.Device) }) f.cut;
    net = f.net;
    nodes = f.nodes;
  }

  short_follows : (bytes : List ℕ) (o x : StepResult) → Follows o x → Follows (cut_short bytes o) (cut_short bytes x)
  short_follows bytes o x f = record {
    sent = f.sent;
    is_plain = f.is_plain;
    cut = ap (λ (y : WorldOf). record y { house = IsUp (Stopped by.Device); disk = settled_by bytes y.disk }) f.cut;
    net = f.net;
    nodes = f.nodes;
  }

  stopped_sound : (e : HouseEvent) (k : ℕ) (bytes : List ℕ) (before o : StepResult)
      → HouseHalts job e v.house k bytes w before → o ≡ stopped before → SoundSince job base o.world
  stopped_sound e k bytes before o halts is =
      let x = halts_too e v.house refl k bytes before halts in
      let there : SoundSince job base (stopped before).world =
      follows_sound (stopped before) (stopped x.result) (stopped_follows before x.result x.follows)
      (stopped_tied job base v tied ok is_right x.event k bytes (stopped x.result) (x.result, x.done, refl))
      (right.stopped_right job v ok (tied_of tied) is_right x.event k bytes (stopped x.result)
      (x.result, x.done, refl)) in
      rw is there

  short_sound : (c : CutOf) (before o : StepResult) → HouseEnds job c.event v.house w before
      → o ≡ cut_short c.bytes before → SoundSince job base o.world
  short_sound c before o ends is =
      let x = ends_too c.event v.house refl before ends in
      let other : CutOf = record c { event = x.event } in
      let there : SoundSince job base (cut_short c.bytes before).world =
      follows_sound (cut_short c.bytes before) (cut_short c.bytes x.result)
      (short_follows c.bytes before x.result x.follows)
      (ended_tied job base v tied ok is_right other (cut_short c.bytes x.result) (x.result, x.done, refl))
      (right.ended_right job v ok (tied_of tied) is_right other (cut_short c.bytes x.result)
      (x.result, x.done, refl)) in
      rw is there

  cut_sound : (c : CutOf) (o : StepResult) → IsCut job c w o → SoundSince job base o.world
  cut_sound c o (inl (never, is)) = rw is here
  cut_sound c o (inr (can, applies, inl (n, makes, few, (before, ends, is)))) = short_sound c before o ends is
  cut_sound c o (inr (can, applies, inr (before, halts, is))) = stopped_sound c.event c.calls c.bytes before o halts is

  -- whatever happens
  pub whole_step : (e : Event) (o : StepResult) → Step job e w o → SoundSince job base o.world
  whole_step (Start a word) o (inl is) = rw is (starts_sound a word)
  whole_step (AtNode a e) o (inl (choice, allowed, is)) =
      rw is (with_there (node_in a v.nodes) (λ n. at_node job choice a e n w)
      (λ n there. at_node_sound a n there choice e))
  whole_step (Crash a) o (inl is) = rw is (crashes_sound a)
  whole_step (AtHouse e) o (inl ends) = ends_sound e o ends
  whole_step HouseCrash o (inl is) = rw is (falls_sound v.house refl)
  whole_step (Cut c) o (inl is_cut) = cut_sound c o is_cut
  whole_step (AtHouse e) o (inr (k, bytes, cause, halts)) = halts_sound e k bytes o halts
  whole_step (Cut c) o (inr (can, restart, k, first, some, (before, halts, is))) =
      stopped_sound c.event k c.bytes before o halts is
  whole_step HouseCrash o (inr never) = absurd never
  whole_step (Start a word) o (inr never) = absurd never
  whole_step (AtNode a e) o (inr never) = absurd never
  whole_step (Crash a) o (inr never) = absurd never

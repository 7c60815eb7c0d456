-- A step of one node, shown by its own moves, is a step of a world that stays shown.
use Rattle.std.proofs.Common.{◌≡◌, ℕ, true, false, List, [], ◌++◌, ⊎_elim, inl, Some, refl, sym, ap, subst, ◌∙◌}
use Rattle.std.proofs.lemmas.List.{append-nil}
use Rattle.serial_meaning.specs.Job.{JobOf}
use Rattle.node_state.specs.Node.{NodeOf}
use Rattle.node_state.specs.declared.parts.State.{State as Stage}
use Rattle.node_state.specs.declared.parts.State.TheVariants.{Joining, Member, Leaving, Ended}
use Rattle.node_steps.specs.Steps as node
use Rattle.clearinghouse.specs.House.{HouseOf, Open, Stopped, name_of}
use Rattle.table_laws.specs.View.{House, View}
use Rattle.table_laws.specs.Facts.{of_worker}
use Rattle.table_laws.specs.Runs.{Run, Leads}
use Rattle.table_laws.proofs.HomesKept.{homes_reached}
use Rattle.table_laws.proofs.Lists.{same_or, one_found}
use Rattle.table_laws.proofs.ValuesKept.{run_reached}
use Rattle.move_laws.specs.Beside.{SameAt, SameHouse, KeepsSent, unmoved}
use Rattle.move_laws.proofs.Others.{beside}
use Rattle.move_laws.proofs.Sent.{house_all, keeps_all, runs_on, used_all, leads_all}
use Rattle.actor_laws.specs.node_moves.Shows.{mode_of, NodeShown}
use Rattle.actor_laws.specs.node_moves.Steps.{StepShown, AnswerShown, shown_fills}
use Rattle.actor_laws.proofs.node_moves.Beside.{node_beside}
use Rattle.actor_laws.proofs.node_moves.Told.{packet_kept, all_shown, both_shown, none_shown, sent_early, sent_late, fills_on}
use Rattle.world_steps.specs.Answers.{answered, stepped}
use Rattle.world_steps.specs.World.{Down, HouseAt, IsUp, Up, WorldOf, node_in, put_node}
use Rattle.actor_laws.specs.house_moves.Shows.{OpenShown}
use Rattle.actor_laws.specs.house_moves.Steps.{tables_meaning}
use Rattle.disk.specs.Device.{Device}
use Rattle.run_laws.specs.Shown.{UpAt, Closed, HouseShown, DiskShown, Shown, TiedSince}
use Rattle.run_laws.proofs.Places.{put_here, put_beside, new_or_old}

-- the clearinghouse stays shown by moves of a worker
module _ (v x : View) (i : ℕ) (worker : of_worker i ≡ true) (same : SameHouse v x) (keeps : KeepsSent v x)
    (others : (j : ℕ) → (j ≡ i → ⊥) → SameAt v x j) (own : x.mode i ≡ House → ⊥) (names : (j : ℕ)
    → v.mode j ≡ House → of_worker j ≡ false) where
  was_house : (j : ℕ) → x.mode j ≡ House → v.mode j ≡ House
  was_house j e = ⊎_elim (λ (is : j ≡ i). absurd (own (rw is at e))) (λ other. sym (others j other).mode
      ∙ e) (same_or j i)

  open_beside : (h : HouseOf) → OpenShown v h → OpenShown x h
  open_beside h s =
      let apart : name_of h ≡ i → ⊥ = λ e. (let house =
      names (name_of h) s.mode in let w : of_worker (name_of h) ≡ true = rw e worker in let two : true ≡ false =
      sym w ∙ house in cc) in
      let at = others (name_of h) apart in
      record {
        mode = at.mode ∙ s.mode;
        roster = s.roster;
        is = same.house ∙ s.is;
        shows = s.shows;
        room = s.room;
        minted = at.minted ∙ s.minted;
        replies = λ t. rw (at.kept t) (s.replies t);
        said = λ t r e. packet_kept keeps r.packet (s.said t r e);
        root = rw same.root s.root;
        stored = same.stored ∙ s.stored;
        epoch = same.epoch ∙ s.epoch;
        only = λ j e. s.only j (was_house j e);
      }

  closed_beside : Closed v → Closed x
  closed_beside c = record { none = same.house ∙ c.none; nobody = λ j e. c.nobody j (was_house j e) }

  pub house_beside : (house : HouseAt) → HouseShown v house → HouseShown x house
  house_beside Down s = closed_beside s
  house_beside (IsUp (Open h)) s = record { shown = open_beside h s.shown; sound = s.sound }
  house_beside (IsUp (Stopped why)) s = closed_beside s

-- so does its disk
pub disk_beside : (job : JobOf) (v x : View) (d : Device) (house : HouseAt) → SameHouse v x
    → DiskShown job v d house → DiskShown job x d house
disk_beside job v x d house same s =
    record {
      sequence = s.sequence;
      found = s.found;
      keeps = s.keeps;
      own = s.own;
      stored = same.stored ∙ s.stored;
      epoch = rw same.epoch s.epoch;
      saved = s.saved;
      held = s.held;
    }

-- a node's mode is no house's
pub not_house : (v : View) (n : NodeOf) → NodeShown v n → v.mode n.incarnation ≡ House → ⊥
not_house v n s e = by_state n.state (sym s.mode ∙ e)
  where
    by_state : (x : Stage) → mode_of x ≡ House → ⊥
    by_state Joining e = cc
    by_state (Member r) e = cc
    by_state (Leaving r heir) e = cc
    by_state Ended e = cc

module _ (job : JobOf) (base v : View) (w : WorldOf) (run : Run (tables_meaning job) v) (since : Leads base v)
    (shown : Shown job v w) (a : ℕ) (n : NodeOf) (there : node_in a w.nodes ≡ Some n) where
  stepped_shown : (s : node.StepOf) → (step : StepShown (tables_meaning job) job.number v n s)
      → Shown job step.view (stepped a s w).world
  stepped_shown s step =
      let x = step.view in
      let keeps : KeepsSent v x = keeps_all step.way in
      let same : SameHouse v x = house_all step.way in
      let used : x.used ≡ v.used = used_all step.way in
      let others : (j : ℕ) → (j ≡ n.incarnation → ⊥) → SameAt v x j = beside step.way in
      let worker : of_worker n.incarnation ≡ true = shown.workers a n there in
      let own : x.mode n.incarnation ≡ House → ⊥ = λ e. not_house x s.after step.node (rw step.name e) in
      let two : List Up = put_node a s.after w.nodes in
      record {
        nodes = λ b o at. ⊎_elim
            (λ new. rw (new.1) step.node)
            (λ old. node_beside v x o (others o.incarnation (λ e. old.0 (shown.apart b a o n old.1 there e))) keeps
            (shown.nodes b o old.1))
            (new_or_old a b s.after o w.nodes at);
        workers = λ b o at. ⊎_elim
            (λ new. rw (new.1, step.name) worker)
            (λ old. shown.workers b o old.1)
            (new_or_old a b s.after o w.nodes at);
        started = λ b o at. ⊎_elim
            (λ new. rw (new.1, step.name) (shown.started a n there))
            (λ old. shown.started b o old.1)
            (new_or_old a b s.after o w.nodes at);
        apart = λ b c o p at bt e. ⊎_elim
            (λ new. ⊎_elim
            (λ also. new.0 ∙ sym also.0)
            (λ old. absurd (old.0 (shown.apart c a p n old.1 there (sym e ∙ ap (λ (z : NodeOf). z.incarnation) new.1
            ∙ step.name))))
            (new_or_old a c s.after p w.nodes bt))
            (λ old. ⊎_elim
            (λ new. absurd (old.0 (shown.apart b a o n old.1 there (e ∙ ap (λ (z : NodeOf). z.incarnation) new.1
            ∙ step.name))))
            (λ also. shown.apart b c o p old.1 also.1 e)
            (new_or_old a c s.after p w.nodes bt))
            (new_or_old a b s.after o w.nodes at);
        up = λ i works not. ⊎_elim
            (λ (is : i ≡ n.incarnation). record {
              at = a;
              node = s.after;
              there = put_here a s.after w.nodes;
              name = step.name ∙ sym is;
            })
            (λ other. (
            let mode = (others i other).mode in
            let old : UpAt w i = shown.up i (rw mode at works) (λ e. not (mode ∙ e)) in
            let elsewhere : old.at ≡ a → ⊥ = λ e. (let here : node_in a w.nodes ≡ Some old.node =
            rw e at old.there in other (sym old.name
            ∙ ap (λ (z : NodeOf). z.incarnation) (one_found here there))) in
            record {
              at = old.at;
              node = old.node;
              there = put_beside a old.at s.after w.nodes elsewhere ∙ old.there;
              name = old.name;
            }))
            (same_or i n.incarnation);
        words = λ i m of. shown.words i (rw used at m) of;
        house = house_beside v x n.incarnation worker same keeps others own
            (homes_reached (run_reached run)).house_name w.house shown.house;
        disk = disk_beside job v x w.disk w.house same shown.disk;
        net = both_shown x w.net s.sent (all_shown keeps w.net shown.net) step.sent;
        sent = λ t m. ⊎_elim (λ old. sent_early w.net s.sent t (shown.sent t old)) (λ new. sent_late w.net s.sent t new)
            (step.transfers t m);
        fills = step.fills ∙ ap (λ fs. shown_fills s.fills fs) shown.fills ∙ sym (fills_on w.fills s.fills []);
      }

  -- what a node answers leads to a world that is tied as well
  pub answered_tied : (ans : node.Answer) → AnswerShown (tables_meaning job) job.number v n ans
      → TiedSince job base (answered a ans w).world
  answered_tied node.Ignored s = record { view = v; run = run; since = since; shown = shown }
  answered_tied (node.Refused e) s = record { view = v; run = run; since = since; shown = shown }
  answered_tied (node.Does step) s = record {
    view = s.view;
    run = runs_on run s.way;
    since = leads_all since s.way;
    shown = stepped_shown step s;
  }
  answered_tied (node.Forgets k) s =
      let quietly : StepShown (tables_meaning job) job.number v n (node.quiet k) =
      record {
        view = v;
        way = unmoved;
        name = s.1;
        node = s.0;
        sent = none_shown v;
        transfers = λ t m. inl m;
        fills = refl;
      } in
      let there : TiedSince job base (stepped a (node.quiet k) w).world =
      record { view = v; run = run; since = since; shown = stepped_shown (node.quiet k) quietly } in
      let same_net : (stepped a (node.quiet k) w).world
      ≡ record w { nodes = put_node a k w.nodes; fills = w.fills ++ [] } =
      ap (λ net. record w { nodes = put_node a k w.nodes; net = net; fills = w.fills ++ [] }) (append-nil w.net) in
      let same_fills : record w { nodes = put_node a k w.nodes; fills = w.fills ++ [] }
      ≡ record w { nodes = put_node a k w.nodes } =
      ap (λ fills. record w { nodes = put_node a k w.nodes; fills = fills }) (append-nil w.fills) in
      subst (TiedSince job base) (same_net ∙ same_fills) there

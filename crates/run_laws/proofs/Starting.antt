-- A node starts, and one crashes.
use Rattle.std.proofs.Common.{◌≡◌, ℕ, true, false, [], ◌∷◌, inl, ⊎_elim, Option, None, Some, is_some, refl, sym, ap, ◌∙◌}
use Rattle.ids.proofs.Replacing.{put_is_found}
use Rattle.agreement_laws.proofs.Finding.{put_stays}
use Rattle.serial_meaning.specs.Job.{JobOf}
use Rattle.steal_protocol.specs.Replies.{name_of_reply}
use Rattle.subcomputation.specs.Subs.{name_of_sub}
use Rattle.node_state.specs.Node.{NodeOf, ended, starting}
use Rattle.node_state.specs.declared.parts.State.{State as Stage}
use Rattle.node_state.specs.declared.parts.State.TheVariants.{Joining, Member, Leaving, Ended}
use Rattle.node_steps.specs.Calls as call
use Rattle.node_steps.specs.Steps.{quiet}
use Rattle.table_laws.specs.Tables.{◌∈◌}
use Rattle.table_laws.specs.View.{Transfer, House, Works, View}
use Rattle.table_laws.specs.View as tables
use Rattle.table_laws.specs.Facts.{of_worker}
use Rattle.table_laws.specs.Moves.{start}
use Rattle.table_laws.specs.Acts as acts
use Rattle.table_laws.specs.Runs.{Run, by_right, Leads, leads_on}
use Rattle.table_laws.proofs.Entries.{put_here as entry_here, put_other as entry_other, clear_here, clear_other}
use Rattle.table_laws.proofs.HomesKept.{homes_reached}
use Rattle.table_laws.proofs.Lists.{same_or, one_found}
use Rattle.table_laws.proofs.ValuesKept.{run_reached}
use Rattle.content_laws.proofs.Orders.{none_order}
use Rattle.move_laws.specs.Beside.{SameAt, SameHouse, KeepsSent, unmoved}
use Rattle.move_laws.proofs.Others.{beside}
use Rattle.move_laws.proofs.Sent.{house_all, keeps_all, keeps_one, runs_on, used_all, leads_all}
use Rattle.actor_laws.specs.node_moves.Shows.{PartsShown, NodeShown}
use Rattle.actor_laws.specs.node_moves.Steps.{StepShown}
use Rattle.actor_laws.proofs.node_moves.Beside.{node_beside}
use Rattle.actor_laws.proofs.node_moves.Told.{all_shown, both_shown, one_shown, sent_early, fills_on}
use Rattle.actor_laws.proofs.node_moves.Rostering.{ends_shown}
use Rattle.world_steps.specs.Answers.{stepped}
use Rattle.world_steps.specs.World.{WorldOf, is_used, name_of_word, node_in, with_used, without_node}
use Rattle.actor_laws.specs.house_moves.Steps.{tables_meaning}
use Rattle.run_laws.specs.Shown.{UpAt, Shown, TiedSince}
use Rattle.run_laws.proofs.Places.{put_here, put_beside, gone_beside, new_or_old, left_there}
use Rattle.run_laws.proofs.Stepping.{disk_beside, house_beside, not_house}

-- the tables of others stay where one starts
start_beside : (v : View) (i j : ℕ) → (j ≡ i → ⊥) → SameAt v (start v i) j
start_beside v i j apart = record {
  mode = entry_other v.mode i j _ apart;
  minted = entry_other v.minted i j _ apart;
  asked = entry_other v.asked i j _ apart;
  seen = λ g. clear_other v.seen i j g apart;
  subs = λ g. clear_other v.subs i j g apart;
  pending = entry_other v.pending i j _ apart;
  kept = λ t. clear_other v.kept i j t apart;
  roster = entry_other v.roster i j _ apart;
}

-- one that starts is shown
start_shown : (v : View) (i : ℕ) → NodeShown (start v i) (starting i)
start_shown v i =
    let parts : PartsShown (start v i) (starting i) = record {
      minted = entry_here v.minted i 0;
      asked = entry_here v.asked i 0;
      pending = entry_here v.pending i None;
      seen = λ g. clear_here v.seen i g;
      subs = λ g. rw (clear_here v.subs i g) tt;
      order = none_order name_of_sub;
      replies = λ t. rw (clear_here v.kept i t) tt;
      said = λ t r e. cc;
      reply_order = none_order name_of_reply;
      confirmed = λ t g e. cc;
      roster = tt;
    } in
    record { mode = entry_here v.mode i tables.Joining; parts = λ up. parts }

-- start words that were used stay so
used_here : (word : ℕ) (w : WorldOf) → is_used word (with_used word w) ≡ true
used_here word w = ap (λ (o : Option ℕ). is_some o) (put_is_found name_of_word word w.used)

used_still : (word i : ℕ) (w : WorldOf) → is_used i w ≡ true → is_used i (with_used word w) ≡ true
used_still word i w used = ⊎_elim
    (λ (same : i ≡ word). ap (λ (k : ℕ). is_used k (with_used word w)) same ∙ used_here word w)
    (λ (other : i ≡ word → ⊥). ap (λ (o : Option ℕ). is_some o)
    (put_stays name_of_word (i, 0) word w.used (λ z. other (ap (λ (k : ℕ × ℕ). k.0) z))) ∙ used)
    (same_or i word)

module _ (job : JobOf) (base v : View) (w : WorldOf) (run : Run (tables_meaning job) v) (since : Leads base v)
    (shown : Shown job v w) where
  -- a node starts at a place where none is, with a word that wasn't used
  pub start_tied : (a word : ℕ) → of_worker word ≡ true → is_used word w ≡ false → node_in a w.nodes ≡ None
      → TiedSince job base (stepped a (call.start job word) (with_used word w)).world
  start_tied a word worker unused free =
      let new : word ∈ v.used → ⊥ = λ m. (let used = shown.words word m worker in let two : true ≡ false =
      sym used ∙ unused in cc) in
      let act : acts.Act v (start v word) = acts.starts word new worker in
      let x : View = start v word in
      let keeps : KeepsSent v x = keeps_one act in
      let same : SameHouse v x = record { rosters = refl; house = refl; root = refl; stored = refl; epoch = refl } in
      let others : (j : ℕ) → (j ≡ word → ⊥) → SameAt v x j = λ j apart. start_beside v word j apart in
      let none : v.mode word ≡ House → ⊥ =
      λ e. (let house = (homes_reached (run_reached run)).house_name word e in let two : true ≡ false =
      sym worker ∙ house in cc) in
      let own : x.mode word ≡ House → ⊥ =
      λ e. (let two : tables.Joining ≡ tables.House = sym (entry_here v.mode word tables.Joining) ∙ e in cc) in
      let fresh : (b : ℕ) (n : NodeOf) → node_in b w.nodes ≡ Some n → n.incarnation ≡ word
      → ⊥ = λ b n at e. (let used : is_used word w ≡ true =
      rw e at (shown.started b n at) in let two : true ≡ false = sym used ∙ unused in cc) in
      record {
        view = x;
        run = by_right run act tt;
        since = leads_on since act;
        shown = record {
          nodes = λ b o at. ⊎_elim
              (λ now. rw (now.1) (start_shown v word))
              (λ old. node_beside v x o (others o.incarnation (fresh b o old.1)) keeps (shown.nodes b o old.1))
              (new_or_old a b (starting word) o w.nodes at);
          workers = λ b o at. ⊎_elim (λ now. rw (now.1) worker) (λ old. shown.workers b o old.1)
              (new_or_old a b (starting word) o w.nodes at);
          started = λ b o at. ⊎_elim (λ now. rw (now.1) (used_here word w))
              (λ old. used_still word o.incarnation w (shown.started b o old.1))
              (new_or_old a b (starting word) o w.nodes at);
          apart = λ b c o p at bt e. ⊎_elim
              (λ now. ⊎_elim (λ also. now.0 ∙ sym also.0)
              (λ old. absurd (fresh c p old.1 (sym e ∙ ap (λ (z : NodeOf). z.incarnation) now.1)))
              (new_or_old a c (starting word) p w.nodes bt))
              (λ old. ⊎_elim (λ now. absurd (fresh b o old.1 (e ∙ ap (λ (z : NodeOf). z.incarnation) now.1)))
              (λ also. shown.apart b c o p old.1 also.1 e) (new_or_old a c (starting word) p w.nodes bt))
              (new_or_old a b (starting word) o w.nodes at);
          up = λ i works not. ⊎_elim
              (λ (is : i ≡ word). record {
                at = a;
                node = starting word;
                there = put_here a (starting word) w.nodes;
                name = sym is;
              })
              (λ (other : i ≡ word → ⊥). (
              let mode = (others i other).mode in
              let old : UpAt w i = shown.up i (rw mode at works) (λ e. not (mode ∙ e)) in
              let elsewhere : old.at ≡ a → ⊥ =
              λ e. (let here : node_in a w.nodes ≡ Some old.node =
              rw e at old.there in let two : None ≡ Some old.node = sym free ∙ here in cc) in
              record {
                at = old.at;
                node = old.node;
                there = put_beside a old.at (starting word) w.nodes elsewhere ∙ old.there;
                name = old.name;
              }))
              (same_or i word);
          words = λ i m of. ⊎_elim (λ (e : i ≡ word). ap (λ (k : ℕ). is_used k (with_used word w)) e
              ∙ used_here word w) (λ old. used_still word i w (shown.words i old of)) m;
          house = house_beside v x word worker same keeps others own
              (homes_reached (run_reached run)).house_name w.house shown.house;
          disk = disk_beside job v x w.disk w.house same shown.disk;
          net = both_shown x w.net (call.join job word ∷ []) (all_shown keeps w.net shown.net)
              (one_shown x (call.join job word) (inl refl, worker));
          sent = λ t m. sent_early w.net (call.join job word ∷ []) t (shown.sent t m);
          fills = shown.fills ∙ sym (fills_on w.fills [] []);
        };
      }

  -- a node is gone, whose work is over in the tables
  pub gone_tied : (a : ℕ) (n : NodeOf) → node_in a w.nodes ≡ Some n
      → TiedSince job base (record w { nodes = without_node a w.nodes })
  gone_tied a n there = by_stage n.state refl
    where
      by_step : (s : StepShown (tables_meaning job) job.number v n (quiet (ended n)))
          → TiedSince job base (record w { nodes = without_node a w.nodes })
      by_step s =
          let x = s.view in
          let keeps : KeepsSent v x = keeps_all s.way in
          let same : SameHouse v x = house_all s.way in
          let others : (j : ℕ) → (j ≡ n.incarnation → ⊥) → SameAt v x j = beside s.way in
          let mode : x.mode n.incarnation ≡ tables.Gone = s.node.mode in
          let used : x.used ≡ v.used = used_all s.way in
          let own : x.mode n.incarnation ≡ House → ⊥ =
          λ e. (let two : tables.Gone ≡ tables.House = sym mode ∙ e in cc) in
          record {
            view = x;
            run = runs_on run s.way;
            since = leads_all since s.way;
            shown = record {
              nodes = λ b o at. (let k = left_there a b o w.nodes at in node_beside v x o
                  (others o.incarnation (λ e. k.0 (shown.apart b a o n k.1 there e))) keeps (shown.nodes b o k.1));
              workers = λ b o at. shown.workers b o (left_there a b o w.nodes at).1;
              started = λ b o at. shown.started b o (left_there a b o w.nodes at).1;
              apart = λ b c o p at bt e. shown.apart b c o p (left_there a b o w.nodes at).1
                  (left_there a c p w.nodes bt).1 e;
              up = λ i works not. ⊎_elim
                  (λ (is : i ≡ n.incarnation). let none : x.mode i ≡ tables.Gone =
                  rw is mode in let never : Works tables.Gone = rw none at works in absurd never)
                  (λ (other : i ≡ n.incarnation → ⊥). (
                  let m = (others i other).mode in
                  let old : UpAt w i = shown.up i (rw m at works) (λ e. not (m ∙ e)) in
                  let elsewhere : old.at ≡ a → ⊥ =
                  λ e. (let here : node_in a w.nodes ≡ Some old.node =
                  rw e at old.there in other (sym old.name
                  ∙ ap (λ (z : NodeOf). z.incarnation) (one_found here there))) in
                  record {
                    at = old.at;
                    node = old.node;
                    there = gone_beside a old.at w.nodes elsewhere ∙ old.there;
                    name = old.name;
                  }))
                  (same_or i n.incarnation);
              words = λ i m of. shown.words i (rw used at m) of;
              house = house_beside v x n.incarnation (shown.workers a n there) same keeps others own
                  (homes_reached (run_reached run)).house_name w.house shown.house;
              disk = disk_beside job v x w.disk w.house same shown.disk;
              net = all_shown keeps w.net shown.net;
              sent = λ t m. ⊎_elim (λ old. shown.sent t old) (λ never. absurd never.there) (s.transfers t m);
              fills = s.fills ∙ shown.fills;
            };
          }

      ends : Works (v.mode n.incarnation) → TiedSince job base (record w { nodes = without_node a w.nodes })
      ends up = by_step (ends_shown (tables_meaning job) job v n run (shown.nodes a n there) up
          (not_house v n (shown.nodes a n there)))

      by_stage : (x : Stage) → n.state ≡ x → TiedSince job base (record w { nodes = without_node a w.nodes })
      by_stage Joining e = ends (rw ((shown.nodes a n there).mode, e) tt)
      by_stage (Member r) e = ends (rw ((shown.nodes a n there).mode, e) tt)
      by_stage (Leaving r heir) e = ends (rw ((shown.nodes a n there).mode, e) tt)
      by_stage Ended e =
          let k = shown.nodes a n there in
          let mode : v.mode n.incarnation ≡ tables.Gone = rw e at k.mode in
          by_step (record {
            view = v;
            way = unmoved;
            name = refl;
            node = record { mode = mode; parts = λ never. absurd never };
            sent = λ p m. absurd m;
            transfers = λ t m. inl m;
            fills = refl;
          })

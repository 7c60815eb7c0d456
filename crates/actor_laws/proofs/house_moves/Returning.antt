-- A Result comes to the clearinghouse: that of the root's grant is recorded, any other is
-- acknowledged.
use Rattle.std.proofs.Common.{◌≡◌, ◌+◌, ◌^◌, Bool, true, false, cond, not, nat_lt, [], ◌∷◌, inl, Option, None, Some, refl, sym, ap, ◌∙◌}
use Rattle.std.specs.Ordering.{eq_by_cmp, is_eq}
use Rattle.ids.specs.Names.{Grant, grant_cmp}
use Rattle.ids.specs.Naming.{name_of_grant}
use Rattle.ids.proofs.NameOrder.{equal_to_itself}
use Rattle.codec.specs.Table.{PacketOf}
use Rattle.codec.specs.declared.body.Body.TheVariants as body
use Rattle.codec.specs.declared.body.TaskResult.{TaskResult}
use Rattle.serial_meaning.specs.Job.{JobOf}
use Rattle.clearinghouse.specs.Cases as cases
use Rattle.clearinghouse.specs.House.{HouseOf, is_root, name_of}
use Rattle.clearinghouse.specs.Moves as moves
use Rattle.clearinghouse.specs.Steps as house
use Rattle.clearinghouse.specs.declared.error.HouseError.TheVariants as error
use Rattle.clearinghouse.specs.declared.parts.RootGrant.{RootGrant}
use Rattle.table_laws.specs.Tables.{◌∈◌}
use Rattle.table_laws.specs.View.{View}
use Rattle.table_laws.specs.Facts.{result_to}
use Rattle.table_laws.specs.Guards.{MayCommit, MaySettleAtHouse}
use Rattle.table_laws.specs.Moves.{commit, settle}
use Rattle.table_laws.specs.Acts as acts
use Rattle.table_laws.specs.Runs.{Run, by_right, leads_on}
use Rattle.content_laws.specs.Shown.{outcome_number}
use Rattle.move_laws.specs.Beside.{KeepsSent}
use Rattle.move_laws.proofs.Others.{all_same}
use Rattle.move_laws.proofs.Sent.{keeps_one}
use Rattle.actor_laws.proofs.node_moves.LeavingRows.{exact_grants}
use Rattle.actor_laws.proofs.node_moves.Told.{packet_kept, one_shown}
use Rattle.actor_laws.specs.house_moves.Shows.{OpenShown, ShowsRoot}
use Rattle.actor_laws.specs.house_moves.Steps.{HouseStepShown, HouseAnswerShown, tables_meaning}

itself : (g : Grant) → eq_by_cmp grant_cmp g g ≡ true
itself g = ap is_eq (equal_to_itself (name_of_grant g))

-- a grant that isn't the root's isn't that of the tables
not_root : (g : Grant) (o : Option Grant) (q : Option RootGrant) → ShowsRoot o q → is_root g q ≡ false → o ≡ Some g → ⊥
not_root g None q s e f = cc
not_root g (Some k) None s e f = s
not_root g (Some k) (Some r) s e f =
    let same : k ≡ g = cc in
    let own : r.grant ≡ g = sym s ∙ same in
    let yes : eq_by_cmp grant_cmp r.grant g ≡ true = ap (λ (x : Grant). eq_by_cmp grant_cmp x g) own ∙ itself g in
    let two : true ≡ false = sym yes ∙ e in
    cc

-- one that is is
the_root : (g : Grant) (o : Option Grant) (q : Option RootGrant) → ShowsRoot o q → is_root g q ≡ true → o ≡ Some g
the_root g None None s e = cc
the_root g None (Some r) s e = absurd s
the_root g (Some k) None s e = absurd s
the_root g (Some k) (Some r) s e = ap (λ (x : Grant). Some x) (s ∙ exact_grants r.grant g e)

module _ (job : JobOf) (v : View) (run : Run (tables_meaning job) v) (h : HouseOf) (s : OpenShown v h) (b : TaskResult)
    (came : result_to b.grant (name_of h) (outcome_number b.outcome) ∈ v.results) where
  abbrev ack : PacketOf
  ack = moves.packet job b.from (body.ResultAck (record { grant = b.grant }))

  settles_shown : is_root b.grant h.root ≡ false → HouseStepShown job v h (house.sends (ack ∷ []) h)
  settles_shown other =
      let may : MaySettleAtHouse v (name_of h) b.grant =
      record {
        house = s.mode;
        outcome = outcome_number b.outcome;
        result = came;
        other = not_root b.grant v.root h.root s.root other;
      } in
      let act : acts.Act v (settle v b.grant) = acts.settles_at_house (name_of h) b.grant may in
      let view : View = settle v b.grant in
      let keeps : KeepsSent v view = keeps_one act in
      record {
        view = view;
        run = λ k. by_right k act tt;
        since = λ base k. leads_on k act;
        keeps = keeps;
        others = λ j apart. assumption (all_same v j);
        used = refl;
        same_name = refl;
        after = record {
          mode = s.mode;
          roster = s.roster;
          is = s.is;
          shows = s.shows;
          room = s.room;
          minted = s.minted;
          replies = s.replies;
          said = λ t r e. packet_kept keeps r.packet (s.said t r e);
          root = s.root;
          stored = s.stored;
          epoch = s.epoch;
          only = s.only;
        };
        sent = one_shown view ack (inl refl);
        transfers = λ t m. inl m;
        fills = refl;
        keeps_transfers = λ k e. cc;
      }

  records_shown : is_root b.grant h.root ≡ true → HouseStepShown job v h (moves.records b.outcome (ack ∷ []) h)
  records_shown own =
      let may : MayCommit v (name_of h) b.grant (outcome_number b.outcome) =
      record { house = s.mode; recorded = the_root b.grant v.root h.root s.root own; result = came } in
      let act : acts.Act v (commit v b.grant (outcome_number b.outcome)) =
      acts.commits (name_of h) b.grant (outcome_number b.outcome) may in
      let view : View = commit v b.grant (outcome_number b.outcome) in
      let keeps : KeepsSent v view = keeps_one act in
      record {
        view = view;
        run = λ k. by_right k act tt;
        since = λ base k. leads_on k act;
        keeps = keeps;
        others = λ j apart. assumption (all_same v j);
        used = refl;
        same_name = refl;
        after = record {
          mode = s.mode;
          roster = s.roster;
          is = s.is;
          shows = s.shows;
          room = s.room;
          minted = s.minted;
          replies = s.replies;
          said = λ t r e. packet_kept keeps r.packet (s.said t r e);
          root = tt;
          stored = refl;
          epoch = s.epoch;
          only = s.only;
        };
        sent = one_shown view ack (inl refl);
        transfers = λ t m. inl m;
        fills = refl;
        keeps_transfers = λ k e t m. m;
      }

  pub returned_shown : HouseAnswerShown job v h (cases.returned job b h)
  returned_shown = by_root (is_root b.grant h.root) refl
    where
      by_room : is_root b.grant h.root ≡ true → (x : Bool)
          → HouseAnswerShown job v h (cond x (house.Does (moves.records b.outcome (ack ∷ []) h))
          (house.Refused error.Spent))
      by_room own true = records_shown own
      by_room own false = tt

      by_root : (x : Bool) → is_root b.grant h.root ≡ x
          → HouseAnswerShown job v h (cond (not x) (house.Does (house.sends (ack ∷ []) h))
          (cond (nat_lt (h.sequence + 1) (2 ^ 64)) (house.Does (moves.records b.outcome (ack ∷ []) h))
          (house.Refused error.Spent)))
      by_root false e = settles_shown e
      by_root true e = by_room e (nat_lt (h.sequence + 1) (2 ^ 64))

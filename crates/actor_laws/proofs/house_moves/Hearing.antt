-- Who is listed is told so: a Join, and a Beat, of any worker.
use Rattle.std.proofs.Common.{◌≡◌, ℕ, Bool, true, false, cond, nat_eq, nat_lt, List, [], ◌∷◌, length, map, inl, inr, ⊎_elim, Option, None, Some, refl, sym, ap, ◌∙◌, arith}
use Rattle.std.specs.Ordering.{is_eq}
use Rattle.ids.specs.Keyed.{has_key}
use Rattle.ids.specs.Named.{item_in, name_cmp}
use Rattle.ids.specs.Ordered.{AreInOrder}
use Rattle.std.specs.Option.{option_map}
use Rattle.std.proofs.lemmas.List.{length-map}
use Rattle.ids.specs.Naming.{name_of_member}
use Rattle.ids.specs.Options.{◌>>=◌}
use Rattle.ids.specs.Members.{says_live, status_in}
use Rattle.clearinghouse.specs.Laws.{living, one_if}
use Rattle.clearinghouse.proofs.Changing.{change_at, change_keeps, changed_everywhere}
use Rattle.ids.specs.declared.member.Member.{Member}
use Rattle.ids.specs.declared.member.Status.{Status}
use Rattle.ids.specs.declared.member.Status.TheVariants as member
use Rattle.ids.proofs.NameOrder.{equal_to_itself}
use Rattle.codec.specs.Table.{is_house}
use Rattle.codec.specs.declared.body.Beat.{Beat}
use Rattle.serial_meaning.specs.Job.{JobOf}
use Rattle.clearinghouse.specs.Cases as cases
use Rattle.clearinghouse.specs.House.{HouseOf, member_of, members_of, name_of, name_of_enlisted, roster_of}
use Rattle.clearinghouse.specs.Moves as moves
use Rattle.clearinghouse.specs.Steps as house
use Rattle.clearinghouse.specs.declared.parts.Enlisted.{Enlisted}
use Rattle.table_laws.specs.Tables.{◌∈◌}
use Rattle.table_laws.specs.View.{View}
use Rattle.table_laws.specs.View as tables
use Rattle.table_laws.specs.Facts.{of_worker}
use Rattle.table_laws.specs.Runs.{Run}
use Rattle.table_laws.proofs.RostersReached.{rosters_reached}
use Rattle.table_laws.proofs.ValuesKept.{run_reached}
use Rattle.move_laws.specs.Listed.{status_of}
use Rattle.move_laws.proofs.Others.{all_same}
use Rattle.move_laws.proofs.Sent.{all_kept}
use Rattle.actor_laws.specs.node_moves.Shows.{RosterShown}
use Rattle.actor_laws.proofs.node_moves.Told.{one_shown}
use Rattle.actor_laws.specs.house_moves.Shows.{OpenShown}
use Rattle.actor_laws.specs.house_moves.Steps.{HouseStepShown, HouseAnswerShown, tables_meaning}
use Rattle.actor_laws.proofs.house_moves.Listed.{kept_found, mapped_status, status_kept}
use Rattle.actor_laws.proofs.house_moves.Joining.{new_joined_shown}
use Rattle.actor_laws.proofs.house_moves.Then.{quietly}

-- where nobody is listed, the list is empty
nobody : (ms : List Member) → ((j : ℕ) → status_of (status_in j ms) ≡ tables.Unlisted) → ms ≡ []
nobody [] all = refl
nobody (x ∷ ms) all = absurd (listed x.status (ap status_of (sym first) ∙ all x.incarnation))
  where
    first : status_in x.incarnation (x ∷ ms) ≡ Some x.status
    first = ap (λ r. cond (is_eq r) (Some x) (item_in name_of_member (x.incarnation, 0) ms) >>= (λ y. Some y.status))
        (equal_to_itself (name_of_member x))

    listed : (s : Status) → status_of (Some s) ≡ tables.Unlisted → ⊥
    listed member.Live e = cc
    listed member.Dead e = cc
    listed (member.Left heir) e = cc

-- one is heard
abbrev hear_at : (i moment : ℕ) → Enlisted → Enlisted
hear_at i moment w = change_at name_of_enlisted (λ x. record x { heard = moment }) (i, 0) w

module _ (i moment : ℕ) where
  same_name : (w : Enlisted) → name_of_enlisted (hear_at i moment w) ≡ name_of_enlisted w
  same_name w = change_keeps name_of_enlisted (λ x. record x { heard = moment }) (λ x. refl) (i, 0) w

  same_status : (w : Enlisted) → (hear_at i moment w).status ≡ w.status
  same_status w = by_test (has_key name_of_enlisted name_cmp (i, 0) w)
    where
      by_test : (b : Bool) → (cond b (record w { heard = moment }) w).status ≡ w.status
      by_test true = refl
      by_test false = refl

  -- what is said of each stays
  heard_same : (j : ℕ) (ws : List Enlisted) → AreInOrder name_of_enlisted ws
      → status_in j (map member_of (moves.changed (λ w. record w { heard = moment }) i ws))
      ≡ status_in j (map member_of ws)
  heard_same j ws rising =
      ap (λ xs. status_in j (map member_of xs))
      (changed_everywhere name_of_enlisted (λ x. record x { heard = moment }) (λ x. refl) (i, 0) ws rising)
      ∙ mapped_status (hear_at i moment) same_name j ws
      ∙ by_item (item_in name_of_enlisted (j, 0) ws)
      ∙ sym (kept_found j ws)
    where
      by_item : (o : Option Enlisted) → status_kept (option_map (hear_at i moment) o) ≡ status_kept o
      by_item None = refl
      by_item (Some w) = ap (λ x. Some x) (same_status w)

  -- so as many live
  heard_live : (ws : List Enlisted) → living (map (hear_at i moment) ws) ≡ living ws
  heard_live [] = refl
  heard_live (w ∷ ws) = let here : one_if (says_live (Some (hear_at i moment w).status))
      ≡ one_if (says_live (Some w.status)) = ap (λ x. one_if (says_live (Some x))) (same_status w) in let rest =
      heard_live ws in omega (arith, here, rest)

module _ (job : JobOf) (v : View) (run : Run (tables_meaning job) v) (h : HouseOf) (s : OpenShown v h) where
  -- somebody is heard
  pub hears_shown : (i : ℕ) → AreInOrder name_of_enlisted h.workers → OpenShown v (moves.hears i h)
  hears_shown i rising =
      let everywhere = changed_everywhere name_of_enlisted (λ x. record x { heard = h.moment }) (λ x. refl)
      (i, 0) h.workers rising in
      let long : length (moves.hears i h).workers ≡ length h.workers =
      ap length everywhere ∙ length-map h.workers (hear_at i h.moment) in
      let live : living (moves.hears i h).workers ≡ living h.workers =
      ap living everywhere ∙ heard_live i h.moment h.workers in
      let members : length (members_of (moves.hears i h)) ≡ length (moves.hears i h).workers =
      length-map (moves.hears i h).workers member_of in
      let old = s.room in
      record {
        mode = s.mode;
        roster = s.roster;
        is = s.is;
        shows =
            record {
              epoch = s.shows.epoch;
              version = s.shows.version;
              members =
                  record {
                    status = λ j. s.shows.members.status j
                        ∙ ap status_of (sym (heard_same i h.moment j h.workers rising));
                    few = omega (arith, long, members, old);
                  };
            };
        room = omega (arith, long, live, old);
        minted = s.minted;
        replies = s.replies;
        said = s.said;
        root = s.root;
        stored = s.stored;
        epoch = s.epoch;
        only = s.only;
      }

  -- somebody is told who is listed
  told_shown : (i : ℕ) → RosterShown v.rosters (roster_of h)
  told_shown i = record {
    roster = s.roster;
    shows = s.shows;
    had = ⊎_elim (λ m. inl m) (λ all. inr (nobody (members_of h) (λ j. sym (s.shows.members.status j) ∙ all j)))
        ((rosters_reached (run_reached run)).house_had s.roster s.is);
  }

-- a step that tells a worker who is listed
pub tells_shown : (job : JobOf) (v : View) (run : Run (tables_meaning job) v) (i : ℕ) (h k : HouseOf)
    → name_of h ≡ name_of k → OpenShown v k → HouseStepShown job v h (moves.tells job i k)
tells_shown job v run i h k name s =
    record {
      view = v;
      run = λ x. x;
      since = λ base x. x;
      keeps = all_kept v;
      others = λ j apart. all_same v j;
      used = refl;
      same_name = name;
      after = s;
      sent = one_shown v (moves.roster_for job i k) (told_shown job v run k s i);
      transfers = λ t m. inl m;
      fills = refl;
      keeps_transfers = λ k e. cc;
    }

module _ (job : JobOf) (v : View) (run : Run (tables_meaning job) v) (h : HouseOf) (s : OpenShown v h)
    (rising : AreInOrder name_of_enlisted h.workers) where
  -- a Join
  pub joined_shown : (i : ℕ) → i ∈ v.used → of_worker i ≡ true → HouseAnswerShown job v h (cases.joined job i h)
  unfolding cases.by_status
  joined_shown i used worker = by_what (status_in i (members_of h)) refl
    where
      by_what : (o : Option Status) → status_in i (members_of h) ≡ o
          → HouseAnswerShown job v h (cases.by_status o (house.Does (moves.tells job i (moves.hears i h)))
          (house.Does (moves.tells job i h)) (cases.new_joined job i h))
      by_what None e = new_joined_shown job v run h s i e used worker
      by_what (Some member.Live) e = tells_shown job v run i h (moves.hears i h) refl
          (hears_shown job v run h s i rising)
      by_what (Some member.Dead) e = tells_shown job v run i h h refl s
      by_what (Some (member.Left heir)) e = tells_shown job v run i h h refl s

  -- a Beat
  answered_shown : (b : Beat) (k : HouseOf) → name_of h ≡ name_of k → OpenShown v k
      → HouseAnswerShown job v h (cases.answered_beat job b k)
  answered_shown b k name shown = by_version (nat_lt b.version k.version)
    where
      by_version : (x : Bool) → HouseAnswerShown job v h
          (cond x (house.Does (moves.tells job b.from k)) (house.Does (house.sends [] k)))
      by_version true = tells_shown job v run b.from h k name shown
      by_version false = quietly job v h k name shown

  own_beat_shown : (b : Beat) → HouseAnswerShown job v h (cases.own_beat job b h)
  unfolding cases.by_status
  own_beat_shown b = by_what (status_in b.from (members_of h))
    where
      by_what : (o : Option Status) → HouseAnswerShown job v h
          (cases.by_status o (cases.answered_beat job b (moves.hears b.from h))
          (cases.answered_beat job b h) house.Ignored)
      by_what None = tt
      by_what (Some member.Live) = answered_shown b (moves.hears b.from h) refl
          (hears_shown job v run h s b.from rising)
      by_what (Some member.Dead) = answered_shown b h refl s
      by_what (Some (member.Left heir)) = answered_shown b h refl s

  pub beats_shown : (to : ℕ) (b : Beat) → HouseAnswerShown job v h (cases.beats job to b h)
  beats_shown to b = by_own (nat_eq to (name_of h))
    where
      by_other : (x : Bool) → HouseAnswerShown job v h (cond x (house.Does (moves.tells job b.from h)) house.Ignored)
      by_other true = tells_shown job v run b.from h h refl s
      by_other false = tt

      by_own : (x : Bool) → HouseAnswerShown job v h
          (cond x (cases.own_beat job b h) (cond (is_house to) (house.Does (moves.tells job b.from h)) house.Ignored))
      by_own true = own_beat_shown b
      by_own false = by_other (is_house to)

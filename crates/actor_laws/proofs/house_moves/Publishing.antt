-- The clearinghouse has another list of workers: it publishes its next roster.
use Rattle.std.proofs.Common.{◌≡◌, ◌+◌, ◌<◌, ◌≤◌, ℕ, true, List, length, map, ◌⊎◌, inl, inr, ⊎_elim, Option, None, Some, refl, sym, ap, ◌∙◌, arith}
use Rattle.std.proofs.lemmas.List.{length-map}
use Rattle.ids.specs.Members.{resolve, status_in}
use Rattle.ids.specs.declared.member.Status.{Status}
use Rattle.ids.specs.declared.member.Status.TheVariants as member
use Rattle.codec.specs.Table.{PacketOf}
use Rattle.serial_meaning.specs.Job.{JobOf}
use Rattle.clearinghouse.specs.House.{HouseOf, member_of, members_of, roster_of}
use Rattle.clearinghouse.specs.Laws.{living}
use Rattle.clearinghouse.specs.Moves.{with_workers}
use Rattle.clearinghouse.specs.Moves as Moves
use Rattle.clearinghouse.specs.Steps as house
use Rattle.clearinghouse.specs.declared.parts.Enlisted.{Enlisted}
use Rattle.table_laws.specs.Tables.{◌∈◌}
use Rattle.table_laws.specs.View.{Leave, View}
use Rattle.table_laws.specs.View as tables
use Rattle.table_laws.specs.Facts.{Grows, of_worker}
use Rattle.table_laws.specs.Guards.{MayPublish, ShowsLeft, before, now}
use Rattle.table_laws.specs.Moves.{publish}
use Rattle.table_laws.specs.Acts as acts
use Rattle.table_laws.specs.Runs.{Run, by_right, leads_on}
use Rattle.table_laws.proofs.RostersReached.{rosters_reached}
use Rattle.table_laws.proofs.ValuesKept.{run_reached}
use Rattle.move_laws.specs.Beside.{KeepsSent}
use Rattle.move_laws.specs.Listed.{status_of}
use Rattle.move_laws.proofs.Others.{all_same}
use Rattle.move_laws.proofs.Resolving.{resolved}
use Rattle.move_laws.proofs.Sent.{keeps_one}
use Rattle.actor_laws.specs.node_moves.Shows.{PacketShown, ShowsRoster}
use Rattle.actor_laws.specs.node_moves.Steps.{AllShown}
use Rattle.actor_laws.proofs.node_moves.Told.{packet_kept}
use Rattle.actor_laws.specs.house_moves.Shows.{OpenShown}
use Rattle.actor_laws.specs.house_moves.Steps.{HouseStepShown, tables_meaning}

-- a status of packets is told by that of tables
none_of : (o : Option Status) → status_of o ≡ tables.Unlisted → o ≡ None
none_of None e = refl
none_of (Some member.Live) e = cc
none_of (Some member.Dead) e = cc
none_of (Some (member.Left h)) e = cc

pub dead_of : (o : Option Status) → status_of o ≡ tables.Dead → o ≡ Some member.Dead
dead_of None e = cc
dead_of (Some member.Live) e = cc
dead_of (Some member.Dead) e = refl
dead_of (Some (member.Left h)) e = cc

left_of : (o : Option Status) (h : ℕ) → status_of o ≡ tables.Left h → o ≡ Some (member.Left h)
left_of None h e = cc
left_of (Some member.Live) h e = cc
left_of (Some member.Dead) h e = cc
left_of (Some (member.Left x)) h e = let same : x ≡ h = cc in ap (λ k. Some (member.Left k)) same

-- one that the next list shows left to another said so, to this clearinghouse; whoever has the work
-- of its heir lives then, and one more is counted
pub record NewlyLeft (v : View) (h : HouseOf) (ws : List Enlisted) (more i heir : ℕ) : Type 0 where
  pub listed : status_in i (members_of h) ≡ None → ⊥
  pub leave : Leave
  pub sent : leave ∈ v.leaves
  pub from : leave.from ≡ i
  pub epoch : leave.epoch ≡ h.epoch
  pub way : resolve (members_of h) leave.heir ≡ Some heir
  pub lives : status_in heir (map member_of ws) ≡ Some member.Live
  pub counted : 0 < more

-- a next list: nobody is taken off, who was dead or left stays so, and who is new or newly left may
-- be
pub record IsNext (v : View) (h : HouseOf) (ws : List Enlisted) (more : ℕ) : Type 0 where
  pub unlisted : (i : ℕ) → status_in i (map member_of ws) ≡ None → status_in i (members_of h) ≡ None
  pub dead : (i : ℕ) → status_in i (members_of h) ≡ Some member.Dead → status_in i (map member_of ws) ≡ Some member.Dead
  pub left : (i x : ℕ) → status_in i (members_of h) ≡ Some (member.Left x)
      → status_in i (map member_of ws) ≡ Some (member.Left x)
  pub used : (i : ℕ) → (status_in i (map member_of ws) ≡ None → ⊥)
      → (status_in i (members_of h) ≡ None → ⊥) ⊎ ((i ∈ v.used) × (of_worker i ≡ true))
  pub leaves : (i x : ℕ) → status_in i (map member_of ws) ≡ Some (member.Left x)
      → (status_in i (members_of h) ≡ Some (member.Left x)) ⊎ NewlyLeft v h ws more i x
  pub room : living ws + more + length h.workers ≤ living h.workers + length ws

module _ (job : JobOf) (v : View) (run : Run (tables_meaning job) v) (h : HouseOf) (s : OpenShown v h)
    (ws : List Enlisted) (more : ℕ) (next : IsNext v h ws more) where
  -- the next roster
  abbrev pub next_roster : tables.Roster
  next_roster = record {
    epoch = s.roster.epoch;
    version = h.version + 1;
    left = s.roster.left + more;
    status = λ i. status_of (status_in i (map member_of ws));
  }

  was : (i : ℕ) (x : tables.Status) → s.roster.status i ≡ x → status_of (status_in i (members_of h)) ≡ x
  was i x e = sym (s.shows.members.status i) ∙ e

  grows : Grows s.roster next_roster
  grows = record {
    listed = λ i e. s.shows.members.status i
        ∙ ap status_of (next.unlisted i (none_of (status_in i (map member_of ws)) e));
    dead = λ i e. ap status_of (next.dead i (dead_of (status_in i (members_of h)) (was i tables.Dead e)));
    left = λ i x e. ap status_of (next.left i x (left_of (status_in i (members_of h)) x (was i (tables.Left x) e)));
  }

  -- a roster that lists somebody was had
  had : (i : ℕ) → (status_in i (members_of h) ≡ None → ⊥) → s.roster ∈ v.rosters
  had i listed = ⊎_elim (λ m. m) (λ all.
      absurd (listed (none_of (status_in i (members_of h)) (sym (s.shows.members.status i) ∙ all i))))
      ((rosters_reached (run_reached run)).house_had s.roster s.is)

  members : (i : ℕ) → (next_roster.status i ≡ tables.Unlisted → ⊥) → (i ∈ v.used) × (of_worker i ≡ true)
  members i listed = ⊎_elim
      (λ (old : status_in i (members_of h) ≡ None
      → ⊥). (rosters_reached (run_reached run)).members s.roster i (had i old)
      (λ e. old (none_of (status_in i (members_of h)) (was i tables.Unlisted e))))
      (λ new. new)
      (next.used i (λ e. listed (ap status_of e)))

  left : (i x : ℕ) → next_roster.status i ≡ tables.Left x → ShowsLeft v next_roster.epoch i x
  left i x e = ⊎_elim
      (λ (old : status_in i (members_of h) ≡ Some (member.Left x)). before s.roster
      (had i (λ none. let two : None ≡ Some (member.Left x) = sym none ∙ old in cc)) refl (s.shows.members.status i
      ∙ ap status_of old))
      (λ (new : NewlyLeft v h ws more i x). now s.roster new.leave (had i new.listed) new.sent new.from (new.epoch
      ∙ sym s.shows.epoch) (resolved s.roster (members_of h) s.shows.members new.leave.heir x new.way))
      (next.leaves i x (left_of (status_in i (map member_of ws)) x e))

  heir_lives : (i x : ℕ) → next_roster.status i ≡ tables.Left x
      → (s.roster.status i ≡ tables.Left x)
      ⊎ ((next_roster.status x ≡ tables.Live) × (s.roster.left < next_roster.left))
  heir_lives i x e = ⊎_elim
      (λ (old : status_in i (members_of h) ≡ Some (member.Left x)). inl (s.shows.members.status i ∙ ap status_of old))
      (λ (new : NewlyLeft v h ws more i x). let counted =
      new.counted in inr (ap status_of new.lives, omega (arith, counted)))
      (next.leaves i x (left_of (status_in i (map member_of ws)) x e))

  may : MayPublish v s.roster next_roster
  may = record {
    open_house = s.is;
    epoch = refl;
    newer = rw s.shows.version (omega arith);
    grows = grows;
    members = members;
    left = left;
    heir_lives = heir_lives;
    left_most = omega arith;
  }

  shows : ShowsRoster next_roster (roster_of (with_workers ws h))
  shows = let room = next.room in let old = s.room in let same =
      length-map ws member_of in record {
        epoch = s.shows.epoch;
        version = refl;
        members = record { status = λ i. refl; few = omega (arith, room, old, same) };
      }

  -- the tables after it show the clearinghouse with these workers, and what it tells
  pub publishes_shown : (sent : List PacketOf) → AllShown (publish v next_roster) sent
      → HouseStepShown job v h (house.sends sent (with_workers ws h))
  publishes_shown sent told =
      let act : acts.Act v (publish v next_roster) = acts.publishes s.roster next_roster may in
      let view : View = publish v next_roster in
      let keeps : KeepsSent v view = keeps_one act in
      let room = next.room in
      let old = s.room in
      record {
        view = view;
        run = λ k. by_right k act tt;
        since = λ base k. leads_on k act;
        keeps = keeps;
        others = λ j apart. assumption (all_same v j);
        used = refl;
        same_name = refl;
        after = record {
          mode = s.mode;
          roster = next_roster;
          is = refl;
          shows = shows;
          room = omega (arith, room, old);
          minted = s.minted;
          replies = s.replies;
          said = λ t r e. packet_kept keeps r.packet (s.said t r e);
          root = s.root;
          stored = s.stored;
          epoch = s.epoch;
          only = s.only;
        };
        sent = told;
        transfers = λ t m. inl m;
        fills = refl;
        keeps_transfers = λ k e. cc;
      }

  -- a worker is told
  pub tells_next : (i : ℕ) → PacketShown (publish v next_roster) (Moves.roster_for job i (with_workers ws h))
  tells_next i = record { roster = next_roster; shows = shows; had = inl (inl refl) }

-- A moment comes: members that were silent for too long are dead.
use Rattle.std.proofs.Common.{◌≡◌, ◌≤◌, ℕ, Bool, true, false, cond, nat_lt, List, [], map, Some, refl, arith}
use Rattle.std.specs.List.{list_any}
use Rattle.ids.specs.Named.{item_in}
use Rattle.ids.specs.Members.{says_live}
use Rattle.ids.specs.declared.member.Status.{Status}
use Rattle.ids.specs.declared.member.Status.TheVariants as member
use Rattle.serial_meaning.specs.Job.{JobOf}
use Rattle.clearinghouse.specs.Calls.{declares_dead, passes}
use Rattle.clearinghouse.specs.House.{HouseOf, name_of_enlisted}
use Rattle.clearinghouse.specs.Laws.{living}
use Rattle.clearinghouse.specs.Moves as moves
use Rattle.clearinghouse.specs.Steps as house
use Rattle.clearinghouse.specs.declared.parts.Enlisted.{Enlisted}
use Rattle.actor_laws.proofs.house_moves.Living.{declare_dead_less, lost_lives, no_more_live}
use Rattle.table_laws.specs.View.{View}
use Rattle.table_laws.specs.Moves.{publish}
use Rattle.table_laws.specs.Runs.{Run}
use Rattle.actor_laws.proofs.node_moves.Told.{none_shown}
use Rattle.actor_laws.specs.house_moves.Shows.{OpenShown}
use Rattle.actor_laws.specs.house_moves.Steps.{HouseStepShown, tables_meaning}
use Rattle.actor_laws.proofs.house_moves.Mapping.{Goes, stands, dies, next_by_map}
use Rattle.actor_laws.proofs.house_moves.Publishing.{IsNext, next_roster, publishes_shown}
use Rattle.actor_laws.proofs.house_moves.Settling.{settles_quiet, settles_shown}
use Rattle.actor_laws.proofs.house_moves.Then.{quietly, then_shown}

-- the last moment stands in no table
at_moment : (v : View) (h : HouseOf) (now : ℕ) → OpenShown v h → OpenShown v (record h { moment = now })
at_moment v h now s = record {
  mode = s.mode;
  roster = s.roster;
  is = s.is;
  shows = s.shows;
  room = s.room;
  minted = s.minted;
  replies = s.replies;
  said = s.said;
  root = s.root;
  stored = s.stored;
  epoch = s.epoch;
  only = s.only;
}

from_moment : (job : JobOf) (v : View) (h : HouseOf) (now : ℕ) (s : house.HouseStepOf)
    → HouseStepShown job v (record h { moment = now }) s → HouseStepShown job v h s
from_moment job v h now s x = record {
  view = x.view;
  run = x.run;
  since = x.since;
  keeps = x.keeps;
  others = x.others;
  used = x.used;
  same_name = x.same_name;
  after = x.after;
  sent = x.sent;
  transfers = x.transfers;
  fills = x.fills;
  keeps_transfers = x.keeps_transfers;
}

module _ (job : JobOf) (v : View) (run : Run (tables_meaning job) v) (h : HouseOf) (s : OpenShown v h) (now : ℕ) where
  abbrev ws : List Enlisted
  ws = map (moves.declared_dead h.limit now) h.workers

  goes : (i : ℕ) (w : Enlisted) → item_in name_of_enlisted (i, 0) h.workers ≡ Some w
      → Goes v (record h { moment = now }) ws 0 i w.status (moves.declared_dead h.limit now w).status
  goes i w there = by_lost (moves.is_lost h.limit now w) refl
    where
      by_status : (x : Status) → says_live (Some x) ≡ true → Goes v (record h { moment = now }) ws 0 i x member.Dead
      by_status member.Live live = dies
      by_status member.Dead live = stands member.Dead
      by_status (member.Left heir) live = cc

      by_lost : (b : Bool) → moves.is_lost h.limit now w ≡ b
          → Goes v (record h { moment = now }) ws 0 i w.status (cond b member.Dead w.status)
      by_lost false lost = stands w.status
      by_lost true lost = by_status w.status (lost_lives h.limit now w lost)

  declared_dead_shown : HouseStepShown job v (record h { moment = now })
      (moves.settles job (moves.with_workers ws (record h { moment = now })))
  declared_dead_shown =
      let at : HouseOf = record h { moment = now } in
      let shown : OpenShown v at = at_moment v h now s in
      let fewer : living ws ≤ living h.workers =
      no_more_live (moves.declared_dead h.limit now) (declare_dead_less h.limit now) h.workers in
      let next : IsNext v at ws 0 = next_by_map v at (moves.declared_dead h.limit now) (λ w. refl) 0 goes
      (omega (arith, fewer)) in
      let told : HouseStepShown job v at (house.sends [] (moves.with_workers ws at)) =
      publishes_shown job v run at shown ws 0 next []
      (none_shown (publish v (next_roster job v run at shown ws 0 next))) in
      then_shown job v at (house.sends [] (moves.with_workers ws at)) (moves.settles job (moves.with_workers ws at))
      (settles_quiet job (moves.with_workers ws at)) told
      (settles_shown job told.view (moves.with_workers ws at) told.after)

  pub passes_shown : HouseStepShown job v h (passes job now h)
  unfolding passes
  passes_shown = by_later (nat_lt h.moment now)
    where
      by_lost : (b : Bool) → HouseStepShown job v h
          (cond b (moves.settles job (moves.with_workers ws (record h { moment = now })))
          (house.sends [] (record h { moment = now })))
      by_lost false = quietly job v h (record h { moment = now }) refl (at_moment v h now s)
      by_lost true = from_moment job v h now
          (moves.settles job (moves.with_workers ws (record h { moment = now }))) declared_dead_shown

      by_later : (b : Bool) → HouseStepShown job v h (cond b (declares_dead job now h) (house.sends [] h))
      by_later false = quietly job v h h refl s
      by_later true = by_lost (list_any (moves.is_lost h.limit now) h.workers)

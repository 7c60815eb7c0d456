-- Where a newcomer can finish: behind a moment at which the root's holder was silent for too long,
-- and behind an opening.
use Rattle.std.proofs.Common.{◌≡◌, ◌+◌, ◌<◌, ◌^◌, ℕ, Bool, true, false, cond, List, [], ◌∷◌, length, map, ⊎_elim, Option, None, Some, refl, sym, ap, ◌∙◌, arith}
use Rattle.std.specs.List.{list_any}
use Rattle.std.proofs.lemmas.Bool.{lt-ltb}
use Rattle.std.proofs.lemmas.List.{length-map}
use Rattle.ids.specs.Keyed.{has_key}
use Rattle.ids.specs.Members.{resolve}
use Rattle.ids.specs.Named.{item_in, name_cmp}
use Rattle.serial_meaning.specs.Job.{JobOf}
use Rattle.steal_protocol.specs.Replies.{reply_in}
use Rattle.clearinghouse.specs.Calls.{declares_dead, passes}
use Rattle.clearinghouse.specs.House.{HouseOf, Open, Stopped, members_of, name_of_enlisted, opened}
use Rattle.clearinghouse.specs.Meeting.{begun_of}
use Rattle.clearinghouse.specs.Moves as moves
use Rattle.clearinghouse.specs.declared.parts.Enlisted.{Enlisted}
use Rattle.clearinghouse.specs.declared.parts.RootGrant.{RootGrant}
use Rattle.event_script.specs.declared.event.Event.TheVariants.{AtHouse}
use Rattle.event_script.specs.declared.event.HouseEvent.TheVariants as at_house
use Rattle.table_laws.proofs.Lists.{some_same}
use Rattle.world_steps.specs.Answers.{StepResult}
use Rattle.world_steps.specs.Houses.{Opens, Restarts, opened_by, silence}
use Rattle.world_steps.specs.Nodes.{can_start}
use Rattle.world_steps.specs.Steps.{CarriedOut, HouseEnds}
use Rattle.world_steps.specs.World.{Down, HouseAt, IsUp, WorldOf, open_house}
use Rattle.run_laws.specs.Next.{IsRootFree, IsSilent}
use Rattle.run_laws.specs.Standing.{WorldStands}
use Rattle.run_laws.proofs.NextHouse.{moment_does}
use Rattle.run_laws.proofs.NextRoot.{root_freed}
use Rattle.newcomer_laws.specs.Newcomers.{CanCome, IsReady}

-- who isn't listed isn't where some are declared dead
still_unlisted : (i limit now : ℕ) (ws : List Enlisted) → item_in name_of_enlisted (i, 0) ws ≡ None
    → item_in name_of_enlisted (i, 0) (map (moves.declared_dead limit now) ws) ≡ None
still_unlisted i limit now [] none = refl
still_unlisted i limit now (w ∷ ws) none =
    by_test (λ at. still_unlisted i limit now ws at) (has_key name_of_enlisted name_cmp (i, 0) w) none
  where
    by_test : (item_in name_of_enlisted (i, 0) ws ≡ None
        → item_in name_of_enlisted (i, 0) (map (moves.declared_dead limit now) ws) ≡ None)
        → (b : Bool) → cond b (Some w) (item_in name_of_enlisted (i, 0) ws) ≡ None
        → cond b (Some (moves.declared_dead limit now w))
        (item_in name_of_enlisted (i, 0) (map (moves.declared_dead limit now) ws)) ≡ None
    by_test rest true at = cc
    by_test rest false at = rest at

-- what a moment leaves as it is, for who isn't listed
record IsLeft (i : ℕ) (h k : HouseOf) : Type 0 where
  minted : k.minted ≡ h.minted
  sequence : k.sequence ≡ h.sequence
  outcome : k.outcome ≡ h.outcome
  replies : k.replies ≡ h.replies
  size : length k.workers ≡ length h.workers
  unlisted : item_in name_of_enlisted (i, 0) h.workers ≡ None → item_in name_of_enlisted (i, 0) k.workers ≡ None

left_so : (i : ℕ) (h : HouseOf) → IsLeft i h h
left_so i h = record {
  minted = refl;
  sequence = refl;
  outcome = refl;
  replies = refl;
  size = refl;
  unlisted = λ none. none;
}

module _ (job : JobOf) where
  settled_so : (i : ℕ) (h k : HouseOf) → IsLeft i h k → IsLeft i h (moves.settles job k).after
  settled_so i h k left = by_root k.root
    where
      by_bearer : (r : RootGrant) (o : Option ℕ) → IsLeft i h (moves.settles_to job r o k).after
      by_bearer r None = record {
        minted = left.minted;
        sequence = left.sequence;
        outcome = left.outcome;
        replies = left.replies;
        size = left.size;
        unlisted = left.unlisted;
      }
      by_bearer r (Some holder) = record {
        minted = left.minted;
        sequence = left.sequence;
        outcome = left.outcome;
        replies = left.replies;
        size = left.size;
        unlisted = left.unlisted;
      }

      by_root : (o : Option RootGrant) → IsLeft i h (moves.settles_root job o k).after
      by_root None = left
      by_root (Some r) = by_bearer r (resolve (members_of k) r.holder)

  dead_so : (i now : ℕ) (h : HouseOf) → IsLeft i h (declares_dead job now h).after
  dead_so i now h = by_test (list_any (moves.is_lost h.limit now) h.workers)
    where
      new : HouseOf
      new = record h { moment = now }

      after : HouseOf
      after = moves.with_workers (map (moves.declared_dead h.limit now) h.workers) new

      changed : IsLeft i h after
      changed = record {
        minted = refl;
        sequence = refl;
        outcome = refl;
        replies = refl;
        size = length-map h.workers (moves.declared_dead h.limit now);
        unlisted = still_unlisted i h.limit now h.workers;
      }

      same : IsLeft i h new
      same = record {
        minted = refl;
        sequence = refl;
        outcome = refl;
        replies = refl;
        size = refl;
        unlisted = λ none. none;
      }

      by_test : (b : Bool) → IsLeft i h (cond b (moves.settles job after)
          (record { after = new; commits = None; sent = [] })).after
      by_test true = settled_so i h after changed
      by_test false = same

  passed_so : (i now : ℕ) (h : HouseOf) → h.moment < now → IsLeft i h (passes job now h).after
  unfolding passes
  passed_so i now h later = rw (lt-ltb h.moment now later) (dead_so i now h)

  pub moment_readies : (w : WorldOf) (h : HouseOf) (a word now : ℕ) (root : RootGrant) → WorldStands w
      → open_house w.house ≡ Some h → h.root ≡ Some root → IsSilent h root.holder now → h.moment < now
      → h.outcome ≡ None → h.minted + 1 < 2 ^ 64 → h.sequence + 1 < 2 ^ 64 → CanCome w h a word → (o : StepResult)
      → CarriedOut job (AtHouse (at_house.Tick now)) w o → IsReady o.world a word
  moment_readies w h a word now root stands open_now out silent later none grant commit comes o over =
      let k : HouseOf = (passes job now h).after in
      let end = moment_does job w now h open_now o over in
      let there : open_house o.world.house ≡ Some k = ap (λ (z : StepResult). open_house z.world.house) end.2 in
      let free : IsRootFree h.outcome o.world =
      root_freed job w stands.root h root now open_now out silent later o over in
      let one : free.house ≡ k = some_same (sym free.open_now ∙ there) in
      let left : IsLeft word h k = passed_so word now h later in
      record {
        house = k;
        open_now = there;
        finishes = record {
          root = ap (λ (z : HouseOf). z.root) (sym one) ∙ free.root;
          outcome = left.outcome ∙ none;
          grant = let e = left.minted in omega (arith, e, grant);
          commit = let e = left.sequence in omega (arith, e, commit);
        };
        comes = record {
          starts = ap (λ (z : StepResult). can_start a word z.world) end.2 ∙ comes.starts;
          unlisted = left.unlisted comes.unlisted;
          unanswered = ap (λ replies. reply_in word replies) left.replies ∙ comes.unanswered;
          room = let e = left.size in let few = comes.room in omega (arith, e, few);
        };
      }

  -- an opening
  newly_open : (w : WorldOf) (a word : ℕ) (way : Opens job w.disk) (h : HouseOf) (o : StepResult) → o ≡ opened_by way w
      → open_house o.world.house ≡ Some h → h.outcome ≡ None → h.sequence + 1 < 2 ^ 64 → can_start a word w ≡ true
      → IsReady o.world a word
  newly_open w a word way h o is open_then none commit can =
      let new : HouseOf = opened silence (begun_of way.way) in
      let one : h ≡ new = some_same (sym open_then ∙ ap (λ (z : StepResult). open_house z.world.house) is) in
      let minted : h.minted ≡ 0 = ap (λ (z : HouseOf). z.minted) one in
      let workers : h.workers ≡ [] = ap (λ (z : HouseOf). z.workers) one in
      record {
        house = h;
        open_now = open_then;
        finishes = record {
          root = ap (λ (z : HouseOf). z.root) one;
          outcome = none;
          grant = omega (arith, minted);
          commit = commit;
        };
        comes = record {
          starts = ap (λ (z : StepResult). can_start a word z.world) is ∙ can;
          unlisted = ap (λ (ws : List Enlisted). item_in name_of_enlisted (word, 0) ws) workers;
          unanswered = ap (λ (z : HouseOf). reply_in word z.replies) one;
          room = let e = ap (λ (ws : List Enlisted). length ws) workers in omega (arith, e);
        };
      }

  pub opening_readies : (w : WorldOf) (h : HouseOf) (a word : ℕ) → open_house w.house ≡ None → can_start a word w ≡ true
      → (o : StepResult) → CarriedOut job (AtHouse at_house.Restart) w o → open_house o.world.house ≡ Some h
      → h.outcome ≡ None → h.sequence + 1 < 2 ^ 64 → IsReady o.world a word
  opening_readies w h a word closed can o over open_then none commit = by_house w.house refl closed over
    where
      restarted : Restarts job w o → IsReady o.world a word
      restarted ends = ⊎_elim
          (λ opens. newly_open w a word opens.0 h o opens.1 open_then none commit can)
          (λ refused. let none_open : None ≡ Some h =
          sym (ap (λ (z : StepResult). open_house z.world.house) refused.2 ∙ closed) ∙ open_then in cc)
          ends

      by_house : (y : HouseAt) → w.house ≡ y → open_house y ≡ None → HouseEnds job at_house.Restart y w o
          → IsReady o.world a word
      by_house Down same e ends = restarted ends
      by_house (IsUp (Stopped why)) same e ends = restarted ends
      by_house (IsUp (Open k)) same e ends = cc

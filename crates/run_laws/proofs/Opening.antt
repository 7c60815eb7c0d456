-- The clearinghouse opens over its disk: in the epoch after the last one that was committed, with
-- nobody listed.
use Rattle.std.proofs.Common.{◌≡◌, ◌+◌, ◌<◌, ◌≤◌, ℕ, Bool, true, false, cond, List, [], ◌∷◌, ◌++◌, length, inl, inr, ⊎_elim, None, refl, subst, sym, ap, ◌∙◌, arith}
use Rattle.disk.specs.Device.{Device}
use Rattle.checkpoint.specs.Store.{KeepsRecord}
use Rattle.checkpoint.specs.declared.record.CheckpointRecord.{CheckpointRecord}
use Rattle.checkpoint.proofs.Opened.{one_kept}
use Rattle.serial_meaning.specs.Job.{JobOf}
use Rattle.agreement_laws.specs.Agreement.{AllSavedAgree}
use Rattle.node_state.specs.Node.{NodeOf}
use Rattle.clearinghouse.specs.Calls.{begins}
use Rattle.clearinghouse.specs.House.{HouseOf, Kept, Open, name_of}
use Rattle.clearinghouse.specs.Meeting.{Openable, begun_of, record_of}
use Rattle.clearinghouse.proofs.Keeping.{opened_house}
use Rattle.table_laws.specs.Tables.{◌∈◌}
use Rattle.table_laws.specs.View.{Gone, Joining, Member, House, Leaving, Mode, Works, View}
use Rattle.table_laws.specs.View as tables
use Rattle.table_laws.specs.Facts.{of_worker}
use Rattle.table_laws.specs.Guards.{MayOpen}
use Rattle.table_laws.specs.Moves.{open_house}
use Rattle.table_laws.specs.Acts as acts
use Rattle.table_laws.specs.Runs.{Run, by_right, Leads, leads_on}
use Rattle.table_laws.proofs.Entries.{put_here, put_other, clear_here, clear_other}
use Rattle.table_laws.proofs.EpochsKept.{epochs_reached, house_named, name_new}
use Rattle.table_laws.proofs.Lists.{same_or}
use Rattle.table_laws.proofs.ValuesKept.{run_reached}
use Rattle.move_laws.specs.Beside.{SameAt, KeepsSent}
use Rattle.move_laws.proofs.Sent.{keeps_one}
use Rattle.actor_laws.proofs.node_moves.Beside.{node_beside}
use Rattle.actor_laws.proofs.node_moves.Told.{all_shown, both_shown, none_shown, sent_early}
use Rattle.actor_laws.specs.house_moves.Shows.{OpenShown, stored_of}
use Rattle.actor_laws.specs.house_moves.Steps.{tables_meaning}
use Rattle.world_steps.specs.Houses.{Opens, calls_of, halted, made, silence}
use Rattle.world_steps.specs.World.{Down, IsUp, WorldOf}
use Rattle.run_laws.specs.Shown.{UpAt, Closed, DiskShown, Shown, TiedSince}
use Rattle.run_laws.proofs.Disks.{opening_committed, opening_cut_off, opens_cut_off}
use Rattle.run_laws.proofs.Housing.{kept_as, open_disk}

-- who is lost to a new epoch: all that were used and don't join
abbrev joins : Mode → Bool
joins Gone = false
joins Joining = true
joins Member = false
joins House = false
joins (Leaving heir) = false

joins_is : (x : Mode) → joins x ≡ true → x ≡ Joining
joins_is Gone e = cc
joins_is Joining e = refl
joins_is Member e = cc
joins_is House e = cc
joins_is (Leaving heir) e = cc

joining : (x : Mode) → x ≡ Joining → joins x ≡ true
joining x e = ap joins e

abbrev without_joining : View → List ℕ → List ℕ
without_joining v [] = []
without_joining v (j ∷ js) = cond (joins (v.mode j)) (without_joining v js) (j ∷ without_joining v js)

lost_old : (v : View) (js : List ℕ) (j : ℕ) → j ∈ without_joining v js → (j ∈ js) × (v.mode j ≡ Joining → ⊥)
lost_old v [] j m = absurd m
lost_old v (k ∷ js) j m = by_mode (lost_old v js j) (joins (v.mode k)) refl m
  where
    by_mode : (j ∈ without_joining v js → (j ∈ js) × (v.mode j ≡ Joining → ⊥)) → (b : Bool) → joins (v.mode k) ≡ b
        → j ∈ cond b (without_joining v js) (k ∷ without_joining v js) → (j ∈ (k ∷ js)) × (v.mode j ≡ Joining → ⊥)
    by_mode rest true e m = let r = rest m in (inr r.0, r.1)
    by_mode rest false e (inr m) = let r = rest m in (inr r.0, r.1)
    by_mode rest false e (inl same) = (
      inl same,
      λ is. let yes : joins (v.mode k) ≡ true =
          ap (λ (x : ℕ). joins (v.mode x)) (sym same) ∙ joining (v.mode j) is in let two : true ≡ false =
          sym yes ∙ e in cc,
    )

lost_all : (v : View) (js : List ℕ) (j : ℕ) → j ∈ js → (v.mode j ≡ Joining → ⊥) → j ∈ without_joining v js
lost_all v [] j m not = absurd m
lost_all v (k ∷ js) j m not = by_mode (λ x. lost_all v js j x not) (joins (v.mode k)) refl m
  where
    by_mode : (j ∈ js → j ∈ without_joining v js) → (b : Bool) → joins (v.mode k) ≡ b → j ∈ (k ∷ js)
        → j ∈ cond b (without_joining v js) (k ∷ without_joining v js)
    by_mode rest true e (inl same) = absurd (not (ap v.mode same ∙ joins_is (v.mode k) e))
    by_mode rest true e (inr m) = rest m
    by_mode rest false e (inl same) = inl same
    by_mode rest false e (inr m) = inr (rest m)

-- what is read is what is kept
module _ (job : JobOf) (v : View) (w : WorldOf) (shown : Shown job v w) (way : Openable job w.disk) where
  agrees : (way.sequence ≡ shown.disk.sequence) × (way.found ≡ shown.disk.found)
  agrees = one_kept w.disk.file way.reads.0 way.sequence shown.disk.sequence way.found shown.disk.found way.reads.1
      shown.disk.keeps

  pub read_kept : KeepsRecord w.disk.file way.sequence way.found
  read_kept = kept_as (sym agrees.0) (sym agrees.1) shown.disk.keeps

  pub read_stored : v.stored ≡ stored_of way.found.outcome
  read_stored = shown.disk.stored ∙ ap (λ (r : CheckpointRecord). stored_of r.outcome) (sym agrees.1)

  pub read_epoch : v.epoch ≤ way.found.epoch
  read_epoch = let old = shown.disk.epoch in rw agrees.1 old

  pub read_saved : AllSavedAgree job way.found.saved
  read_saved = subst (λ (r : CheckpointRecord). AllSavedAgree job r.saved) (sym agrees.1) shown.disk.saved

  -- a disk that keeps it, of whatever sequence
  still_shown : (d : Device) (m : ℕ) → KeepsRecord d.file m way.found → DiskShown job v d Down
  still_shown d m keeps = record {
    sequence = m;
    found = way.found;
    keeps = keeps;
    own = way.own;
    stored = read_stored;
    epoch = read_epoch;
    saved = read_saved;
    held = tt;
  }

  -- one of the calls by which the store is opened failed
  pub half_read : (k : ℕ) (bytes : List ℕ) → k < length way.opens
      → DiskShown job v (halted w.disk way.opens k bytes) Down
  half_read k bytes within =
      let kept = opens_cut_off w.disk way.sequence way.found read_kept way.counts way.opens way.opening k bytes
      within in
      still_shown (halted w.disk way.opens k bytes) kept.0 kept.1

module _ (job : JobOf) (base v : View) (w : WorldOf) (run : Run (tables_meaning job) v) (since : Leads base v)
    (shown : Shown job v w) (closed : Closed v) (opens : Opens job w.disk) where
  abbrev way : Openable job w.disk
  way = opens.way

  abbrev next : Kept
  next = begun_of way

  -- one of the calls failed
  pub half_opened : (k : ℕ) (bytes : List ℕ) → k < length (calls_of opens)
      → DiskShown job v (halted w.disk (calls_of opens) k bytes) Down
  half_opened k bytes within = ⊎_elim
      (λ old. still_shown job v w shown way (halted w.disk (calls_of opens) k bytes) old.0 old.1)
      (λ new. record {
        sequence = way.counts + 1;
        found = record_of job next;
        keeps = new;
        own = refl;
        stored = read_stored job v w shown way;
        epoch = let e = read_epoch job v w shown way in omega (arith, e);
        saved = read_saved job v w shown way;
        held = tt;
      })
      (opening_cut_off w.disk way.sequence way.found (read_kept job v w shown way) way.counts way.opens way.opening
      (record_of job next) opens.calls opens.commit k bytes within)

  -- all passed
  abbrev new : HouseOf
  new = (begins silence next).after

  abbrev i : ℕ
  i = name_of new

  abbrev roster : tables.Roster
  roster = record { epoch = way.found.epoch + 1; version = 1; left = 0; status = λ j. tables.Unlisted }

  abbrev lost : List ℕ
  lost = without_joining v v.used

  later : v.epoch < way.found.epoch + 1
  later = let e = read_epoch job v w shown way in omega (arith, e)

  may : MayOpen v i lost roster
  may =
      let e = epochs_reached (run_reached run) in
      record {
        new = name_new v e (way.found.epoch + 1) later;
        house = house_named (way.found.epoch + 1);
        name = refl;
        epoch = later;
        rosters_older = λ r m. (let past = e.rosters_past r m in let l = later in omega (arith, past, l));
        leaves_older = λ x m. (let past = e.leaves_past x m in let l = later in omega (arith, past, l));
        unlisted = λ j. refl;
        lost_old = λ j m. ((lost_old v v.used j m).0, λ house. closed.nobody j house);
        lost_joined = λ j m. (lost_old v v.used j m).1;
        lost_all = λ j m not. lost_all v v.used j m not;
      }

  abbrev x : View
  x = open_house v i lost roster

  act : acts.Act v x
  act = acts.opens i lost roster may

  others : (j : ℕ) → (j ≡ i → ⊥) → SameAt v x j
  others j apart = record {
    mode = put_other v.mode i j House apart;
    minted = put_other v.minted i j 0 apart;
    asked = put_other v.asked i j 0 apart;
    seen = λ g. clear_other v.seen i j g apart;
    subs = λ g. clear_other v.subs i j g apart;
    pending = put_other v.pending i j None apart;
    kept = λ t. clear_other v.kept i j t apart;
    roster = put_other v.roster i j None apart;
  }

  own : OpenShown x new
  own = record {
    mode = put_here v.mode i House;
    roster = roster;
    is = refl;
    shows = record { epoch = refl; version = refl; members = record { status = λ j. refl; few = omega arith } };
    room = omega arith;
    minted = put_here v.minted i 0;
    replies = λ t. rw (clear_here v.kept i t) tt;
    said = λ t r e. cc;
    root = tt;
    stored = read_stored job v w shown way;
    epoch = refl;
    only = λ j e. ⊎_elim (λ (same : j ≡ i). same)
        (λ (apart : j ≡ i → ⊥). absurd (closed.nobody j (sym (others j apart).mode ∙ e))) (same_or j i);
  }

  no_worker : (n : NodeOf) → of_worker n.incarnation ≡ true → n.incarnation ≡ i → ⊥
  no_worker n worker e = let house : of_worker n.incarnation ≡ false =
      rw e (house_named (way.found.epoch + 1)) in let two : true ≡ false = sym worker ∙ house in cc

  pub opened_tied : TiedSince job base
      (record w { house = IsUp (Open new); disk = made w.disk (calls_of opens); net = w.net ++ [] })
  unfolding act
  opened_tied =
      let keeps : KeepsSent v x = keeps_one act in
      record {
        view = x;
        run = by_right run act tt;
        since = leads_on since act;
        shown = record {
          nodes = λ a n at. node_beside v x n (others n.incarnation (no_worker n (shown.workers a n at))) keeps
              (shown.nodes a n at);
          workers = shown.workers;
          started = shown.started;
          apart = shown.apart;
          up = λ j works not_house. ⊎_elim
              (λ (same : j ≡ i). let here : x.mode j ≡ House =
              ap x.mode same ∙ put_here v.mode i House in absurd (not_house here))
              (λ (apart : j ≡ i → ⊥). (
              let mode = (others j apart).mode in
              let old : UpAt w j = shown.up j (rw mode at works) (λ e. not_house (mode ∙ e)) in
              record { at = old.at; node = old.node; there = old.there; name = old.name }))
              (same_or j i);
          words = λ j m of. ⊎_elim
              (λ (same : j ≡ i). let house : of_worker j ≡ false =
              rw same (house_named (way.found.epoch + 1)) in let two : true ≡ false = sym of ∙ house in cc)
              (λ old. shown.words j old of)
              m;
          house = record { shown = own; sound = opened_house silence next };
          disk = open_disk job x new (made w.disk (calls_of opens)) own
              (opening_committed w.disk way.sequence way.found
              (read_kept job v w shown way) way.counts way.opens way.opening
              (record_of job next) opens.calls opens.commit) (read_saved job v w shown way);
          net = both_shown x w.net [] (all_shown keeps w.net shown.net) (none_shown x);
          sent = λ t m. sent_early w.net [] t (shown.sent t m);
          fills = shown.fills;
        };
      }

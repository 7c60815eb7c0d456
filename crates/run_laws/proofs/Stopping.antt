-- The clearinghouse stops, or is down: in an event, or between two.
use Rattle.std.proofs.Common.{◌≡◌, ◌+◌, ◌<◌, ℕ, List, [], ◌++◌, length, inl, ⊎_elim, Option, None, Some, refl, sym, subst, ap, ◌∙◌, arith}
use Rattle.std.proofs.lemmas.List.{append-nil}
use Rattle.codec.specs.Table.{PacketOf}
use Rattle.disk.specs.Device.{Device}
use Rattle.checkpoint.specs.Calls.{DeviceCall}
use Rattle.checkpoint.specs.Store.{KeepsRecord}
use Rattle.checkpoint.specs.declared.record.CheckpointRecord.{CheckpointRecord}
use Rattle.serial_meaning.specs.Job.{JobOf}
use Rattle.agreement_laws.specs.Agreement.{AllSavedAgree}
use Rattle.clearinghouse.specs.House.{HouseOf, Kept, Open, Stopped, kept_of, name_of}
use Rattle.clearinghouse.specs.Laws.{Commits, IsHouse}
use Rattle.clearinghouse.specs.Meeting.{record_of}
use Rattle.clearinghouse.specs.Steps as house
use Rattle.table_laws.specs.View.{House, Works, View}
use Rattle.table_laws.specs.View as tables
use Rattle.table_laws.specs.Moves.{close_house}
use Rattle.table_laws.specs.Acts as acts
use Rattle.table_laws.specs.Runs.{Run, by_right, Leads, leads_on}
use Rattle.table_laws.proofs.Lists.{same_or}
use Rattle.table_laws.proofs.Entries.{put_here, put_other}
use Rattle.move_laws.specs.Beside.{SameAt, KeepsSent}
use Rattle.move_laws.proofs.Sent.{keeps_one}
use Rattle.actor_laws.proofs.node_moves.Beside.{node_beside}
use Rattle.actor_laws.proofs.node_moves.Told.{all_shown, none_shown}
use Rattle.actor_laws.specs.house_moves.Shows.{OpenShown}
use Rattle.actor_laws.specs.house_moves.Steps.{HouseStepShown, tables_meaning}
use Rattle.world_steps.specs.Houses.{MakesCalls, halted}
use Rattle.world_steps.specs.World.{Down, HouseAt, IsUp, WorldOf}
use Rattle.run_laws.specs.Shown.{UpAt, Closed, HouseShown, DiskShown, Shown, TiedSince}
use Rattle.run_laws.proofs.Disks.{cut_off}
use Rattle.run_laws.proofs.Housing.{house_stepped, kept_as, no_worker, own, own_kept}

-- a clearinghouse that isn't open: of its disk no more is said than what it keeps
pub data IsShut : HouseAt → Type 0 where
  is_down : IsShut Down
  is_stopped : (s : _) → IsShut (IsUp (Stopped s))

shut_shown : (x : View) (house : HouseAt) → IsShut house → Closed x → HouseShown x house
shut_shown x _ is_down c = c
shut_shown x _ (is_stopped s) c = c

shut_disk : (job : JobOf) (v : View) (d : Device) (house : HouseAt) → IsShut house → DiskShown job v d Down
    → DiskShown job v d house
shut_disk job v d _ is_down k = k
shut_disk job v d _ (is_stopped s) k =
    record {
      sequence = k.sequence;
      found = k.found;
      keeps = k.keeps;
      own = k.own;
      stored = k.stored;
      epoch = k.epoch;
      saved = k.saved;
      held = tt;
    }

-- what is said of a disk without its clearinghouse
pub loose : (job : JobOf) (v : View) (d : Device) (house : HouseAt) → DiskShown job v d house → DiskShown job v d Down
loose job v d house k = record {
  sequence = k.sequence;
  found = k.found;
  keeps = k.keeps;
  own = k.own;
  stored = k.stored;
  epoch = k.epoch;
  saved = k.saved;
  held = tt;
}

-- so it is of another disk that keeps the same
pub same_record : (job : JobOf) (v : View) (d e : Device) (house : HouseAt)
    → ((n : ℕ) (r : CheckpointRecord) → KeepsRecord d.file n r → KeepsRecord e.file n r)
    → DiskShown job v d house → DiskShown job v e Down
same_record job v d e house keeps k =
    record {
      sequence = k.sequence;
      found = k.found;
      keeps = keeps k.sequence k.found k.keeps;
      own = k.own;
      stored = k.stored;
      epoch = k.epoch;
      saved = k.saved;
      held = tt;
    }

-- nothing is sent
pub net_as : (job : JobOf) (base : View) (w : WorldOf) (house : HouseAt) (d : Device)
    → TiedSince job base (record w { house = house; disk = d })
    → TiedSince job base (record w { house = house; disk = d; net = w.net ++ [] })
net_as job base w house d tied = subst
    (λ (n : List PacketOf). TiedSince job base (record w { house = house; disk = d; net = n }))
    (sym (append-nil w.net)) tied

module _ (job : JobOf) (base v : View) (w : WorldOf) (run : Run (tables_meaning job) v) (since : Leads base v)
    (shown : Shown job v w) where
  -- where it wasn't open
  still_shut : Closed v → (house : HouseAt) (d : Device) → IsShut house → DiskShown job v d Down
      → TiedSince job base (record w { house = house; disk = d })
  still_shut closed house d shut disk =
      record {
        view = v;
        run = run;
        since = since;
        shown =
            record {
              nodes = shown.nodes;
              workers = shown.workers;
              started = shown.started;
              apart = shown.apart;
              up =
                  λ i a b. (let u = shown.up i a b in record {
                    at = u.at;
                    node = u.node;
                    there = u.there;
                    name = u.name;
                  });
              words = shown.words;
              house = shut_shown v house shut closed;
              disk = shut_disk job v d house shut disk;
              net = shown.net;
              sent = shown.sent;
              fills = shown.fills;
            };
      }

  -- where it was, it closes
  falls : (h : HouseOf) → w.house ≡ IsUp (Open h) → (house : HouseAt) (d : Device)
      → IsShut house → DiskShown job v d Down → TiedSince job base (record w { house = house; disk = d })
  falls h is house d shut disk =
      let s : OpenShown v h = (own job base v w run since shown h is).shown in
      let act : acts.Act v (close_house v (name_of h)) = acts.closes (name_of h) s.mode in
      let x : View = close_house v (name_of h) in
      let keeps : KeepsSent v x = keeps_one act in
      let others : (j : ℕ) → (j ≡ name_of h → ⊥)
      → SameAt v x j = λ j apart. record {
        mode = put_other v.mode (name_of h) j tables.Gone apart;
        minted = refl;
        asked = refl;
        seen = λ g. refl;
        subs = λ g. refl;
        pending = refl;
        kept = λ t. refl;
        roster = refl;
      } in
      let gone : x.mode (name_of h) ≡ tables.Gone = put_here v.mode (name_of h) tables.Gone in
      let over : Closed x = record {
        none = refl;
        nobody = λ j e. ⊎_elim
            (λ (same : j ≡ name_of h). let here : x.mode (name_of h) ≡ House =
            rw same at e in let two : tables.Gone ≡ tables.House = sym gone ∙ here in cc)
            (λ (apart : j ≡ name_of h → ⊥). apart (s.only j (sym (others j apart).mode ∙ e)))
            (same_or j (name_of h));
      } in
      record {
        view = x;
        run = by_right run act tt;
        since = leads_on since act;
        shown = record {
          nodes = λ a n at. node_beside v x n
              (others n.incarnation (no_worker job base v w run since shown h is a n at)) keeps (shown.nodes a n at);
          workers = shown.workers;
          started = shown.started;
          apart = shown.apart;
          up = λ j works not_house. ⊎_elim
              (λ (same : j ≡ name_of h). let here : x.mode j ≡ tables.Gone =
              ap x.mode same ∙ gone in let never : Works tables.Gone = rw here at works in absurd never)
              (λ (apart : j ≡ name_of h → ⊥). (
              let mode = (others j apart).mode in
              let old : UpAt w j = shown.up j (rw mode at works) (λ e. not_house (mode ∙ e)) in
              record { at = old.at; node = old.node; there = old.there; name = old.name }))
              (same_or j (name_of h));
          words = shown.words;
          house = shut_shown x house shut over;
          disk = shut_disk job x d house shut
              (record {
                sequence = disk.sequence;
                found = disk.found;
                keeps = disk.keeps;
                own = disk.own;
                stored = disk.stored;
                epoch = disk.epoch;
                saved = disk.saved;
                held = tt;
              });
          net = all_shown keeps w.net shown.net;
          sent = shown.sent;
          fills = shown.fills;
        };
      }

  pub shuts : (house : HouseAt) (d : Device) → IsShut house → DiskShown job v d Down
      → TiedSince job base (record w { house = house; disk = d })
  shuts house d shut disk = by_house w.house refl shown.house
    where
      by_house : (y : HouseAt) → w.house ≡ y → HouseShown v y
          → TiedSince job base (record w { house = house; disk = d })
      by_house Down e s = still_shut s house d shut disk
      by_house (IsUp (Stopped why)) e s = still_shut s house d shut disk
      by_house (IsUp (Open h)) e s = falls h e house d shut disk

-- it is shut over a disk that keeps what was kept
pub shut_tied : (job : JobOf) (base : View) (w : WorldOf) (tied : TiedSince job base w) (house : HouseAt) (d : Device)
    → IsShut house → ((n : ℕ) (r : CheckpointRecord) → KeepsRecord w.disk.file n r → KeepsRecord d.file n r)
    → TiedSince job base (record w { house = house; disk = d })
shut_tied job base w tied house d shut keeps =
    shuts job base tied.view w tied.run tied.since tied.shown house d shut
    (same_record job tied.view w.disk d w.house keeps tied.shown.disk)

-- a call of a step's commit fails: the disk has what was committed before, or the step's
module _ (job : JobOf) (base v : View) (w : WorldOf) (run : Run (tables_meaning job) v) (since : Leads base v)
    (shown : Shown job v w) (h : HouseOf) (is : w.house ≡ IsUp (Open h)) (s : house.HouseStepOf)
    (step : HouseStepShown job v h s) (holds : IsHouse h
    → IsHouse s.after) (commits : Commits s.commits h s.after) (saved : AllSavedAgree job h.saved)
    (after_saved : AllSavedAgree job s.after.saved) where
  before : (d : Device) (why : _) → KeepsRecord d.file h.sequence (record_of job (kept_of h))
      → TiedSince job base (record w { house = IsUp (Stopped why); disk = d; net = w.net ++ [] })
  before d why keeps =
      let o = own job base v w run since shown h is in
      net_as job base w (IsUp (Stopped why)) d
      (shuts job base v w run since shown (IsUp (Stopped why)) d (is_stopped why)
      (record {
        sequence = h.sequence;
        found = record_of job (kept_of h);
        keeps = keeps;
        own = refl;
        stored = o.shown.stored;
        epoch = rw o.shown.epoch (omega arith);
        saved = saved;
        held = tt;
      }))

  behind : (d : Device) (why : _) (k : Kept) → s.commits ≡ Some k
      → KeepsRecord d.file s.after.sequence (record_of job (kept_of s.after))
      → TiedSince job base (record w { house = IsUp (Stopped why); disk = d; net = w.net ++ [] })
  behind d why k e keeps =
      let o = own job base v w run since shown h is in
      let x = step.view in
      let open_world : WorldOf = record w { house = IsUp (Open s.after); disk = d; net = w.net ++ [] } in
      let open_shown : Shown job x open_world =
      house_stepped job base v w run since shown h is s d [] step (holds o.sound) keeps after_saved (none_shown x)
      (λ t m. inl (step.keeps_transfers k e t m)) in
      shuts job base x open_world (step.run run) (step.since base since) open_shown (IsUp (Stopped why)) d
      (is_stopped why) (record {
        sequence = s.after.sequence;
        found = record_of job (kept_of s.after);
        keeps = keeps;
        own = refl;
        stored = step.after.stored;
        epoch = rw step.after.epoch (omega arith);
        saved = after_saved;
        held = tt;
      })

  pub halted_tied : (calls : List DeviceCall) (k : ℕ) (bytes : List ℕ) (why : _)
      → MakesCalls job h s.commits w.disk calls → k < length calls
      → TiedSince job base (record w {
        house = IsUp (Stopped why);
        disk = halted w.disk calls k bytes;
        net = w.net ++ [];
      })
  halted_tied calls k bytes why makes within = by_commit s.commits refl commits makes
    where
      none : calls ≡ [] → length calls ≡ 0
      none e = ap length e

      by_commit : (o : Option Kept) → s.commits ≡ o → Commits o h s.after → MakesCalls job h o w.disk calls
          → TiedSince job base (record w {
            house = IsUp (Stopped why);
            disk = halted w.disk calls k bytes;
            net = w.net ++ [];
          })
      by_commit None e c m = let no = none m in absurd (omega (arith, no, within))
      by_commit (Some q) e c m = ⊎_elim
          (λ old. before (halted w.disk calls k bytes) why old)
          (λ new. behind (halted w.disk calls k bytes) why q e (let at : s.after.sequence ≡ h.sequence + 1 =
          ap (λ (x : Kept). x.sequence) c.0
          ∙ c.2 in subst (λ (x : Kept). KeepsRecord (halted w.disk calls k bytes).file x.sequence (record_of job x))
          (sym c.0) (kept_as (sym c.2) refl new)))
          (cut_off w.disk h.sequence (record_of job (kept_of h)) (record_of job q) calls
          (own_kept job base v w run since shown h is) m k bytes within)

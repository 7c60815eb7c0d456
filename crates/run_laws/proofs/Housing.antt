-- A step of the clearinghouse, shown by its own moves, is a step of a world that stays shown.
use Rattle.std.proofs.Common.{◌≡◌, ◌+◌, ℕ, true, false, List, [], ◌++◌, ◌⊎◌, ⊎_elim, Option, None, Some, refl, sym, subst, ap, ◌∙◌, arith}
use Rattle.codec.specs.Table.{PacketOf}
use Rattle.disk.specs.declared.cells.Cell.{Cell}
use Rattle.disk.specs.Device.{Device}
use Rattle.checkpoint.specs.Calls.{DeviceCall, after}
use Rattle.checkpoint.specs.Store.{KeepsRecord}
use Rattle.checkpoint.specs.declared.record.CheckpointRecord.{CheckpointRecord}
use Rattle.serial_meaning.specs.Job.{JobOf}
use Rattle.agreement_laws.specs.Agreement.{AllSavedAgree}
use Rattle.node_state.specs.Node.{NodeOf}
use Rattle.clearinghouse.specs.House.{HouseOf, Kept, Open, Stopped, kept_of, name_of}
use Rattle.clearinghouse.specs.Laws.{Commits, IsHouse}
use Rattle.clearinghouse.specs.Meeting.{record_of}
use Rattle.clearinghouse.specs.Steps as house
use Rattle.table_laws.specs.Tables.{◌∈◌}
use Rattle.table_laws.specs.View.{Transfer, View}
use Rattle.table_laws.specs.Facts.{of_worker}
use Rattle.table_laws.specs.Runs.{Run, Leads}
use Rattle.table_laws.proofs.HomesKept.{homes_reached}
use Rattle.table_laws.proofs.Lists.{same_or}
use Rattle.table_laws.proofs.ValuesKept.{run_reached}
use Rattle.actor_laws.proofs.node_moves.Beside.{node_beside}
use Rattle.actor_laws.proofs.node_moves.Told.{all_shown, both_shown, sent_early, sent_late}
use Rattle.actor_laws.specs.node_moves.Steps.{AllShown, IsSent}
use Rattle.actor_laws.specs.house_moves.Shows.{OpenShown}
use Rattle.actor_laws.specs.house_moves.Steps.{HouseStepShown, tables_meaning}
use Rattle.world_steps.specs.Houses.{MakesCalls, made}
use Rattle.world_steps.specs.World.{Down, HouseAt, IsUp, WorldOf, node_in}
use Rattle.run_laws.specs.Shown.{UpAt, OpenHouse, DiskShown, Shown, TiedSince}
use Rattle.run_laws.proofs.Disks.{committed}

-- what is kept, by other names
pub kept_as : {f : List Cell} {n m : ℕ} {r t : CheckpointRecord} → n ≡ m → r ≡ t → KeepsRecord f n r → KeepsRecord f m t
kept_as {f = f} {n = n} {t = t} e q k = subst (λ x. KeepsRecord f x t) e (subst (λ y. KeepsRecord f n y) q k)

-- an open clearinghouse's disk keeps what it has committed
pub open_disk : (job : JobOf) (v : View) (h : HouseOf) (d : Device) → OpenShown v h
    → KeepsRecord d.file h.sequence (record_of job (kept_of h)) → AllSavedAgree job h.saved
    → DiskShown job v d (IsUp (Open h))
open_disk job v h d s keeps saved = record {
  sequence = h.sequence;
  found = record_of job (kept_of h);
  keeps = keeps;
  own = refl;
  stored = s.stored;
  epoch = rw s.epoch (omega arith);
  saved = saved;
  held = (refl, refl);
}

module _ (job : JobOf) (base v : View) (w : WorldOf) (run : Run (tables_meaning job) v) (since : Leads base v)
    (shown : Shown job v w) (h : HouseOf) (is : w.house ≡ IsUp (Open h)) where
  pub own : OpenHouse v h
  own = let s = shown.house in rw is at s

  -- what its disk keeps
  pub own_kept : KeepsRecord w.disk.file h.sequence (record_of job (kept_of h))
  own_kept = by_house w.house is shown.disk
    where
      by_house : (x : HouseAt) → x ≡ IsUp (Open h) → DiskShown job v w.disk x
          → KeepsRecord w.disk.file h.sequence (record_of job (kept_of h))
      by_house Down e d = cc
      by_house (IsUp (Stopped s)) e d = cc
      by_house (IsUp (Open k)) e d = let same : k ≡ h =
          cc in let held : (d.sequence ≡ k.sequence) × (d.found ≡ record_of job (kept_of k)) =
          d.held in subst (λ (x : HouseOf). KeepsRecord w.disk.file x.sequence (record_of job (kept_of x))) same
          (kept_as held.0 held.1 d.keeps)

  pub no_worker : (a : ℕ) (n : NodeOf) → node_in a w.nodes ≡ Some n → n.incarnation ≡ name_of h → ⊥
  no_worker a n at e =
      let name = (homes_reached (run_reached run)).house_name (name_of h) own.shown.mode in
      let worker : of_worker (name_of h) ≡ true = rw e at (shown.workers a n at) in
      let two : true ≡ false = sym worker ∙ name in
      cc

  -- a step of it, over whatever disk keeps what it has committed then, of which these packets went
  pub house_stepped : (s : house.HouseStepOf) (disk : Device) (sent : List PacketOf) → (step : HouseStepShown job v h s)
      → IsHouse s.after → KeepsRecord disk.file s.after.sequence (record_of job (kept_of s.after))
      → AllSavedAgree job s.after.saved → AllShown step.view sent
      → ((t : Transfer) → t ∈ step.view.transfers → (t ∈ v.transfers) ⊎ IsSent job.number sent t)
      → Shown job step.view (record w { house = IsUp (Open s.after); disk = disk; net = w.net ++ sent })
  house_stepped s disk sent step sound keeps saved told transfers =
      let x = step.view in
      record {
        nodes = λ a n at. node_beside v x n (step.others n.incarnation (no_worker a n at)) step.keeps
            (shown.nodes a n at);
        workers = shown.workers;
        started = shown.started;
        apart = shown.apart;
        up = λ i works not_house. ⊎_elim
            (λ (same : i ≡ name_of h). absurd (not_house (ap x.mode (same ∙ step.same_name) ∙ step.after.mode)))
            (λ (other : i ≡ name_of h → ⊥). (
            let mode = (step.others i other).mode in
            let old : UpAt w i = shown.up i (rw mode at works) (λ e. not_house (mode ∙ e)) in
            record { at = old.at; node = old.node; there = old.there; name = old.name }))
            (same_or i (name_of h));
        words = λ i m of. shown.words i (rw step.used at m) of;
        house = record { shown = step.after; sound = sound };
        disk = open_disk job x s.after disk step.after keeps saved;
        net = both_shown x w.net sent (all_shown step.keeps w.net shown.net) told;
        sent = λ t m. ⊎_elim (λ old. sent_early w.net sent t (shown.sent t old)) (λ new. sent_late w.net sent t new)
            (transfers t m);
        fills = step.fills ∙ shown.fills;
      }

  -- all calls of a step passed
  module _ (s : house.HouseStepOf) (step : HouseStepShown job v h s) (holds : IsHouse h
      → IsHouse s.after) (commits : Commits s.commits h s.after) (saved : AllSavedAgree job s.after.saved)
      (calls : List DeviceCall) (makes : MakesCalls job h s.commits w.disk calls) where
    after_kept : KeepsRecord (made w.disk calls).file s.after.sequence (record_of job (kept_of s.after))
    unfolding after
    after_kept = by_commit s.commits commits makes
      where
        same : (k : Kept) (n : ℕ) (f : List Cell) → kept_of s.after ≡ k → k.sequence ≡ n
            → KeepsRecord f n (record_of job k) → KeepsRecord f s.after.sequence (record_of job (kept_of s.after))
        same k n f e q keeps = subst (λ (x : Kept). KeepsRecord f x.sequence (record_of job x)) (sym e)
            (kept_as (sym q) refl keeps)

        by_none : calls ≡ [] → kept_of s.after ≡ kept_of h
            → KeepsRecord (made w.disk calls).file s.after.sequence (record_of job (kept_of s.after))
        by_none none e = subst (λ cs. KeepsRecord (made w.disk cs).file s.after.sequence
            (record_of job (kept_of s.after))) (sym none) (same (kept_of h) h.sequence w.disk.file e refl own_kept)

        by_commit : (o : Option Kept) → Commits o h s.after → MakesCalls job h o w.disk calls
            → KeepsRecord (made w.disk calls).file s.after.sequence (record_of job (kept_of s.after))
        by_commit None e none = by_none none e
        by_commit (Some k) e commit = same k (h.sequence + 1) (made w.disk calls).file e.0 e.2
            (committed w.disk h.sequence (record_of job (kept_of h)) (record_of job k) calls own_kept commit)

    pub stepped_tied : TiedSince job base
        (record w { house = IsUp (Open s.after); disk = made w.disk calls; net = w.net ++ s.sent })
    stepped_tied = record {
      view = step.view;
      run = step.run run;
      since = step.since base since;
      shown =
          house_stepped s (made w.disk calls) s.sent step (holds own.sound) after_kept saved step.sent step.transfers;
    }

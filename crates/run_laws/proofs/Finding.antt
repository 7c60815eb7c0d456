-- Openings find the job's store on the disk.
use Rattle.std.proofs.Common.{◌≡◌, ℕ, false, List, inl, inr, Some, refl, sym, ap, subst, ◌∙◌}
use Rattle.disk.specs.File.{bytes_of}
use Rattle.disk.proofs.Crashes.{crash-leaves-bytes_of}
use Rattle.checkpoint.specs.Store.{IsRefused, ReadsAsStore}
use Rattle.checkpoint.specs.declared.record.CheckpointRecord.{CheckpointRecord}
use Rattle.checkpoint.specs.declared.record.StoreError.{StoreError}
use Rattle.checkpoint.specs.declared.record.StoreError.TheVariants.{Spent, JobMismatch, Damaged, Device, Version}
use Rattle.checkpoint.proofs.Opened.{one_kept}
use Rattle.checkpoint.proofs.Reading.{version_of}
use Rattle.serial_meaning.specs.Job.{JobOf, IsJob}
use Rattle.clearinghouse.specs.Errors.{error_of_store}
use Rattle.clearinghouse.specs.House.{Open, Stopped}
use Rattle.clearinghouse.specs.declared.error.HouseError.{HouseError}
use Rattle.event_script.specs.declared.event.Cut.{Cut as CutOf}
use Rattle.event_script.specs.declared.event.Event.{Event}
use Rattle.event_script.specs.declared.event.Event.TheVariants.{Start, AtNode, Crash, AtHouse, HouseCrash, Cut}
use Rattle.event_script.specs.declared.event.HouseEvent.{HouseEvent}
use Rattle.event_script.specs.declared.event.HouseEvent.TheVariants.{Deliver, Tick, Restart}
use Rattle.table_laws.specs.Tables.{◌∈◌}
use Rattle.table_laws.specs.View.{View}
use Rattle.world_steps.specs.Answers.{WorldAnswer, StepResult, Unfit, Ignored, Refused, Did, House}
use Rattle.world_steps.specs.Houses.{IsRefusedAs, RestartHalts, Restarts}
use Rattle.world_steps.specs.Runs.{Entry, Runs, ends, goes}
use Rattle.world_steps.specs.Steps.{DeviceFails, HouseEnds, HouseHalts, IsCut, Step, stopped_answer}
use Rattle.world_steps.specs.World.{Down, HouseAt, IsUp, WorldOf}
use Rattle.run_laws.specs.Openings.{FindsAt, FindsItsStore, OpeningFinds, finds_none}
use Rattle.run_laws.specs.Shown.{DiskShown}
use Rattle.run_laws.specs.Sound.{IsSound, sound_here, sound_of}
use Rattle.run_laws.proofs.Going.{step_sound}

-- a clearinghouse that is stopped tells why as before
stopped_finds : (a : WorldAnswer) → FindsItsStore a → FindsItsStore (stopped_answer a)
stopped_finds Unfit f = tt
stopped_finds Ignored f = tt
stopped_finds (Refused e) f = tt
stopped_finds (Did sent fills) f = tt
stopped_finds (House e sent outcome) f = f

module _ (job : JobOf) (v : View) (w : WorldOf) (disk : DiskShown job v w.disk w.house) where
  -- the file reads as what is kept
  reads : ReadsAsStore (bytes_of w.disk.file) disk.sequence disk.found
  reads = (disk.keeps.slot, disk.keeps.each (bytes_of w.disk.file) (crash-leaves-bytes_of w.disk.file))

  not_refused : (s : StoreError) → IsRefused s (bytes_of w.disk.file) job.number
      → finds_none (Some (error_of_store s)) ≡ false
  not_refused Version (named, other) =
      absurd (other (version_of (bytes_of w.disk.file) disk.keeps.slot disk.sequence disk.found
      (disk.keeps.each (bytes_of w.disk.file) (crash-leaves-bytes_of w.disk.file))))
  not_refused Damaged (known, none) = absurd (none disk.sequence disk.found reads)
  not_refused JobMismatch (n, r, read, other) =
      let one = one_kept w.disk.file read.0 n disk.sequence r disk.found read.1 disk.keeps in
      absurd (other (ap (λ (x : CheckpointRecord). x.job) one.1 ∙ disk.own))
  not_refused Spent spent = refl
  not_refused Device never = absurd never

  refused_finds : (e : HouseError) → IsRefusedAs job w.disk e → finds_none (Some e) ≡ false
  refused_finds e (inl (s, refused, is)) = rw is (not_refused s refused)
  refused_finds e (inr (spent, is)) = rw is refl

  restart_finds : (o : StepResult) → Restarts job w o → FindsItsStore o.answer
  restart_finds o (inl (way, is)) = rw is refl
  restart_finds o (inr (e, refused, is)) = rw is (refused_finds e refused)

  halted_finds : (k : ℕ) (bytes : List ℕ) (o : StepResult) → RestartHalts job k bytes w o → FindsItsStore o.answer
  halted_finds k bytes o (calls, why, within, is) = rw is refl

  -- an opening that ends, wherever the clearinghouse stands, and one in which a call of the disk
  -- fails
  ends_find : (x : HouseAt) (o : StepResult) → HouseEnds job Restart x w o → FindsItsStore o.answer
  ends_find Down o ended = restart_finds o ended
  ends_find (IsUp (Stopped s)) o ended = restart_finds o ended
  ends_find (IsUp (Open h)) o same = rw same refl

  halts_find : (x : HouseAt) (k : ℕ) (bytes : List ℕ) (o : StepResult) → HouseHalts job Restart x k bytes w o
      → FindsItsStore o.answer
  halts_find Down k bytes o halts = halted_finds k bytes o halts
  halts_find (IsUp (Stopped s)) k bytes o halts = halted_finds k bytes o halts
  halts_find (IsUp (Open h)) k bytes o never = absurd never

  -- a Cut of an opening
  cut_finds : (c : CutOf) (o : StepResult) → c.event ≡ Restart → IsCut job c w o → FindsItsStore o.answer
  cut_finds c o is (inl (unfit, same)) = rw same refl
  cut_finds c o is (inr (can, applies, inl (n, makes, few, (before, ended, after)))) =
      rw after (stopped_finds before.answer
      (ends_find w.house before (subst (λ (e : HouseEvent). HouseEnds job e w.house w before) is ended)))
  cut_finds c o is (inr (can, applies, inr (before, halts, after))) =
      rw after (stopped_finds before.answer
      (halts_find w.house c.calls c.bytes before
      (subst (λ (e : HouseEvent). HouseHalts job e w.house c.calls c.bytes w before) is halts)))

  at_house : (e : HouseEvent) (o : StepResult) → HouseEnds job e w.house w o → FindsAt e o.answer
  at_house (Deliver i) o ended = tt
  at_house (Tick now) o ended = tt
  at_house Restart o ended = ends_find w.house o ended

  at_house_fails : (e : HouseEvent) (k : ℕ) (bytes : List ℕ) (o : StepResult) → HouseHalts job e w.house k bytes w o
      → FindsAt e o.answer
  at_house_fails (Deliver i) k bytes o halts = tt
  at_house_fails (Tick now) k bytes o halts = tt
  at_house_fails Restart k bytes o halts = halts_find w.house k bytes o halts

  at_cut : (c : CutOf) (o : StepResult) (e : HouseEvent) → c.event ≡ e → IsCut job c w o → FindsAt e o.answer
  at_cut c o (Deliver i) is cut = tt
  at_cut c o (Tick now) is cut = tt
  at_cut c o Restart is cut = cut_finds c o is cut

  at_cut_fails : (c : CutOf) (o : StepResult) (e : HouseEvent) → c.event ≡ e → DeviceFails job (Cut c) w o
      → FindsAt e o.answer
  at_cut_fails c o (Deliver i) is fails = tt
  at_cut_fails c o (Tick now) is fails = tt
  at_cut_fails c o Restart is (can, opens, k, first, some, (before, halts, after)) =
      rw after (stopped_finds before.answer
      (halts_find w.house k c.bytes before
      (subst (λ (e : HouseEvent). HouseHalts job e w.house k c.bytes w before) is halts)))

  step_finds : (e : Event) (o : StepResult) → Step job e w o → OpeningFinds e o.answer
  step_finds (Start p word) o step = tt
  step_finds (AtNode p e) o step = tt
  step_finds (Crash p) o step = tt
  step_finds HouseCrash o step = tt
  step_finds (AtHouse e) o (inl ended) = at_house e o ended
  step_finds (AtHouse e) o (inr (k, bytes, only, halts)) = at_house_fails e k bytes o halts
  step_finds (Cut c) o (inl cut) = at_cut c o c.event refl cut
  step_finds (Cut c) o (inr fails) = at_cut_fails c o c.event refl fails

-- the disk is that of the world of whole packets
sound_finds : (job : JobOf) (w : WorldOf) → IsSound job w → (e : Event) (o : StepResult) → Step job e w o
    → OpeningFinds e o.answer
sound_finds job w sound e o step = step_finds job sound.tied.view w
    (subst (λ (x : WorldOf). DiskShown job sound.tied.view x.disk x.house) (sym sound.from.cut) sound.tied.shown.disk) e
    o step

-- so do those of a run
pub openings_find : (job : JobOf) → IsJob job → (w : WorldOf) (entries : List Entry) (worlds : List WorldOf)
    → Runs job w entries worlds → IsSound job w → (x : Entry) → x ∈ entries → OpeningFinds x.event x.answer
openings_find job ok w _ _ (ends) sound x never = absurd never
openings_find job ok w _ _ (goes {v = v} {e = e} {entries = entries} {worlds = worlds} step rest) sound x (inl same) =
    rw same (sound_finds job w sound e.event (record { world = v; answer = e.answer }) step)
openings_find job ok w _ _ (goes {v = v} {e = e} {entries = entries} {worlds = worlds} step rest) sound x (inr later) =
    openings_find job ok v entries worlds rest
    (sound_of (step_sound job ok sound.tied.view w (sound_here sound) e.event
    (record { world = v; answer = e.answer }) step)) x later

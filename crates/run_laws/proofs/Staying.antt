-- Once an outcome is recorded, it is recorded in each later world of a run whose clearinghouse is
-- open.
use Rattle.std.proofs.Common.{◌≡◌, suc, zero, IsTrue, true, false, List, [], ◌∷◌, Option, None, Some, is_some, sym, ap, ◌∙◌, arith}
use Rattle.ids.specs.declared.outcome.Outcome.{Outcome}
use Rattle.disk.specs.Device.{Device}
use Rattle.serial_meaning.specs.Job.{JobOf, IsJob}
use Rattle.serial_meaning.specs.Places.{outcome_of}
use Rattle.clearinghouse.specs.House.{Open, Stopped}
use Rattle.table_laws.specs.View.{View}
use Rattle.table_laws.proofs.Stored.{stored_stays}
use Rattle.table_laws.proofs.ValuesKept.{run_reached}
use Rattle.table_laws.proofs.Among.{got}
use Rattle.content_laws.specs.Shown.{outcome_number}
use Rattle.actor_laws.specs.house_moves.Shows.{stored_of}
use Rattle.world_steps.specs.Runs.{CanBegin, Entry, Runs, ends, goes}
use Rattle.world_steps.specs.Safe.{Stays}
use Rattle.world_steps.specs.World.{Down, HouseAt, IsUp, WorldOf, first_over, open_house, recorded, recorded_at}
use Rattle.run_laws.specs.Shown.{HouseShown, Tied, TiedSince}
use Rattle.run_laws.specs.Sound.{IsSound, SoundSince, sound_here, sound_of}
use Rattle.run_laws.proofs.Going.{first_sound, runs_sound, step_sound}
use Rattle.run_laws.proofs.Recorded.{stored_at, told_back}

-- what an open clearinghouse has recorded is what the tables store
outcome_in : (x : Option Outcome) (o : Outcome) → stored_of x ≡ Some (outcome_number o) → x ≡ Some o
outcome_in None o e = cc
outcome_in (Some y) o e = let same : outcome_number y ≡ outcome_number o =
    cc in ap Some (sym (told_back y) ∙ ap outcome_of same ∙ told_back o)

open_records : (v : View) (house : HouseAt) (o : Outcome) → HouseShown v house → v.stored ≡ Some (outcome_number o)
    → IsTrue (is_some (open_house house)) → recorded_at house ≡ Some o
open_records v Down o s e opened = let two : false ≡ true = opened in cc
open_records v (IsUp (Open h)) o s e opened = outcome_in h.outcome o (sym s.shown.stored ∙ e)
open_records v (IsUp (Stopped why)) o s e opened = let two : false ≡ true = opened in cc

-- from a world to a later one
later_tied : (job : JobOf) (w v : WorldOf) (o : Outcome) → (tied : Tied job w) → TiedSince job tied.view v
    → recorded w ≡ Some o → IsTrue (is_some (open_house v.house)) → recorded v ≡ Some o
later_tied job w v o tied after e opened =
    let stored = stored_at tied.view w.house o tied.shown.house e in
    open_records after.view v.house o after.shown.house (stored_stays (run_reached tied.run) after.since
    (outcome_number o) stored) opened

-- the clearinghouse is that of the world of whole packets
later_records : (job : JobOf) (w v : WorldOf) (o : Outcome) → (sound : IsSound job w) → SoundSince job sound.tied.view v
    → recorded w ≡ Some o → IsTrue (is_some (open_house v.house)) → recorded v ≡ Some o
later_records job w v o sound after e opened =
    let before : w.house ≡ sound.whole.house = ap (λ (x : WorldOf). x.house) sound.from.cut in
    let now : v.house ≡ after.whole.house = ap (λ (x : WorldOf). x.house) after.from.cut in
    ap recorded_at now ∙ later_tied job sound.whole after.whole o sound.tied after.tied (ap recorded_at (sym before)
    ∙ e) (rw now at opened)

-- in a list of worlds that begins with a sound one
module _ (job : JobOf) (ok : IsJob job) where
  pub all_stay : (w : WorldOf) (entries : List Entry) (worlds : List WorldOf) → Runs job w entries worlds
      → IsSound job w → Stays (w ∷ worlds)
  all_stay w entries worlds runs sound zero zero x y o ex ey le e opened = let same : x ≡ y = cc in rw (sym same) e
  all_stay w entries worlds runs sound zero (suc j) x y o ex ey le e opened =
      let is : w ≡ x = cc in
      let first : recorded w ≡ Some o = rw is e in
      later_records job w y o sound (runs_sound job ok sound.tied.view w entries worlds runs (sound_here sound) y
      (got worlds j y ey)) first opened
  all_stay w entries worlds runs sound (suc i) zero x y o ex ey le e opened = absurd (omega (arith, le))
  all_stay w _ _ (ends) sound (suc i) (suc j) x y o ex ey le e opened = absurd (got [] i x ex)
  all_stay w _ _ (goes {v = v} {e = entry} {entries = entries} {worlds = worlds} step rest) sound (suc i)
      (suc j) x y o ex ey le e opened =
      all_stay v entries worlds rest (sound_of
      (step_sound job ok sound.tied.view w (sound_here sound) entry.event
      (record { world = v; answer = entry.answer }) step)) i j x y o ex ey (omega (arith, le)) e opened

pub runs_stay : (job : JobOf) → IsJob job → (d : Device) (entries : List Entry) (worlds : List WorldOf) → CanBegin job d
    → Runs job (first_over d) entries worlds → Stays (first_over d ∷ worlds)
runs_stay job ok d entries worlds can runs = all_stay job ok (first_over d) entries worlds runs (first_sound job d can)

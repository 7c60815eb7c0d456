-- What is found on a disk.
use Rattle.std.proofs.Common.{◌≡◌, ◌≢◌, ℕ, Bool, IsTrue, true, false, List, [], ◌∷◌, Option, None, Result, Ok, Err, IfErr, ap, refl, subst, sym, ◌∙◌}
use Rattle.ids.specs.declared.outcome.Outcome.{Outcome}
use Rattle.disk.specs.Crash.{Only, Shrinks}
use Rattle.disk.specs.Device.{Device, crashed}
use Rattle.disk.specs.declared.cells.Cell.{Cell}
use Rattle.disk.specs.File.{CrashLeaves, bytes_of}
use Rattle.disk.proofs.Crashes.{crash-leaves-bytes_of}
use Rattle.checkpoint.proofs.Opened.{new_kept}
use Rattle.checkpoint.specs.Format.{fresh}
use Rattle.checkpoint.specs.Store.{IsRefused, KeepsItself, Opened, ReadsAsStore}
use Rattle.checkpoint.specs.declared.record.CheckpointRecord.{CheckpointRecord}
use Rattle.checkpoint.specs.declared.record.StoreError.{StoreError}
use Rattle.checkpoint.specs.declared.record.StoreError.TheVariants.{Device as DeviceError}
use Rattle.job_store.specs.Failed.{HasFailed}
use Rattle.job_store.proofs.Failing.{failed_behind}
use Rattle.agreement_laws.specs.Agreement.{AllSavedAgree}
use Rattle.serial_meaning.specs.Job.{JobOf}
use Rattle.saved_values.specs.declared.value.SavedValue.{SavedValue}
use Rattle.world_steps.specs.Agrees.{StoredAgree}
use Rattle.world_steps.specs.First.{IsFirstWith}
use Rattle.world_steps.specs.Seats.{IsStill}
use Rattle.world_steps.specs.Found.{IsKeptOf, IsRefusedOn}
use Rattle.world_steps.proofs.Meeting.{keeps_less, kept_agree}

-- a store that was opened over a settled disk, and whose disk was settled again
pub kept_of : {D : Type 0} (device : D
    → Device) (old mid : Device) (number : ℕ) (s : Opened D) (disk : D) (o : Option Outcome)
    → Shrinks (CrashLeaves old.file) (CrashLeaves mid.file) → Only (bytes_of mid.file) (CrashLeaves mid.file)
    → (bytes_of mid.file ≡ [] → s.«record» ≡ fresh number)
    → (bytes_of mid.file ≢ [] → (n : ℕ) × ReadsAsStore (bytes_of mid.file) n s.«record»)
    → (Only (bytes_of mid.file) (CrashLeaves mid.file) → KeepsItself device s)
    → s.«record».job ≡ number → s.«record».outcome ≡ o
    → Shrinks (CrashLeaves (device s.disk).file) (CrashLeaves (device disk).file)
    → IsKeptOf old number o (device disk).file
kept_of device old mid number s disk o left only made read kept own told less = record {
  content = bytes_of mid.file;
  left = left (bytes_of mid.file) (crash-leaves-bytes_of mid.file);
  sequence = s.sequence;
  found = s.«record»;
  read = read;
  made = made;
  kept = keeps_less (device s.disk).file (device disk).file s.sequence s.«record» less (new_kept (kept only));
  own = own;
  told = told;
}

-- so a run begins over it, once all of it is there for good
pub first_of : {D : Type 0} (device : D → Device) (job : JobOf) (s : Opened D) (disk : D) (saved : List SavedValue)
    → IsStill (device disk) → KeepsItself device s → s.«record».job ≡ job.number → s.«record».outcome ≡ None
    → s.«record».saved ≡ saved
    → Shrinks (CrashLeaves (device s.disk).file) (CrashLeaves (device disk).file) → IsFirstWith job (device disk) saved
first_of device job s disk saved still kept own told is less = (
  record {
    still = still;
    sequence = s.sequence;
    found = s.«record»;
    kept = keeps_less (device s.disk).file (device disk).file s.sequence s.«record» less (new_kept kept);
    own = own;
    no_outcome = told;
  },
  is,
)

-- so what is saved there agrees, if that was so before
pub still_agrees : (job : JobOf) (old d : Device) (number : ℕ) (o : Option Outcome) → IsKeptOf old number o d.file
    → StoredAgree job old → StoredAgree job d
still_agrees job old d number o k before = kept_agree job d k.sequence k.found k.kept (by k.content refl)
  where
    by : (content : List ℕ) → k.content ≡ content → AllSavedAgree job k.found.saved
    by [] none = subst (λ (r : CheckpointRecord). AllSavedAgree job r.saved) (sym (k.made none)) tt
    by (b ∷ bs) some = (let r = k.read (λ none. absurd (let no : b ∷ bs ≡ [] =
        sym some ∙ none in cc)) in before k.content k.left r.0 k.found r.1)

-- what the device alone refuses isn't refused by what the disk holds
pub by_device : {D T : Type 0} (device : D → Device) (old : Device) (r : Result T (StoreError × D))
    → IfErr r (λ e. e.0 ≡ DeviceError) → IfErr r (λ e. e.0 ≢ DeviceError
    → Shrinks (CrashLeaves old.file) (CrashLeaves (device e.1).file))
by_device device old (Ok x) is = tt
by_device device old (Err e) is = λ other. absurd (other is)

pub refused_by_device : {D T : Type 0} (file : List Cell) (number : ℕ) (r : Result T (StoreError × D))
    → IfErr r (λ e. e.0 ≡ DeviceError) → IfErr r (λ e. e.0 ≢ DeviceError → IsRefusedOn e.0 file number)
refused_by_device file number (Ok x) is = tt
refused_by_device file number (Err e) is = λ other. absurd (other is)

-- what was settled isn't opened
pub refused_settled : {D T : Type 0} (old mid : Device) (number : ℕ) (r : Result T (StoreError × D))
    → Shrinks (CrashLeaves old.file) (CrashLeaves mid.file)
    → IfErr r (λ e. e.0 ≢ DeviceError → IsRefused e.0 (bytes_of mid.file) number)
    → IfErr r (λ e. e.0 ≢ DeviceError → IsRefusedOn e.0 old.file number)
refused_settled old mid number (Ok x) left is = tt
refused_settled old mid number (Err e) left is =
    λ other. record {
      content = bytes_of mid.file;
      left = left (bytes_of mid.file) (crash-leaves-bytes_of mid.file);
      refused = is other;
    }

-- a device that is disarmed fails no call
pub disarmed_failures : (d mid : Device) → (IsTrue d.can_cut → mid ≡ crashed d) → (d.can_cut ≡ false → mid ≡ d)
    → mid.failures ≡ d.failures
disarmed_failures d mid cut uncut = by d.can_cut refl
  where
    by : (b : Bool) → d.can_cut ≡ b → mid.failures ≡ d.failures
    by true can = ap (λ (x : Device). x.failures) (cut can)
    by false not_cut = ap (λ (x : Device). x.failures) (uncut not_cut)

-- a call failed, and none before it
pub failed_since : {D T : Type 0} (device : D → Device) (old mid : Device) (r : Result T (StoreError × D))
    → mid.failures ≡ old.failures → IfErr r (λ e. e.0 ≡ DeviceError → HasFailed mid (device e.1))
    → IfErr r (λ e. e.0 ≡ DeviceError → HasFailed old (device e.1))
failed_since device old mid (Ok x) same failed = tt
failed_since device old mid (Err e) same failed = λ is. failed_behind old mid (device e.1) same (failed is)

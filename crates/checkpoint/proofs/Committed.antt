-- A commit that was made, or stopped.
use Rattle.std.proofs.Common.{◌≡◌, ℕ, ◌+◌, ◌≤◌, inr, Bool, true, false, List, ◌∷◌, length, Option, sym, ◌∙◌, ap, subst, arith}
use Rattle.std.specs.List.{splice}
use Rattle.std.specs.Prelude.{not, if◌then◌else◌}
use Rattle.disk.specs.Device.{Device}
use Rattle.disk.specs.File.{bytes_of}
use Rattle.disk.proofs.Crashes.{crash-leaves-bytes_of}
use Rattle.checkpoint.specs.Calls.{DeviceCall, Passed, Stopped, after}
use Rattle.checkpoint.specs.Commit.{IsCommit, publishing}
use Rattle.checkpoint.specs.Format.{IsBody}
use Rattle.checkpoint.specs.Moments.{KeepsEither}
use Rattle.checkpoint.specs.Pair.{place, slot}
use Rattle.checkpoint.specs.Store.{IsHeld, KeepsNew}
use Rattle.checkpoint.specs.declared.record.CheckpointRecord.{CheckpointRecord}
use Rattle.checkpoint.specs.declared.record.SlotId.TheVariants.{Large}
use Rattle.checkpoint.proofs.Kept.{before_or_after, replaced_store}
use Rattle.checkpoint.proofs.Opened.{new_kept}
use Rattle.checkpoint.proofs.Reading.{open_gate}
use Rattle.checkpoint.proofs.Pairs.{not_not, place_within}
use Rattle.checkpoint.proofs.Publishing as moment

at_place : (second : Bool) (at : ℕ) → at ≡ (if second then 2248 else 136) → at ≡ place 136 2111 second
at_place true at is = is
at_place false at is = is

-- the calls that a store makes
pub commit_of : (file : List ℕ) (second : Bool) (sequence at : ℕ) (r next : CheckpointRecord) (gate : Bool)
    (bytes : List ℕ) → IsHeld file (Large second) sequence r gate → at ≡ (if not second then 2248 else 136)
    → IsBody bytes (sequence + 1) next → IsCommit file sequence r next (publishing at gate bytes)
commit_of file second sequence at r next gate bytes held is body = record {
  second = second;
  current = held.store;
  bytes = bytes;
  body = body;
  same = ap (λ a. publishing a gate bytes) (at_place (not second) at is)
      ∙ ap (λ g. publishing (place 136 2111 (not second)) g bytes) held.other;
}

-- what it holds then
pub held_after : (d new : Device) (plan : ℕ
    → Option (List ℕ)) (second : Bool) (sequence at : ℕ) (r next : CheckpointRecord) (gate : Bool) (bytes : List ℕ)
    → IsHeld (bytes_of d.file) (Large second) sequence r gate → at ≡ (if not second then 2248 else 136)
    → IsBody bytes (sequence + 1) next → Passed (publishing at gate bytes) plan d new
    → IsHeld (bytes_of new.file) (Large (not second)) (sequence + 1) next true
held_after d new plan second sequence at r next gate bytes held is body passed =
    let here = at_place (not second) at is in
    let fits = place_within 136 2111 (not second) (length (bytes_of d.file)) held.store.current.room in
    let room : at + 1 + length bytes ≤ length (bytes_of d.file) = omega (arith, fits, body.size, here) in
    let done = moment.done d at gate bytes room (bytes_of (after d (publishing at gate bytes)).file)
    (crash-leaves-bytes_of _) in
    let reads : bytes_of new.file ≡ splice (bytes_of d.file) at (at + 1 + length bytes) (165 ∷ bytes) =
    ap (λ (x : Device). bytes_of x.file) passed.made ∙ done in
    let store = replaced_store (bytes_of d.file) (bytes_of new.file) bytes second sequence r next held.store body (reads
    ∙ ap (λ a. splice (bytes_of d.file) a (a + 1 + length bytes) (165 ∷ bytes)) here) in
    record {
      store = store.0;
      other = sym
          (open_gate (slot 136 2111 (not (not second)) (bytes_of new.file)) (rw not_not store.1));
    }

pub kept_after : (d new : Device) (plan : ℕ
    → Option (List ℕ)) (sequence : ℕ) (r next : CheckpointRecord) (calls : List DeviceCall) → KeepsNew d.file sequence r
    → IsCommit (bytes_of d.file) sequence r next calls → Passed calls plan d new → KeepsNew new.file (sequence + 1) next
kept_after d new plan sequence r next calls keeps commit passed =
    subst (λ (x : Device). KeepsNew x.file (sequence + 1) next) (sym passed.made)
    (before_or_after d sequence r next calls (new_kept keeps) commit).done

pub either_after : (d new : Device) (plan : ℕ
    → Option (List ℕ)) (sequence : ℕ) (r next : CheckpointRecord) (calls : List DeviceCall) → KeepsNew d.file sequence r
    → IsCommit (bytes_of d.file) sequence r next calls → Passed calls plan d new → KeepsEither new.file sequence r next
either_after d new plan sequence r next calls keeps commit passed c left =
    let kept = kept_after d new plan sequence r next calls keeps commit passed in
    inr (kept.second, kept.each c left)

pub either_stopped : (d new : Device) (plan : ℕ
    → Option (List ℕ)) (sequence : ℕ) (r next : CheckpointRecord) (calls : List DeviceCall) → KeepsNew d.file sequence r
    → IsCommit (bytes_of d.file) sequence r next calls → Stopped calls plan d new → KeepsEither new.file sequence r next
either_stopped d new plan sequence r next calls keeps commit stopped =
    (before_or_after d sequence r next calls (new_kept keeps) commit).stop plan new stopped

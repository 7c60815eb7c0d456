-- A store of the older form that is opened.
use Rattle.std.proofs.Common.{◌≡◌, ◌≢◌, inl, inr, ℕ, ◌+◌, ◌-◌, ◌^◌, Bool, true, false, List, Option, sym, ap, subst}
use Rattle.disk.specs.Device.{Device}
use Rattle.disk.specs.File.{CrashLeaves, bytes_of}
use Rattle.checkpoint.specs.Calls.{DeviceCall, Passed, Stopped, after}
use Rattle.checkpoint.specs.Commit.{IsMigration, migrating}
use Rattle.checkpoint.specs.Format.{IsBoth, IsMovedBody}
use Rattle.checkpoint.specs.Pair.{slot}
use Rattle.checkpoint.specs.Store.{IsHeld, KeepsContent, KeepsNew, KeepsRecord}
use Rattle.checkpoint.specs.declared.record.CheckpointRecord.{CheckpointRecord}
use Rattle.checkpoint.specs.declared.record.SlotId.TheVariants.{Small, Large}
use Rattle.checkpoint.proofs.Kept.{kept_in}
use Rattle.checkpoint.proofs.Migrating.{Migrates, made_reads, migrates}
use Rattle.checkpoint.proofs.Reading.{closed_gate}

module _ (d : Device) (second gate : Bool) (n : ℕ) (r : CheckpointRecord) (both bytes : List ℕ)
    (held : IsHeld (bytes_of d.file) (Small second) n r gate) (left : n ≢ 2 ^ 64 - 1) (large : IsBoth both r)
    (small : IsMovedBody bytes (n + 1) r.job r.epoch) where
  abbrev pub moves : List DeviceCall
  moves = migrating both second gate bytes

  pub is_migration : IsMigration (bytes_of d.file) second n r moves
  is_migration = record {
    current = held.store;
    left = left;
    both = both;
    large = large;
    bytes = bytes;
    small = small;
    same = ap (λ (g : Bool). migrating both second g bytes) held.other;
  }

  pub held_moved : (plan : ℕ → Option (List ℕ)) (new : Device) → Passed moves plan d new
      → IsHeld (bytes_of new.file) (Large false) 0 r false
  held_moved plan new passed =
      let made = made_reads d second gate n r both bytes held.store large small in
      let reads : bytes_of new.file ≡ bytes_of (after d moves).file =
      ap (λ (x : Device). bytes_of x.file) passed.made in
      subst (λ (l : List ℕ). IsHeld l (Large false) 0 r false) (sym reads)
      (record {
        store = made.0;
        other = sym (closed_gate (slot 136 2111 true (bytes_of (after d moves).file)) made.1);
      })

  all_along : KeepsRecord d.file n r → Migrates d second n r moves
  all_along keeps = migrates d second gate n r both bytes
      (λ c leaves. kept_in d (Small second) n r held.store keeps c leaves) held.other large small.size
      (record { job = r.job; epoch = r.epoch; fields = small.fields })

  pub kept_moved : (plan : ℕ → Option (List ℕ)) (new : Device) → KeepsRecord d.file n r → Passed moves plan d new
      → KeepsNew new.file 0 r
  kept_moved plan new keeps passed = record {
    second = false;
    each = λ c leaves. ((all_along keeps).done c (subst (λ (x : Device). CrashLeaves x.file c) passed.made leaves)).0;
  }

  pub kept_stopped : (plan : ℕ → Option (List ℕ)) (new : Device) → KeepsRecord d.file n r → Stopped moves plan d new
      → KeepsContent new.file r
  kept_stopped plan new keeps stopped c leaves = elim ((all_along keeps).stop plan new stopped c leaves) [
    | inl old ↦ (n, (Small second, old))
    | inr new_form ↦ (0, (Large false, new_form))
  ]

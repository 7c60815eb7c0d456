-- The values that are read from a store are of places below the root's.
use Rattle.std.proofs.Common.{◌≡◌, ℕ, List, [], ◌∷◌, drop}
use Rattle.checkpoint.specs.Format.{SpellsEntries}
use Rattle.checkpoint.specs.Pair.{body, slot}
use Rattle.checkpoint.specs.Store.{ReadsAsStore}
use Rattle.checkpoint.specs.declared.record.CheckpointRecord.{CheckpointRecord}
use Rattle.checkpoint.specs.declared.record.SlotId.{SlotId}
use Rattle.checkpoint.specs.declared.record.SlotId.TheVariants.{Small, Large}
use Rattle.saved_values.specs.declared.value.SavedValue.{SavedValue}
use Rattle.actor_laws.specs.actor_agreement.Values.{AreBelowRoot}
use Rattle.actor_laws.proofs.actor_agreement.Below.{saved_below}

entries_below : (bytes : List ℕ) (saved : List SavedValue) → SpellsEntries bytes saved → AreBelowRoot saved
entries_below bytes [] spells = tt
entries_below bytes (x ∷ saved) spells =
    (saved_below x.place spells.0.place, entries_below (drop 32 bytes) saved spells.1)

none_below : (saved : List SavedValue) → saved ≡ [] → AreBelowRoot saved
none_below saved none = rw none tt

pub read_below : (file : List ℕ) (n : ℕ) (r : CheckpointRecord) → ReadsAsStore file n r → AreBelowRoot r.saved
read_below file n r (Small second, is) = none_below r.saved is.current.content.unsaved
read_below file n r (Large second, is) =
    entries_below (drop 63 (body (slot 136 2111 second file))) r.saved is.current.content.entries

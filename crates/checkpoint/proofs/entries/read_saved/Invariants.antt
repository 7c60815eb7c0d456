use Rattle.std.proofs.Common.{◌≡◌, length}
use Rattle.checkpoint.specs.Format.{SpellsEntries}
use Rattle.checkpoint.proofs.entries.read_saved.Given as goal

abbrev pub invariant-loop-index : goal.invariant-loop-index
invariant-loop-index l = (length l.saved ≡ l.index) × SpellsEntries l.bytes l.saved

use Rattle.std.proofs.Common.{◌≡◌, ◌++◌, drop}
use Rattle.traces.specs.Texts.{AreRight, lines_of, text_of}
use Rattle.traces.proofs.merged.text_of.Given as goal

abbrev pub invariant-loop-entry : goal.invariant-loop-entry
invariant-loop-entry l = record {
  text : l.text.items ++ lines_of l.labels (drop l.entry-index l.entries) ≡ text_of l.labels l.entries;
  right : AreRight l.labels (drop l.entry-index l.entries) → AreRight l.labels l.entries;
}

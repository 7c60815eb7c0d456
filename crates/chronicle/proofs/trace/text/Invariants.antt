use Rattle.std.proofs.Common.{◌≡◌, ◌++◌, drop}
use Rattle.chronicle.specs.Texts.{AreRead, events_of, lines_of, text_of}
use Rattle.chronicle.proofs.trace.text.Given as goal

abbrev pub invariant-loop-entry : goal.invariant-loop-entry
invariant-loop-entry l = record {
  text : l.text.items ++ lines_of (events_of (drop l.entry-index l.entries)) ≡ text_of (events_of l.entries);
  read : AreRead (events_of (drop l.entry-index l.entries)) → AreRead (events_of l.entries);
}

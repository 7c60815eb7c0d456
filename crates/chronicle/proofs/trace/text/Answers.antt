use Rattle.std.proofs.Common.{drop}
use Rattle.std.proofs.lemmas.List.{drop_all}
use Rattle.chronicle.specs.Texts.{events_of}
use Rattle.chronicle.proofs.Texts.{is_read, read_ends, text_ends}
use Rattle.chronicle.proofs.trace.text.Goals as goal

pub returns-clause-read : goal.returns-clause-read
returns-clause-read c =
    let left = drop c.loop-entry.entry-index c.args.entries.now in
    let none = drop_all c.loop-entry.entry-index c.args.entries.now c.loop-entry-test.false in
    is_read c.loop-entry.text.items (events_of c.args.entries.now)
    (text_ends c.loop-entry.text.items c.args.entries.now left none c.loop-entry.invariant.text)
    (read_ends c.args.entries.now left none c.loop-entry.invariant.read)

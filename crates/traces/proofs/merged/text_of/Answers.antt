use Rattle.std.proofs.Common.{drop}
use Rattle.std.proofs.lemmas.List.{drop_all}
use Rattle.traces.specs.Texts.{text_of}
use Rattle.traces.proofs.Texts.{events_are_read, names_are_read, right_ends, text_ends}
use Rattle.traces.proofs.merged.text_of.Goals as goal

pub returns-clause-events : goal.returns-clause-events
returns-clause-events c =
    let left = drop c.loop-entry.entry-index c.args.entries.now in
    let none = drop_all c.loop-entry.entry-index c.args.entries.now c.loop-entry-test.false in
    events_are_read c.args.labels.now c.loop-entry.text.items c.args.entries.now
    (text_ends c.args.labels.now c.loop-entry.text.items
    (text_of c.args.labels.now c.args.entries.now) left none c.loop-entry.invariant.text)
    (right_ends c.args.labels.now c.args.entries.now left none c.loop-entry.invariant.right)

pub returns-clause-names : goal.returns-clause-names
returns-clause-names c =
    let left = drop c.loop-entry.entry-index c.args.entries.now in
    let none = drop_all c.loop-entry.entry-index c.args.entries.now c.loop-entry-test.false in
    names_are_read c.args.labels.now c.loop-entry.text.items c.args.entries.now
    (text_ends c.args.labels.now c.loop-entry.text.items
    (text_of c.args.labels.now c.args.entries.now) left none c.loop-entry.invariant.text)
    (right_ends c.args.labels.now c.args.entries.now left none c.loop-entry.invariant.right)

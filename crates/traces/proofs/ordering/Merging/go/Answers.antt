use Rattle.std.proofs.Common.{◌≡◌, ◌++◌, ◌∙◌, ap, sym, List}
use Rattle.std.proofs.lemmas.List.{append_assoc}
use Rattle.event_script.specs.declared.event.Event.{Event}
use Rattle.traces.specs.Merges.{name_sent}
use Rattle.traces.specs.Merging.{coming_events, if_there}
use Rattle.traces.specs.Texts.{events_of}
use Rattle.traces.proofs.Stepping.{some_same}
use Rattle.traces.proofs.ordering.Merging.go.Goals as goal

pub returns-in_default-clause-moves : goal.returns-in_default-clause-moves
returns-in_default-clause-moves c = absurd (
    let t = c.advance.ensures.taken c.requires.next.0 c.requires.next.1 c.requires.next.2 c.requires.next.3 in
    let no_way = sym c.in_default.is ∙ t.0 in cc)

pub returns-clause-moves : goal.returns-clause-moves
returns-clause-moves c =
    let t = c.advance.ensures.taken c.requires.next.0 c.requires.next.1 c.requires.next.2 c.requires.next.3 in
    let own = some_same c.in-Some.taken c.requires.next.0 (sym c.in-Some.is ∙ t.0) in
    let noted = c.in_ok-note.ensures.events ∙ ap events_of c.advance.ensures.entries in
    let first = c.in_ok-add.ensures.events ∙ ap (λ (es : List Event). es ++ if_there c.args.coming.first) noted in
    let both = c.in_ok-add-2.ensures.events ∙ ap (λ (es : List Event). es ++ if_there c.args.coming.second) first in
    record {
      line = c.requires.next.0;
      rest = c.requires.next.1;
      at = c.requires.next.2;
      then = c.args.coming.then;
      new = coming_events c.args.coming;
      next = c.requires.next.3;
      comes = c.requires.comes c.requires.next.0 c.requires.next.1 c.requires.next.2 c.requires.next.3;
      actors = c.in_ok-add-2.ensures.actors ∙ (c.in_ok-add.ensures.actors ∙ (c.in_ok-note.ensures.actors ∙ t.1));
      events = both ∙ append_assoc (events_of c.args.self.now.entries.items) (if_there c.args.coming.first)
          (if_there c.args.coming.second);
      sent = c.in_ok-add-2.ensures.sent ∙ (c.in_ok-add.ensures.sent ∙ (c.in_ok-note.ensures.sent
          ∙ (ap (λ ns. ns ++ name_sent c.in-Some.taken) c.advance.ensures.sent
          ∙ ap (λ l. c.args.self.now.sent.items ++ name_sent l) own)));
    }

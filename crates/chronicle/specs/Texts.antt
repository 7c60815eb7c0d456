-- The text of events, as a script.
use Rattle.std.specs.Prelude.{ℕ, List, ◌++◌, flat_map, map, codes}
use Rattle.std.specs.List.{AllByRecursion}
use Rattle.event_script.specs.Back.{IsRead}
use Rattle.event_script.specs.Written.{ended, written}
use Rattle.event_script.specs.declared.event.Event.{Event}
use Rattle.chronicle.specs.declared.kept.Entry.{Entry}

-- the events of a history
abbrev pub events_of : List Entry → List Event
events_of entries = map (λ e. e.event) entries

-- the line of each event
abbrev pub lines_of : List Event → List ℕ
lines_of events = flat_map (λ e. ended (written e)) events

-- behind a first line, by which nodes have 64 places
abbrev pub text_of : List Event → List ℕ
text_of events = ended (codes "# nodes 64") ++ lines_of events

-- the line of each is read as this event
abbrev pub AreRead : List Event → Type 0
AreRead events = AllByRecursion IsRead events

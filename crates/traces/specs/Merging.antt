-- A merge as the code holds it.
use Rattle.std.specs.Prelude.{◌≡◌, ◌++◌, List, [], ◌∷◌, Option, None, Some}
use Rattle.event_script.specs.declared.event.Event.{Event}
use Rattle.traces.specs.Merges.{MergeOf}
use Rattle.traces.specs.Texts.{events_of, sent_of}
use Rattle.traces.specs.declared.ordering.Coming.{Coming}
use Rattle.traces.specs.declared.ordering.Merging.{Merging}

abbrev pub merge_of : Merging → MergeOf
merge_of m = record { actors = m.actors.items; events = events_of m.entries.items; sent = m.sent.items }

-- its names are those of its entries
abbrev pub IsKept : Merging → Type 0
IsKept m = sent_of m.entries.items ≡ m.sent.items

-- the events that come of a line
unfoldable pub if_there : Option Event → List Event
if_there None = []
if_there (Some e) = e ∷ []

abbrev pub coming_events : Coming → List Event
coming_events c = if_there c.first ++ if_there c.second

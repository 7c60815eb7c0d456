-- A merged script: its entries, which are events and the names of the packets that were sent, and
-- its text.
use Rattle.std.specs.Prelude.{◌≡◌, ◌<◌, ◌^◌, ℕ, true, Some, List, [], ◌∷◌, ◌++◌, flat_map, codes, slice_get}
use Rattle.std.specs.Fmt.{decimal}
use Rattle.std.specs.List.{AllByRecursion}
use Rattle.std.specs.Option.{unwrap_or}
use Rattle.event_script.specs.Back.{IsRead, plain}
use Rattle.event_script.specs.Written.{ended, spaced, written}
use Rattle.event_script.specs.declared.event.Event.{Event}
use Rattle.traces.specs.Names.{named}
use Rattle.traces.specs.declared.merged.Entry.{Entry}
use Rattle.traces.specs.declared.merged.Entry.TheVariants as entry

abbrev pub events_of : List Entry → List Event
events_of [] = []
events_of (entry.Event e ∷ rest) = e ∷ events_of rest
events_of (entry.Sent name a n ∷ rest) = events_of rest

abbrev pub sent_of : List Entry → List (List ℕ)
sent_of [] = []
sent_of (entry.Event e ∷ rest) = sent_of rest
sent_of (entry.Sent name a n ∷ rest) = name ∷ sent_of rest

-- the label of a trace
abbrev pub label_at : List (List ℕ) → ℕ → List ℕ
label_at labels a = unwrap_or (slice_get labels a) (codes "-")

-- the words of a comment that names a packet, and whose trace tells it in which line
abbrev pub sent_words : (name label : List ℕ) → ℕ → List (List ℕ)
sent_words name label n = codes "#" ∷ codes "sent" ∷ name ∷ label ∷ decimal n ∷ []

unfoldable pub line_of_entry : List (List ℕ) → Entry → List ℕ
line_of_entry labels (entry.Event e) = ended (written e)
line_of_entry labels (entry.Sent name a n) = ended (spaced (sent_words name (label_at labels a) n))

-- behind a first line, by which nodes have 64 places
abbrev pub lines_of : List (List ℕ) → List Entry → List ℕ
lines_of labels entries = flat_map (line_of_entry labels) entries

abbrev pub text_of : List (List ℕ) → List Entry → List ℕ
text_of labels entries = ended (codes "# nodes 64") ++ lines_of labels entries

-- its line is read as this event, or as this name
pub record IsRightName (labels : List (List ℕ)) (name : List ℕ) (a n : ℕ) : Type 0 where
  pub is_name : named name ≡ Some name
  pub plain_name : plain name ≡ true
  pub plain_label : plain (label_at labels a) ≡ true
  pub fits : n < 2 ^ 64

abbrev pub IsRightEntry : List (List ℕ) → Entry → Type 0
IsRightEntry labels (entry.Event e) = IsRead e
IsRightEntry labels (entry.Sent name a n) = IsRightName labels name a n

abbrev pub AreRight : List (List ℕ) → List Entry → Type 0
AreRight labels entries = AllByRecursion (IsRightEntry labels) entries

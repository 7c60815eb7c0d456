-- What the lines of a trace say: which packets were sent, which one came, and the actor's other
-- events, as lines of a script.
use Rattle.std.specs.Prelude.{ℕ, List, [], ◌∷◌, Option, None, Some, Result, Ok, Err}
use Rattle.event_script.specs.Scripts.{script}
use Rattle.event_script.specs.Words.{lines}
use Rattle.event_script.specs.declared.event.Event.{Event}
use Rattle.traces.specs.Names.{sent_in, taken_in}
use Rattle.traces.specs.declared.line.TraceLine.{TraceLine}
use Rattle.traces.specs.declared.line.TraceLine.TheVariants.{Sent, Took, Did}
use Rattle.traces.specs.declared.line.Told.{Told}
use Rattle.traces.specs.declared.line.Told.TheVariants.{Nothing, Says, Refused}

-- by the script that a line is by itself
unfoldable pub by_script : Result (List Event) ℕ → Told
by_script (Ok []) = Nothing
by_script (Ok (e ∷ [])) = Says (Did e)
by_script (Ok (e ∷ f ∷ es)) = Refused
by_script (Err n) = Refused

unfoldable pub or_took : Option (List ℕ) → Told → Told
or_took None other = other
or_took (Some name) other = Says (Took name)

unfoldable pub or_sent : Option (List ℕ) → Told → Told
or_sent None other = other
or_sent (Some name) other = Says (Sent name)

-- a line of a trace
abbrev pub told_by : List ℕ → Told
told_by line = or_sent (sent_in line) (or_took (taken_in line) (by_script (script line)))

unfoldable pub with_told : Told → Option (List TraceLine) → Option (List TraceLine)
with_told Nothing more = more
with_told (Says l) None = None
with_told (Says l) (Some ls) = Some (l ∷ ls)
with_told Refused more = None

-- what lines say, but for the last one, which no line feed ends: of an actor that was killed it may
-- be cut off
abbrev pub said_by : List (List ℕ) → Option (List TraceLine)
said_by [] = Some []
said_by (last ∷ []) = Some []
said_by (line ∷ next ∷ rest) = with_told (told_by line) (said_by (next ∷ rest))

abbrev pub trace : List ℕ → Option (List TraceLine)
trace text = said_by (lines text)

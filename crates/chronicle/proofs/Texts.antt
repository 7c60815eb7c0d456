-- A text of lines is read line by line, so the script of events is read as these events.
use Rattle.std.proofs.Common.{◌≡◌, ℕ, ◌+◌, List, [], ◌∷◌, ◌++◌, append-nil, Ok, refl, sym, ap, ◌∙◌, codes}
use Rattle.std.proofs.lemmas.List.{append_assoc}
use Rattle.event_script.specs.Back.{IsRead}
use Rattle.event_script.specs.Lines.{Line}
use Rattle.event_script.specs.Scripts.{by_line, events_from, places, script, with_event}
use Rattle.event_script.specs.Words.{lines}
use Rattle.event_script.specs.Written.{ended, written}
use Rattle.event_script.specs.declared.event.Event.{Event}
use Rattle.event_script.proofs.Ended.{ended_line, one_event}
use Rattle.chronicle.specs.declared.kept.Entry.{Entry}
use Rattle.chronicle.specs.Texts.{AreRead, events_of, lines_of, text_of}

-- the events of the lines, of which the first is the n-th
lines_read : (n : ℕ) (es : List Event) → AreRead es → events_from 64 n (lines (lines_of es)) ≡ Ok es
lines_read n [] read = refl
lines_read n (e ∷ es) read =
    ap (events_from 64 n) (ended_line (written e) (lines_of es) (one_event e))
    ∙ ap (λ (l : Line). by_line n l (events_from 64 (n + 1) (lines (lines_of es)))) read.0
    ∙ ap (with_event e) (lines_read (n + 1) es read.1)

text_read : (es : List Event) → AreRead es → script (text_of es) ≡ Ok es
text_read es read =
    ap (λ (ls : List (List ℕ)). events_from (places ls) 1 ls) (ended_line (codes "# nodes 64") (lines_of es) refl) ∙ lines_read 2 es read

-- so it is of a text that is this one
pub is_read : (text : List ℕ) (es : List Event) → text ≡ text_of es → AreRead es → script text ≡ Ok es
is_read text es is read = ap script is ∙ text_read es read

-- a text grows by the line of the next event

pub text_goes_on : (text more whole : List ℕ) (left rest : List Entry) (e : Entry) → left ≡ e ∷ rest
    → text ++ lines_of (events_of left) ≡ whole → more ≡ text ++ ended (written e.event)
    → more ++ lines_of (events_of rest) ≡ whole
text_goes_on text more whole left rest e front is one =
    ap (λ (t : List ℕ). t ++ lines_of (events_of rest)) one
    ∙ (append_assoc text (ended (written e.event)) (lines_of (events_of rest))
    ∙ (sym (ap (λ (es : List Entry). text ++ lines_of (events_of es)) front) ∙ is))

pub read_goes_on : (left rest : List Entry) (e : Entry) (All : Type 0) → left ≡ e ∷ rest
    → (AreRead (events_of left) → All) → IsRead e.event → AreRead (events_of rest) → All
read_goes_on left rest e All front is one others = is (rw front (one, others))

-- and is whole when none is left
pub text_ends : (text : List ℕ) (entries left : List Entry) → left ≡ []
    → text ++ lines_of (events_of left) ≡ text_of (events_of entries) → text ≡ text_of (events_of entries)
text_ends text entries left none is =
    sym (append-nil text) ∙ (sym (ap (λ (es : List Entry). text ++ lines_of (events_of es)) none) ∙ is)

pub read_ends : (entries left : List Entry) → left ≡ [] → (AreRead (events_of left) → AreRead (events_of entries))
    → AreRead (events_of entries)
read_ends entries left none is = is (rw none tt)

-- The text of a merged script is read as its events, and the names in it are its names.
use Rattle.std.proofs.Common.{◌≡◌, ◌<◌, ◌^◌, ℕ, ◌+◌, Bool, false, true, cond, ◌&&◌, nat_eq, nat_lt, List, [], ◌∷◌, ◌++◌, append-nil, drop, Option, None, Some, Ok, refl, sym, ap, ◌∙◌, arith, codes}
use Rattle.std.specs.Fmt.{decimal}
use Rattle.std.specs.List.{list_all, onto_first}
use Rattle.std.specs.Str.{bytes_eq}
use Rattle.std.proofs.lemmas.Bool.Decides.{nat_tests}
use Rattle.std.proofs.lemmas.List.{append_assoc}
use Rattle.event_script.specs.Back.{IsRead, graphic, plain}
use Rattle.event_script.specs.Lines.{Line, Skipped, Refused, by_event, event_of, is_ascii, is_skipped, line_of}
use Rattle.event_script.specs.Scripts.{by_line, events_from, places, script, with_event}
use Rattle.event_script.specs.Words.{lines, words}
use Rattle.event_script.specs.Written.{ended, spaced, written}
use Rattle.event_script.specs.declared.event.Event.{Event}
use Rattle.event_script.specs.declared.event.Event.TheVariants.{Start, AtNode, Crash, AtHouse, HouseCrash, Cut}
use Rattle.event_script.specs.declared.event.HouseEvent.TheVariants as house
use Rattle.event_script.specs.declared.event.NodeEvent.TheVariants as node
use Rattle.event_script.proofs.Back.{plain_number}
use Rattle.event_script.proofs.Ended.{ended_line, inner, one_event, one_line, one_spaced}
use Rattle.event_script.proofs.Spaced.{both, left_of, right_of, spaced_ascii, spaced_words}
use Rattle.traces.specs.Names.{name_behind, named, names_in, names_of_lines, sent_in, with_name}
use Rattle.traces.specs.Texts.{AreRight, IsRightEntry, IsRightName, events_of, label_at, line_of_entry, lines_of, sent_of, sent_words, text_of}
use Rattle.traces.specs.declared.merged.Entry.{Entry}
use Rattle.traces.specs.declared.merged.Entry.TheVariants as entry

-- a plain word has no end of a line in it

graphic_inner : (b : ℕ) → nat_lt 32 b ≡ true → inner b ≡ true
graphic_inner b h = grind (arith, nat_tests)

plain_inner : (w : List ℕ) → plain w ≡ true → one_line w ≡ true
plain_inner [] h = refl
plain_inner (b ∷ bs) h =
    both (inner b) (one_line bs) (graphic_inner b
    (left_of (nat_lt 32 b) (nat_lt b 128) (left_of (graphic b) (plain bs) h)))
    (plain_inner bs (right_of (graphic b) (plain bs) h))

all_inner : (ws : List (List ℕ)) → list_all plain ws ≡ true → list_all one_line ws ≡ true
all_inner [] h = refl
all_inner (w ∷ ws) h = both (one_line w) (list_all one_line ws)
    (plain_inner w (left_of (plain w) (list_all plain ws) h)) (all_inner ws (right_of (plain w) (list_all plain ws) h))

-- the comment of a name

words_plain : (labels : List (List ℕ)) (name : List ℕ) (a n : ℕ) → IsRightName labels name a n
    → list_all plain (sent_words name (label_at labels a) n) ≡ true
words_plain labels name a n right =
    let number = both (plain (decimal n)) true (plain_number n right.fits) refl in
    let label = both (plain (label_at labels a)) (plain (decimal n) && true) right.plain_label number in
    both (plain name) (plain (label_at labels a) && (plain (decimal n) && true)) right.plain_name label

skipped_by : (line : List ℕ) → is_ascii line ≡ true → is_skipped line ≡ true → line_of 64 line ≡ Skipped
skipped_by line ascii skip =
    ap (λ (v : Bool). cond v (cond (is_skipped line) Skipped (by_event (event_of 64 (words line)))) Refused) ascii
    ∙ ap (λ (v : Bool). cond v Skipped (by_event (event_of 64 (words line)))) skip

comment_skipped : (labels : List (List ℕ)) (name : List ℕ) (a n : ℕ) → IsRightName labels name a n
    → line_of 64 (spaced (sent_words name (label_at labels a) n)) ≡ Skipped
comment_skipped labels name a n right =
    skipped_by (spaced (sent_words name (label_at labels a) n))
    (spaced_ascii (codes "#") (codes "sent" ∷ name ∷ label_at labels a ∷ decimal n ∷ []) (words_plain labels name a n right)) refl

comment_named : (labels : List (List ℕ)) (name : List ℕ) (a n : ℕ) → IsRightName labels name a n
    → sent_in (spaced (sent_words name (label_at labels a) n)) ≡ Some name
unfolding name_behind
comment_named labels name a n right =
    ap (name_behind (codes "sent")) (spaced_words (codes "#") (codes "sent" ∷ name ∷ label_at labels a ∷ decimal n ∷ []) (words_plain labels name a n right)) ∙ right.is_name

-- the line of an event names no packet, since it doesn't begin with a number sign

other_first : (verb p : List ℕ) (c : ℕ) (ps : List (List ℕ)) → nat_eq c 35 ≡ false
    → name_behind verb ((c ∷ p) ∷ ps) ≡ None
unfolding name_behind
other_first verb p c [] h = refl
other_first verb p c (b ∷ []) h = refl
other_first verb p c (b ∷ name ∷ ws) h =
    ap (λ (v : Bool). cond ((v && bytes_eq p []) && bytes_eq b verb) (named name) None) h

other_onto : (verb : List ℕ) (c : ℕ) (ps : List (List ℕ)) → nat_eq c 35 ≡ false
    → name_behind verb (onto_first c ps) ≡ None
other_onto verb c [] h = other_first verb [] c [] h
other_onto verb c (p ∷ ps) h = other_first verb p c ps h

letter : (c : ℕ) (rest : List ℕ) → nat_eq c 32 ≡ false → nat_eq c 35 ≡ false → sent_in (c ∷ rest) ≡ None
letter c rest no_space no_sign =
    ap (λ (v : Bool). name_behind (codes "sent") (cond v ([] ∷ words rest) (onto_first c (words rest)))) no_space ∙ other_onto (codes "sent") c (words rest) no_sign

event_unnamed : (e : Event) → sent_in (written e) ≡ None
event_unnamed (Start n w) = letter 115 (drop 1 (written (Start n w))) refl refl
event_unnamed (AtNode n (node.Deliver i)) = letter 100 (drop 1 (written (AtNode n (node.Deliver i)))) refl refl
event_unnamed (AtNode n (node.Exec f)) = letter 101 (drop 1 (written (AtNode n (node.Exec f)))) refl refl
event_unnamed (AtNode n (node.Whole f t)) = letter 119 (drop 1 (written (AtNode n (node.Whole f t)))) refl refl
event_unnamed (AtNode n (node.Ask v)) = letter 97 (drop 1 (written (AtNode n (node.Ask v)))) refl refl
event_unnamed (AtNode n node.Resend) = letter 114 (drop 1 (written (AtNode n node.Resend))) refl refl
event_unnamed (AtNode n (node.Depart h)) = letter 100 (drop 1 (written (AtNode n (node.Depart h)))) refl refl
event_unnamed (Crash n) = letter 99 (drop 1 (written (Crash n))) refl refl
event_unnamed (AtHouse (house.Deliver i)) = letter 104 (drop 1 (written (AtHouse (house.Deliver i)))) refl refl
event_unnamed (AtHouse (house.Tick t)) = letter 104 (drop 1 (written (AtHouse (house.Tick t)))) refl refl
event_unnamed (AtHouse house.Restart) = letter 104 (drop 1 (written (AtHouse house.Restart))) refl refl
event_unnamed HouseCrash = letter 104 (drop 1 (written HouseCrash)) refl refl
event_unnamed (Cut c) = letter 99 (drop 1 (written (Cut c))) refl refl

-- the events of the lines, of which the first is the n-th

comment_lines : (labels : List (List ℕ)) (name : List ℕ) (a n : ℕ) (rest : List ℕ) → IsRightName labels name a n
    → lines (ended (spaced (sent_words name (label_at labels a) n)) ++ rest)
    ≡ spaced (sent_words name (label_at labels a) n) ∷ lines rest
comment_lines labels name a n rest right =
    ended_line (spaced (sent_words name (label_at labels a) n)) rest
    (one_spaced (sent_words name (label_at labels a) n)
    (all_inner (sent_words name (label_at labels a) n) (words_plain labels name a n right)))

lines_read : (labels : List (List ℕ)) (k : ℕ) (es : List Entry) → AreRight labels es
    → events_from 64 k (lines (lines_of labels es)) ≡ Ok (events_of es)
unfolding line_of_entry
lines_read labels k [] right = refl
lines_read labels k (entry.Event e ∷ es) right =
    ap (events_from 64 k) (ended_line (written e) (lines_of labels es) (one_event e))
    ∙ ap (λ (l : Line). by_line k l (events_from 64 (k + 1) (lines (lines_of labels es)))) right.0
    ∙ ap (with_event e) (lines_read labels (k + 1) es right.1)
lines_read labels k (entry.Sent name a n ∷ es) right =
    ap (events_from 64 k) (comment_lines labels name a n (lines_of labels es) right.0)
    ∙ ap (λ (l : Line). by_line k l (events_from 64 (k + 1) (lines (lines_of labels es))))
    (comment_skipped labels name a n right.0)
    ∙ lines_read labels (k + 1) es right.1

-- and their names
lines_named : (labels : List (List ℕ)) (es : List Entry) → AreRight labels es
    → names_of_lines (lines (lines_of labels es)) ≡ sent_of es
unfolding line_of_entry with_name name_behind
lines_named labels [] right = refl
lines_named labels (entry.Event e ∷ es) right =
    ap names_of_lines (ended_line (written e) (lines_of labels es) (one_event e))
    ∙ ap (λ (o : Option (List ℕ)). with_name o (names_of_lines (lines (lines_of labels es)))) (event_unnamed e)
    ∙ lines_named labels es right.1
lines_named labels (entry.Sent name a n ∷ es) right =
    ap names_of_lines (comment_lines labels name a n (lines_of labels es) right.0)
    ∙ ap (λ (o : Option (List ℕ)). with_name o (names_of_lines (lines (lines_of labels es))))
    (comment_named labels name a n right.0)
    ∙ ap (λ (ns : List (List ℕ)). name ∷ ns) (lines_named labels es right.1)

-- so it is of a text that is this one
pub events_are_read : (labels : List (List ℕ)) (text : List ℕ) (es : List Entry) → text ≡ text_of labels es
    → AreRight labels es → script text ≡ Ok (events_of es)
events_are_read labels text es is right =
    ap script is
    ∙ (ap (λ (ls : List (List ℕ)). events_from (places ls) 1 ls) (ended_line (codes "# nodes 64") (lines_of labels es) refl) ∙ lines_read labels 2 es right)

pub names_are_read : (labels : List (List ℕ)) (text : List ℕ) (es : List Entry) → text ≡ text_of labels es
    → AreRight labels es → names_in text ≡ sent_of es
unfolding with_name name_behind
names_are_read labels text es is right =
    ap names_in is ∙ (ap names_of_lines (ended_line (codes "# nodes 64") (lines_of labels es) refl) ∙ lines_named labels es right)

-- a text grows by the line of the next entry, and is whole when none is left

pub text_goes_on : (labels : List (List ℕ)) (text more whole : List ℕ) (left rest : List Entry) (e : Entry)
    → left ≡ e ∷ rest → text ++ lines_of labels left ≡ whole
    → more ≡ text ++ line_of_entry labels e → more ++ lines_of labels rest ≡ whole
text_goes_on labels text more whole left rest e front is one =
    ap (λ (t : List ℕ). t ++ lines_of labels rest) one
    ∙ (append_assoc text (line_of_entry labels e) (lines_of labels rest)
    ∙ (sym (ap (λ (es : List Entry). text ++ lines_of labels es) front) ∙ is))

pub text_ends : (labels : List (List ℕ)) (text whole : List ℕ) (left : List Entry) → left ≡ []
    → text ++ lines_of labels left ≡ whole → text ≡ whole
text_ends labels text whole left none is =
    sym (append-nil text) ∙ (sym (ap (λ (es : List Entry). text ++ lines_of labels es) none) ∙ is)

pub right_goes_on : (labels : List (List ℕ)) (left rest : List Entry) (e : Entry) (All : Type 0) → left ≡ e ∷ rest
    → (AreRight labels left → All)
    → IsRightEntry labels e → AreRight labels rest → All
right_goes_on labels left rest e All front is one others = is (rw front (one, others))

pub right_ends : (labels : List (List ℕ)) (entries left : List Entry) → left ≡ []
    → (AreRight labels left → AreRight labels entries) → AreRight labels entries
right_ends labels entries left none is = is (rw none tt)

-- The events and the names of entries, where one more comes.
use Rattle.std.proofs.Common.{◌≡◌, ℕ, List, [], ◌∷◌, ◌++◌, refl, ap}
use Rattle.event_script.specs.declared.event.Event.{Event}
use Rattle.traces.specs.Texts.{events_of, sent_of}
use Rattle.traces.specs.declared.merged.Entry.{Entry}
use Rattle.traces.specs.declared.merged.Entry.TheVariants as entry

pub events_event : (es : List Entry) (e : Event) → events_of (es ++ entry.Event e ∷ []) ≡ events_of es ++ e ∷ []
events_event [] e = refl
events_event (entry.Event f ∷ es) e = ap (λ (fs : List Event). f ∷ fs) (events_event es e)
events_event (entry.Sent name a n ∷ es) e = events_event es e

pub sent_event : (es : List Entry) (e : Event) → sent_of (es ++ entry.Event e ∷ []) ≡ sent_of es
sent_event [] e = refl
sent_event (entry.Event f ∷ es) e = sent_event es e
sent_event (entry.Sent name a n ∷ es) e = ap (λ (ns : List (List ℕ)). name ∷ ns) (sent_event es e)

pub events_sent : (es : List Entry) (name : List ℕ) (a n : ℕ)
    → events_of (es ++ entry.Sent name a n ∷ []) ≡ events_of es
events_sent [] name a n = refl
events_sent (entry.Event f ∷ es) name a n = ap (λ (fs : List Event). f ∷ fs) (events_sent es name a n)
events_sent (entry.Sent other b m ∷ es) name a n = events_sent es name a n

pub sent_sent : (es : List Entry) (name : List ℕ) (a n : ℕ)
    → sent_of (es ++ entry.Sent name a n ∷ []) ≡ sent_of es ++ name ∷ []
sent_sent [] name a n = refl
sent_sent (entry.Event f ∷ es) name a n = sent_sent es name a n
sent_sent (entry.Sent other b m ∷ es) name a n = ap (λ (ns : List (List ℕ)). other ∷ ns) (sent_sent es name a n)

-- What the lines of a trace say, line by line.
use Rattle.std.proofs.Common.{◌≡◌, ℕ, Bool, true, false, List, [], ◌∷◌, ◌++◌, append-nil, Option, None, Some, refl, sym, ap, ◌∙◌}
use Rattle.std.proofs.lemmas.List.{append_assoc}
use Rattle.event_script.specs.Words.{none_left}
use Rattle.traces.specs.Lines.{said_by, told_by, with_told}
use Rattle.traces.specs.declared.line.TraceLine.{TraceLine}
use Rattle.traces.specs.declared.line.Told.{Told}
use Rattle.traces.specs.declared.line.Told.TheVariants.{Nothing, Says, Refused}

-- what was said before, and what is said behind it
abbrev pub behind : List TraceLine → Option (List TraceLine) → Option (List TraceLine)
behind ls None = None
behind ls (Some more) = Some (ls ++ more)

-- of two lines or more the first is read, and says this
here : (line next : List ℕ) (rest : List (List ℕ)) (t : Told) → told_by line ≡ t
    → said_by (line ∷ next ∷ rest) ≡ with_told t (said_by (next ∷ rest))
here line next rest t is = ap (λ (t : Told). with_told t (said_by (next ∷ rest))) is

said_more : (ls : List TraceLine) (l : TraceLine) (more : Option (List TraceLine))
    → behind ls (with_told (Says l) more) ≡ behind (ls ++ l ∷ []) more
unfolding with_told
said_more ls l None = refl
said_more ls l (Some more) = ap Some (sym (append_assoc ls (l ∷ []) more))

-- it says nothing, or something
pub nothing_here : (ls : List TraceLine) (all : Option (List TraceLine)) (left rest : List (List ℕ)) (line : List ℕ)
    → left ≡ line ∷ rest → (rest ≡ [] → ⊥)
    → told_by line ≡ Nothing → behind ls (said_by left) ≡ all → behind ls (said_by rest) ≡ all
unfolding with_told
nothing_here ls all left [] line front some is h = absurd (some refl)
nothing_here ls all left (next ∷ rest) line front some is h =
    sym (ap (λ (lines : List (List ℕ)). behind ls (said_by lines)) front
    ∙ ap (behind ls) (here line next rest Nothing is)) ∙ h

pub line_here : (ls new : List TraceLine) (l : TraceLine) (all : Option (List TraceLine)) (left rest : List (List ℕ))
    (line : List ℕ) → left ≡ line ∷ rest
    → (rest ≡ [] → ⊥) → told_by line ≡ Says l → new ≡ ls ++ l ∷ [] → behind ls (said_by left) ≡ all
    → behind new (said_by rest) ≡ all
line_here ls new l all left [] line front some is one h = absurd (some refl)
line_here ls new l all left (next ∷ rest) line front some is one h =
    ap (λ (ls : List TraceLine). behind ls (said_by (next ∷ rest))) one
    ∙ sym (ap (λ (lines : List (List ℕ)). behind ls (said_by lines)) front
    ∙ (ap (behind ls) (here line next rest (Says l) is) ∙ said_more ls l (said_by (next ∷ rest)))) ∙ h

-- it is refused
pub refused_here : (ls : List TraceLine) (all : Option (List TraceLine)) (left rest : List (List ℕ)) (line : List ℕ)
    → left ≡ line ∷ rest
    → (rest ≡ [] → ⊥) → told_by line ≡ Refused → behind ls (said_by left) ≡ all → all ≡ None
unfolding with_told
refused_here ls all left [] line front some is h = absurd (some refl)
refused_here ls all left (next ∷ rest) line front some is h =
    sym h ∙ (ap (λ (lines : List (List ℕ)). behind ls (said_by lines)) front
    ∙ ap (behind ls) (here line next rest Refused is))

-- the last one is passed over
pub over_here : (ls : List TraceLine) (all : Option (List TraceLine)) (left rest : List (List ℕ)) (line : List ℕ)
    → left ≡ line ∷ rest → rest ≡ []
    → behind ls (said_by left) ≡ all → all ≡ Some ls
over_here ls all left rest line front none h =
    sym h ∙ (ap (λ (lines : List (List ℕ)). behind ls (said_by lines)) (front
    ∙ ap (λ (r : List (List ℕ)). line ∷ r) none) ∙ ap Some (append-nil ls))

pub none_left_over : (ls : List TraceLine) (all : Option (List TraceLine)) (left : List (List ℕ)) → left ≡ []
    → behind ls (said_by left) ≡ all → all ≡ Some ls
none_left_over ls all left none h = sym h
    ∙ (ap (λ (lines : List (List ℕ)). behind ls (said_by lines)) none ∙ ap Some (append-nil ls))

-- something is left
pub some_left : (b : Bool) (ls : List (List ℕ)) → b ≡ none_left ls → b ≡ false → ls ≡ [] → ⊥
some_left b ls is not_none none = let no_way : true ≡ false = sym (ap none_left none) ∙ (sym is ∙ not_none) in absurd cc

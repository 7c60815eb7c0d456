-- The names in the lines of a text, line by line.
use Rattle.std.proofs.Common.{◌≡◌, ℕ, List, [], ◌∷◌, ◌++◌, Option, None, Some, sym, ap, ◌∙◌}
use Rattle.std.proofs.lemmas.List.{append_assoc}
use Rattle.traces.specs.Names.{names_of_lines, sent_in, with_name}

-- of lines of which the first has no name, and of lines of which it has one
pub none_here : (names all left rest : List (List ℕ)) (line : List ℕ) → left ≡ line ∷ rest → sent_in line ≡ None
    → names ++ names_of_lines left ≡ all → names ++ names_of_lines rest ≡ all
unfolding with_name
none_here names all left rest line front none is =
    sym (ap (λ (ls : List (List ℕ)). names ++ names_of_lines ls) front
    ∙ ap (λ (o : Option (List ℕ)). names ++ with_name o (names_of_lines rest)) none) ∙ is

pub one_here : (names more all left rest : List (List ℕ)) (line name : List ℕ) → left ≡ line ∷ rest
    → sent_in line ≡ Some name
    → more ≡ names ++ name ∷ [] → names ++ names_of_lines left ≡ all → more ++ names_of_lines rest ≡ all
unfolding with_name
one_here names more all left rest line name front some new is =
    ap (λ (ns : List (List ℕ)). ns ++ names_of_lines rest) new
    ∙ append_assoc names (name ∷ []) (names_of_lines rest)
    ∙ sym (ap (λ (ls : List (List ℕ)). names ++ names_of_lines ls) front
    ∙ ap (λ (o : Option (List ℕ)). names ++ with_name o (names_of_lines rest)) some) ∙ is

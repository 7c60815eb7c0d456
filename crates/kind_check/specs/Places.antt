-- Names in a list, found by their first place.
use Rattle.std.specs.Prelude.{ℕ, suc, Bool, false, nat_lt, if◌then◌else◌, List, [], ◌∷◌, map, Option, Some, None}
use Rattle.std.specs.Str.{bytes_eq}
use Rattle.task_tree.specs.declared.tree.Thread.{Thread}
use Rattle.task_tree.specs.declared.tree.Use.{Use}

-- one place further
abbrev pub further : Option ℕ → Option ℕ
further None = None
further (Some i) = Some (suc i)

-- the first place of a name among names
abbrev pub place_of : List (List ℕ) → List ℕ → Option ℕ
place_of [] name = None
place_of (n ∷ ns) name = if bytes_eq n name then Some 0 else further (place_of ns name)

-- whether there is a place, and it is before place i
abbrev pub is_below : Option ℕ → ℕ → Bool
is_below None i = false
is_below (Some place) i = nat_lt place i

-- the names of threads
abbrev pub thread_names : List Thread → List (List ℕ)
thread_names ts = map (λ t. t.name.text) ts

-- the names of the holes that are used
abbrev pub hole_names : List Use → List (List ℕ)
hole_names us = map (λ u. u.hole.text) us

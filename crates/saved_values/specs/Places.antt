-- Places whose values are saved: lists of steps, the last step first.
use Rattle.std.specs.Prelude.{ℕ, zero, suc, ◌&&◌, ◌==◌, Bool, false, nat_lt, List, [], ◌∷◌, length, reverse}
use Rattle.std.specs.List.{list_all, starts_with}
use Rattle.std.specs.Cmp.Lexicographic.{slice_cmp}
use Rattle.std.specs.declared.cmp.Ordering.{Ordering}
use Rattle.std.specs.Ordering.{nat_cmp, ordering_then}

-- each step goes to a successor (0) or to the kid of a hole (1 to 8)
abbrev pub are_steps : List ℕ → Bool
are_steps steps = list_all (λ step. nat_lt step 9) steps

-- 1 to 23 steps, of which the last one goes to a kid
abbrev pub is_saved_place : List ℕ → Bool
is_saved_place [] = false
is_saved_place (step ∷ before) = nat_lt 0 step && nat_lt (length before) 23 && are_steps (step ∷ before)

-- the order of places: shorter ones first, and those of one length by their steps from the root on
abbrev pub place_cmp : List ℕ → List ℕ → Ordering
place_cmp p q = ordering_then (nat_cmp (length p) (length q)) (slice_cmp nat_cmp (reverse p) (reverse q))

-- whether a place begins with another one, and is longer
abbrev pub is_under : (root place : List ℕ) → Bool
is_under root place = nat_lt (length root) (length place) && starts_with (λ i j. i == j) (reverse place) (reverse root)

-- a place less the steps to successors at its end
abbrev pub stripped : List ℕ → List ℕ
stripped [] = []
stripped (zero ∷ before) = stripped before
stripped (suc i ∷ before) = suc i ∷ before

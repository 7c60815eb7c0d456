-- Lists of the same items, and items with their numbers.
use Rattle.std.specs.Prelude.{◌≡◌, ℕ, ◌+◌, ◌≤◌, List, [], ◌∷◌, sum_by}

-- the lists have the same items, each as often: however items are weighed, both weigh the same
abbrev pub SameItems : {X : Type 0} → List X → List X → Type 0
SameItems {X} xs ys = (weight : X → ℕ) → sum_by weight xs ≡ sum_by weight ys

-- each item stands in the first list at most as often as in the second
abbrev pub AtMost : {X : Type 0} → List X → List X → Type 0
AtMost {X} xs ys = (weight : X → ℕ) → sum_by weight xs ≤ sum_by weight ys

-- the items, each with its number, from n on
abbrev pub numbered_from : {X : Type 0} → ℕ → List X → List (ℕ × X)
numbered_from n [] = []
numbered_from n (x ∷ xs) = (n, x) ∷ numbered_from (n + 1) xs

-- the items, the first with the number 0
abbrev pub numbered : {X : Type 0} → List X → List (ℕ × X)
numbered xs = numbered_from 0 xs

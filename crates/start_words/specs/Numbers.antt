-- How often a number stands in a list, and the numbers from 1 on.
use Rattle.std.specs.Prelude.{◌≡◌, ℕ, ◌+◌, ◌^◌, ◌<◌, ◌&&◌, ◌==◌, nat_lt, nat_le, if◌then◌else◌, List, [], ◌∷◌}

-- how often x stands in a list
abbrev pub times_drawn : ℕ → List ℕ → ℕ
times_drawn x [] = 0
times_drawn x (y ∷ ys) = (if y == x then 1 else 0) + times_drawn x ys

-- how often x is among the numbers 1 to n: once or not at all
abbrev pub times_to : ℕ → ℕ → ℕ
times_to n x = if nat_lt 0 x && nat_le x n then 1 else 0

-- the list has the numbers 1 to n, each once, and no others
abbrev pub EachOnce : ℕ → List ℕ → Type 0
EachOnce n xs = (x : ℕ) → times_drawn x xs ≡ times_to n x

-- a number that a worker may start with
abbrev pub IsStartWord : ℕ → Type 0
IsStartWord n = (0 < n) × (n < 2 ^ 63)

-- Places: a list of steps, the last step first.
use Rattle.std.specs.Prelude.{ℕ, ◌≤◌, ◌<◌, ◌==◌, List, length, All, count_by, not, Bool, nat_lt, nat_le, ◌&&◌}
use Rattle.std.specs.List.{list_all}

-- at most 1,024 steps, each to the successor (0) or to the kid of a hole (1 to 8)
pub record IsPlace (place : List ℕ) : Type 0 where
  pub short : length place ≤ 1024
  pub steps : All (λ step. step < 9) place

-- how many levels a place is below the root: the count of its steps to kids
abbrev pub level_of : List ℕ → ℕ
level_of place = count_by (λ step. not (step == 0)) place

-- the same, as a test
abbrev pub is_place : List ℕ → Bool
is_place place = nat_le (length place) 1024 && list_all (λ step. nat_lt step 9) place

-- Names of numbers and of the places where values go, by which the frames and records of a content
-- are compared.
use Rattle.std.specs.Prelude.{◌≡◌, ◌<◌, ◌≤◌, ℕ, ◌+◌, ◌&&◌, Bool, nat_eq, List, sum_by}
use Rattle.ids.specs.Named.{Name}
use Rattle.ids.specs.declared.returns.Return.{Return}
use Rattle.ids.specs.declared.returns.Return.TheVariants.{Whole, Local}
use Rattle.sub_rules.specs.Debts.{one_if}

-- a number, as a name
abbrev pub name_of_number : ℕ → Name
name_of_number n = (n, 0)

-- where a value goes, as a name: to the whole, or to a slot of a frame, whose number is raised by 1
abbrev pub name_of_return : Return → Name
name_of_return Whole = (0, 0)
name_of_return (Local n j) = (n + 1, j)

-- the name of a name
abbrev pub itself : Name → Name
itself n = n

abbrev pub same_name : Name → Name → Bool
same_name a b = nat_eq a.0 b.0 && nat_eq a.1 b.1

-- how often an item stands in a list
abbrev pub times : {A : Type 0} → (A → A → Bool) → A → List A → ℕ
times same x xs = sum_by (λ y. one_if (same x y)) xs

-- names that differ, as they are kept
pub record AreKept (names kept : List Name) : Type 0 where
  pub each : (n : Name) → times same_name n kept ≡ times same_name n names
  pub once : (n : Name) → times same_name n names ≤ 1

-- a name stands twice among these
pub record HasTwice (names : List Name) : Type 0 where
  pub name : Name
  pub twice : 2 ≤ times same_name name names

-- names were taken away from others
abbrev pub AreTaken : List Name → List Name → List Name → Type 0
AreTaken names before after = (n : Name) → times same_name n after + times same_name n names ≡ times same_name n before

-- one of the names stands there more often than among others
pub record HasMore (names others : List Name) : Type 0 where
  pub name : Name
  pub more : times same_name name others < times same_name name names

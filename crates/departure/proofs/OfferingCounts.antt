-- Items with numbers of their own, all below one number, are no more than that number.
use Rattle.std.proofs.Common.{◌≡◌, ℕ, ◌+◌, ◌<◌, ◌≤◌, zero, suc, nat_eq, nat_lt, List, [], ◌∷◌, length, refl, arith, inl, inr}
use Rattle.std.specs.List.{AllByRecursion, sum_by}
use Rattle.std.proofs.lemmas.List.Sums.{sum_by-cons}
use Rattle.std.proofs.lemmas.Bool.{cases_order, eq-eqb, lt-ltb, le-ltb}
use Rattle.sub_rules.specs.Debts.{one_if}
use Rattle.sub_rules.proofs.Slots.{apart}

-- 1 for an item with a number below m, and for one with the number m
abbrev below : {X : Type 0} → (X → ℕ) → ℕ → X → ℕ
below number m x = one_if (nat_lt (number x) m)

abbrev pub having : {X : Type 0} → (X → ℕ) → ℕ → X → ℕ
having number m x = one_if (nat_eq (number x) m)

-- a number is below the next one where it is below, or is the same
one_more : (k m : ℕ) → (k < m) → one_if (nat_lt k (suc m)) ≡ one_if (nat_lt k m) + one_if (nat_eq k m)
one_more k m less = rw (lt-ltb k (suc m) (omega arith), lt-ltb k m less, apart k m (λ same. omega arith)) refl

not_below : (k m : ℕ) → (m < k) → one_if (nat_lt k (suc m)) ≡ one_if (nat_lt k m) + one_if (nat_eq k m)
not_below k m more = rw (le-ltb k (suc m) (omega arith), le-ltb k m (omega arith), apart k m (λ same. omega arith)) refl

the_same : (k m : ℕ) → k ≡ m → one_if (nat_lt k (suc m)) ≡ one_if (nat_lt k m) + one_if (nat_eq k m)
the_same k m same = rw (lt-ltb k (suc m) (omega arith), le-ltb k m (omega arith), eq-eqb k m same) refl

next_number : (k m : ℕ) → one_if (nat_lt k (suc m)) ≡ one_if (nat_lt k m) + one_if (nat_eq k m)
next_number k m = elim (cases_order k m) [
  | inl same ↦ the_same k m same
  | inr other ↦ elim other [ inl less ↦ one_more k m less | inr more ↦ not_below k m more ]
]

counted_more : {X : Type 0} (number : X → ℕ) (m : ℕ) (xs : List X)
    → sum_by (below number (suc m)) xs ≡ sum_by (below number m) xs + sum_by (having number m) xs
counted_more number m [] = refl
counted_more number m (x ∷ xs) =
    let rest = counted_more number m xs in
    let here = next_number (number x) m in
    omega (
      arith,
      sum_by-cons (below number (suc m)) x xs,
      sum_by-cons (below number m) x xs,
      sum_by-cons (having number m) x xs,
    )

none_below : {X : Type 0} (number : X → ℕ) (xs : List X) → sum_by (below number 0) xs ≡ 0
none_below number [] = refl
none_below number (x ∷ xs) =
    let rest = none_below number xs in
    let here : one_if (nat_lt (number x) 0) ≡ 0 = rw (le-ltb (number x) 0 (omega arith)) refl in
    omega (arith, sum_by-cons (below number 0) x xs)

-- each number once: below m there are at most m
few_below : {X : Type 0} (number : X → ℕ) (xs : List X) → ((n : ℕ) → sum_by (having number n) xs ≤ 1) → (m : ℕ)
    → sum_by (below number m) xs ≤ m
few_below number xs once zero = omega (arith, none_below number xs)
few_below number xs once (suc m) =
    let here = once m in
    let rest = few_below number xs once m in
    omega (arith, counted_more number m xs)

all_below : {X : Type 0} (number : X → ℕ) (next : ℕ) (xs : List X) → AllByRecursion (λ x. number x < next) xs
    → sum_by (below number next) xs ≡ length xs
all_below number next [] under = refl
all_below number next (x ∷ xs) under =
    let here : one_if (nat_lt (number x) next) ≡ 1 = rw (lt-ltb (number x) next under.0) refl in
    let rest = all_below number next xs under.1 in
    omega (arith, sum_by-cons (below number next) x xs)

pub no_more_than : {X : Type 0} (number : X → ℕ) (next : ℕ) (xs : List X) → ((n : ℕ) → sum_by (having number n) xs ≤ 1)
    → AllByRecursion (λ x. number x < next) xs → length xs ≤ next
no_more_than number next xs once under =
    let few = few_below number xs once next in
    let all = all_below number next xs under in
    omega arith

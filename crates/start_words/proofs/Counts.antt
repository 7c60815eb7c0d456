-- Laws on how often a number stands in a list.
use Rattle.std.proofs.Common.{◌≡◌, ℕ, zero, suc, ◌+◌, ◌<◌, ◌==◌, if◌then◌else◌, List, [], ◌∷◌, ◌++◌, length, slice_index_or, refl, arith}
use Rattle.std.proofs.lemmas.Bool.Decides.{nat_tests}
use Rattle.start_words.specs.Numbers.{times_drawn, times_to}
use Rattle.start_words.specs.Words.{PenOf, drawn_by}

pub times-append : (x : ℕ) (xs ys : List ℕ) → times_drawn x (xs ++ ys) ≡ times_drawn x xs + times_drawn x ys
times-append x [] ys = omega arith
times-append x (z ∷ zs) ys = let rest = times-append x zs ys in omega arith

-- one number more
pub times_to-next : (n x : ℕ) → times_to (n + 1) x ≡ times_to n x + (if (n + 1) == x then 1 else 0)
times_to-next n x = grind (arith, nat_tests)

-- none of the first numbers is greater
pub times_to-after : (n : ℕ) → times_to n (n + 1) ≡ 0
times_to-after n = grind (arith, nat_tests)

pub times_to-none : (x : ℕ) → times_to 0 x ≡ 0
times_to-none x = grind (arith, nat_tests)

-- what stands in a list stands there at least once
pub found_times : (xs : List ℕ) (k x : ℕ) → k < length xs → slice_index_or xs k x ≡ x → 0 < times_drawn x xs
found_times [] k x below is = absurd (omega arith)
found_times (y ∷ ys) zero x below is = grind (arith, nat_tests)
found_times (y ∷ ys) (suc k) x below is = let rest = found_times ys k x (omega arith) is in omega arith

-- an empty list has nothing
pub times_of_none : (x : ℕ) (xs : List ℕ) → length xs ≡ 0 → times_drawn x xs ≡ 0
times_of_none x [] none = refl
times_of_none x (y ∷ ys) none = absurd (omega arith)

-- what one pen more has drawn
pub times-drawn_by : (x : ℕ) (pens : List PenOf) (p : PenOf)
    → times_drawn x (drawn_by (pens ++ p ∷ [])) ≡ times_drawn x (drawn_by pens) + times_drawn x p.drawn
times-drawn_by x [] p = omega (arith, times-append x p.drawn [])
times-drawn_by x (q ∷ qs) p =
    let rest = times-drawn_by x qs p in
    omega (arith, times-append x q.drawn (drawn_by (qs ++ p ∷ [])), times-append x q.drawn (drawn_by qs))

-- no pens have drawn nothing
pub times_of_no_pens : (x : ℕ) (pens : List PenOf) → length pens ≡ 0 → times_drawn x (drawn_by pens) ≡ 0
times_of_no_pens x [] none = refl
times_of_no_pens x (p ∷ ps) none = absurd (omega arith)

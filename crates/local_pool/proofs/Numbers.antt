-- Laws on items with their numbers.
use Rattle.std.proofs.Common.{◌≡◌, ℕ, ◌+◌, ◌<◌, ◌≤◌, All, List, [], ◌∷◌, ◌++◌, length, nat_lt, if◌then◌else◌, sum_by, refl, ap, ◌∙◌, arith}
use Rattle.std.proofs.lemmas.Bool.Decides.{nat_tests}
use Rattle.std.proofs.lemmas.List.Elements.{All-cons}
use Rattle.std.proofs.lemmas.List.Sums.{sum_by-cons, sum_by-append}
use Rattle.local_pool.specs.Items.{numbered_from, numbered}

module _ {X : Type 0} where
  pub numbered_from-append : (n : ℕ) (xs ys : List X)
      → numbered_from n (xs ++ ys) ≡ numbered_from n xs ++ numbered_from (n + length xs) ys
  numbered_from-append n [] ys = ap (λ k. numbered_from k ys) (omega arith)
  numbered_from-append n (x ∷ xs) ys =
      let rest = numbered_from-append (n + 1) xs ys in
      let more : numbered_from (n + 1 + length xs) ys ≡ numbered_from (n + length (x ∷ xs)) ys =
      ap (λ k. numbered_from k ys) (omega arith) in
      ap (λ l. (n, x) ∷ l) (rest ∙ ap (λ l. numbered_from (n + 1) xs ++ l) more)

  -- one item more has the next number
  pub sum_by-numbered_push : (weight : ℕ × X → ℕ) (xs : List X) (x : X)
      → sum_by weight (numbered (xs ++ x ∷ [])) ≡ sum_by weight (numbered xs) + weight (length xs, x)
  sum_by-numbered_push weight xs x =
      let split = ap (sum_by weight) (numbered_from-append 0 xs (x ∷ [])) in
      let parts = sum_by-append weight (numbered xs) (numbered_from (0 + length xs) (x ∷ [])) in
      let one = sum_by-cons weight (0 + length xs, x) [] in
      let same : weight (0 + length xs, x) ≡ weight (length xs, x) = ap (λ (k : ℕ). weight (k, x)) (omega arith) in
      omega arith

  -- 0 for a number below n
  abbrev pub late : ℕ → ℕ × X → ℕ
  late n p = if nat_lt p.0 n then 0 else 1

  late_not : (n m : ℕ) (x : X) → m < n → late n (m, x) ≡ 0
  late_not n m x below = grind (arith, nat_tests)

  early : (n : ℕ) (p : ℕ × X) → late n p ≡ 0 → p.0 < n
  early n p none = grind (arith, nat_tests)

  none_late : (n m : ℕ) (xs : List X) → m + length xs ≤ n → sum_by (late n) (numbered_from m xs) ≡ 0
  none_late n m [] within = refl
  none_late n m (x ∷ xs) within =
      let rest = none_late n (m + 1) xs (omega arith) in
      let cons = sum_by-cons (late n) (m, x) (numbered_from (m + 1) xs) in
      let here = late_not n m x (omega arith) in
      omega arith

  pub no_number_late : (xs : List X) → sum_by (late (length xs)) (numbered xs) ≡ 0
  no_number_late xs = none_late (length xs) 0 xs (omega arith)

  pub all_early : (n : ℕ) (ps : List (ℕ × X)) → sum_by (late n) ps ≡ 0 → All (λ p. p.0 < n) ps
  all_early n [] none = λ k d below. absurd (omega arith)
  all_early n (p ∷ ps) none =
      let cons = sum_by-cons (late n) p ps in
      let here = early n p (omega arith) in
      All-cons (λ q. q.0 < n) p ps here (all_early n ps (omega arith))

  pub length-numbered_from : (n : ℕ) (xs : List X) → length (numbered_from n xs) ≡ length xs
  length-numbered_from n [] = refl
  length-numbered_from n (x ∷ xs) = let rest = length-numbered_from (n + 1) xs in omega arith

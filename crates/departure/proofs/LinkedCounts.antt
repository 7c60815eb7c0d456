-- How often an item stands in a list, and lists that have the same items, each once.
use Rattle.std.proofs.Common.{◌≡◌, ℕ, zero, suc, ◌+◌, ◌<◌, ◌≤◌, ◌&&◌, Bool, true, false, cond, List, [], ◌∷◌, length, IsTrue, refl, sym, ap, ◌∙◌, arith}
use Rattle.std.specs.List.{filter, list_all, sum_by}
use Rattle.std.proofs.lemmas.Bool.{eq-eqb, eqb-true}
use Rattle.std.proofs.lemmas.List.Sums.{sum_by-cons}
use Rattle.sub_rules.specs.Debts.{one_if}
use Rattle.subcomputation.specs.Fitting.{occurs_once, same_once}
use Rattle.departure.specs.Links.{times}

-- both of two tests
pub both : (a b : Bool) → IsTrue (a && b) → IsTrue a × IsTrue b
both true b h = (refl, h)
both false b h = absurd cc

-- a test that tells whether two items are equal
pub record Tells {A : Type 0} (same : A → A → Bool) : Type 0 where
  pub exact : (a b : A) → IsTrue (same a b) → a ≡ b
  pub itself : (a : A) → IsTrue (same a a)

-- how many items pass a test
filtered : {A : Type 0} (test : A → Bool) (xs : List A) → length (filter test xs) ≡ sum_by (λ y. one_if (test y)) xs
filtered test [] = refl
filtered test (x ∷ xs) = by_test (filtered test xs) (test x) ∙ sym (sum_by-cons (λ y. one_if (test y)) x xs)
  where
    by_test : length (filter test xs) ≡ sum_by (λ y. one_if (test y)) xs → (b : Bool)
        → length (cond b (x ∷ filter test xs) (filter test xs)) ≡ one_if b + sum_by (λ y. one_if (test y)) xs
    by_test rest true = omega arith
    by_test rest false = omega arith

module _ {A : Type 0} (same : A → A → Bool) (tells : Tells same) where
  pub times_cons : (x y : A) (ys : List A) → times same x (y ∷ ys) ≡ one_if (same x y) + times same x ys
  times_cons x y ys = sum_by-cons (λ z. one_if (same x z)) y ys

  -- an item stands in a list of which it is the first
  pub times_first : (x : A) (xs : List A) → times same x (x ∷ xs) ≡ 1 + times same x xs
  times_first x xs = times_cons x x xs ∙ ap (λ (b : Bool). one_if b + times same x xs) (tells.itself x)

  -- the items of a list occur once in another, where each of them stands there once
  all_once : (xs zs : List A) → ((x : A) → 0 < times same x xs → times same x zs ≡ 1)
      → IsTrue (list_all (occurs_once same zs) xs)
  all_once [] zs one = refl
  all_once (x ∷ xs) zs one =
      let here : length (filter (same x) zs) ≡ 1 = filtered (same x) zs ∙ one x (omega (arith, times_first x xs)) in
      rw (eq-eqb (length (filter (same x) zs)) 1 here)
      (all_once xs zs (λ y more. one y (omega (arith, times_cons y x xs))))

  -- and the other way
  once_all : (xs zs : List A) → IsTrue (list_all (occurs_once same zs) xs) → (x : A) → 0 < times same x xs
      → times same x zs ≡ 1
  once_all [] zs all x more = absurd (omega arith)
  once_all (y ∷ ys) zs all x more = by_test (once_all ys zs rest.1 x) (same x y) refl
    where
      rest : IsTrue (occurs_once same zs y) × IsTrue (list_all (occurs_once same zs) ys)
      rest = both (occurs_once same zs y) (list_all (occurs_once same zs) ys) all

      by_test : (0 < times same x ys → times same x zs ≡ 1) → (b : Bool) → same x y ≡ b → times same x zs ≡ 1
      by_test behind true is = rw (tells.exact x y is) (sym (filtered (same y) zs)
          ∙ eqb-true (length (filter (same y) zs)) 1 rest.0)
      by_test behind false is = behind (let none : one_if (same x y) ≡ 0 =
          rw is refl in omega (arith, times_cons x y ys))

  -- two lists have the same items, each once
  pub record SameCounts (xs ys : List A) : Type 0 where
    pub equal : (x : A) → times same x xs ≡ times same x ys
    pub once : (x : A) → times same x xs ≤ 1

  pub same_from : (xs ys : List A) → SameCounts xs ys → IsTrue (same_once same xs ys)
  same_from xs ys h =
      rw (all_once xs ys (λ x more. let equal = h.equal x in let once = h.once x in omega arith))
      (all_once ys xs (λ x more. let equal = h.equal x in let once = h.once x in omega arith))

  pub counts_from : (xs ys : List A) → IsTrue (same_once same xs ys) → SameCounts xs ys
  counts_from xs ys h = record {
    equal = λ x. (by_counts x (times same x xs) (times same x ys) refl refl).0;
    once = λ x. (by_counts x (times same x xs) (times same x ys) refl refl).1;
  }
    where
      tests : IsTrue (list_all (occurs_once same ys) xs) × IsTrue (list_all (occurs_once same xs) ys)
      tests = both (list_all (occurs_once same ys) xs) (list_all (occurs_once same xs) ys) h

      by_counts : (x : A) (m n : ℕ) → times same x xs ≡ m → times same x ys ≡ n
          → (times same x xs ≡ times same x ys) × (times same x xs ≤ 1)
      by_counts x zero zero a b = (a ∙ sym b, omega arith)
      by_counts x zero (suc n) a b = let one = once_all ys xs tests.1 x (omega arith) in absurd (omega arith)
      by_counts x (suc m) n a b =
          let there = once_all xs ys tests.0 x (omega arith) in
          let here = once_all ys xs tests.1 x (omega arith) in
          (here ∙ sym there, omega arith)

  -- a list without the first item that is x
  without_one : A → List A → List A
  without_one x [] = []
  without_one x (y ∷ ys) = cond (same x y) ys (y ∷ without_one x ys)

  abbrev IsOneLess : A → List A → List A → Type 0
  IsOneLess x ys zs = (length ys ≡ suc (length zs)) × ((z : A) → times same z ys ≡ one_if (same z x) + times same z zs)

  one_less : (x : A) (ys : List A) → 0 < times same x ys → IsOneLess x ys (without_one x ys)
  unfolding without_one
  one_less x [] more = absurd (omega arith)
  one_less x (y ∷ ys) more = by_test (one_less x ys) (same x y) refl
    where
      by_test : (0 < times same x ys → IsOneLess x ys (without_one x ys)) → (b : Bool) → same x y ≡ b
          → IsOneLess x (y ∷ ys) (cond b ys (y ∷ without_one x ys))
      by_test rest true is = (
        refl,
        λ z. times_cons z y ys
            ∙ ap (λ (w : A). one_if (same z w) + times same z ys) (sym (tells.exact x y is)),
      )
      by_test rest false is =
          let none : one_if (same x y) ≡ 0 = rw is refl in
          let less = rest (omega (arith, times_cons x y ys)) in (
            ap suc less.0,
            λ z. let here = less.1 z in omega
                (arith, times_cons z y ys, times_cons z y (without_one x ys)),
          )

  -- such lists are as long
  pub same_length : (xs ys : List A) → ((x : A) → times same x xs ≡ times same x ys) → length xs ≡ length ys
  same_length [] [] equal = refl
  same_length [] (y ∷ ys) equal = let none = equal y in absurd (omega (arith, times_first y ys))
  same_length (x ∷ xs) ys equal =
      let here = equal x in
      let less = one_less x ys (omega (arith, times_first x xs)) in
      ap suc (same_length xs (without_one x ys) (λ z. let all = equal z in let left =
      less.1 z in omega (arith, times_cons z x xs))) ∙ sym less.0

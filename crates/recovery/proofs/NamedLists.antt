-- Items that stand by rising name, when one is put among them or goes.
use Rattle.std.proofs.Common.{◌≡◌, ◌⊎◌, ℕ, Bool, true, false, List, [], ◌∷◌, cond, map, not, Some, None, inl, inr, refl, sym, ap, subst, ◌∙◌, Ordering, Less, Equal, Greater}
use Rattle.std.specs.List.{AllByRecursion, filter, find}
use Rattle.std.specs.List.Sorted.{IsStrictlySortedBy}
use Rattle.std.specs.Ordering.{is_eq, match_ordering, ordering_reverse}
use Rattle.std.proofs.lemmas.List.Kept.{IsStrictlySortedBy-filter}
use Rattle.ids.specs.Names.{Grant}
use Rattle.ids.specs.Named.{Name, name_cmp, item_in, put_in, without_in}
use Rattle.ids.specs.Naming.{name_of_grant}
use Rattle.ids.specs.Ordered.{AreInOrder}
use Rattle.ids.proofs.NameOrder.{exact_names, names_total}
use Rattle.sub_rules.proofs.Sums.{all_weaker}
use Rattle.subcomputation.proofs.Others.{equal_to_itself, without_itself, without_other}

-- a grant of two numbers
abbrev named : ℕ → ℕ → Grant
named a b = record { minter = a; number = b }

-- a grant is known by its name
pub same_name : (g h : Grant) → name_of_grant g ≡ name_of_grant h → g ≡ h
same_name g h is = same_fields g.minter g.number h.minter h.number (ap (λ k. k.0) is) (ap (λ k. k.1) is)
  where
    same_fields : (a b c d : ℕ) → a ≡ c → b ≡ d → named a b ≡ named c d
    same_fields a b c d first second = cc

-- two names are the same, or they differ
pub told_apart : (n m : Name) → (n ≡ m) ⊎ (n ≡ m → ⊥)
told_apart n m = by_order (name_cmp n m) refl
  where
    other : (r : Ordering) → name_cmp n m ≡ r → (r ≡ Equal → ⊥) → n ≡ m → ⊥
    other r is differs same = differs (sym is ∙ ap (name_cmp n) (sym same) ∙ equal_to_itself n)

    by_order : (r : Ordering) → name_cmp n m ≡ r → (n ≡ m) ⊎ (n ≡ m → ⊥)
    by_order Less is = inr (other Less is (λ same. cc))
    by_order Equal is = inl (exact_names n m is)
    by_order Greater is = inr (other Greater is (λ same. cc))

module _ {X : Type 0} (name : X → Name) where
  -- what holds of all names, and of a new one, holds with it
  all_named : (P : Name → Type 0) (x : X) (xs : List X) → P (name x) → AllByRecursion P (map name xs)
      → AllByRecursion P (map name (put_in name x xs))
  all_named P x [] here h = (here, tt)
  all_named P x (y ∷ ys) here h = by_order (all_named P x ys here h.1) (name_cmp (name x) (name y))
    where
      by_order : AllByRecursion P (map name (put_in name x ys)) → (r : Ordering)
          → AllByRecursion P (map name (match_ordering r (x ∷ y ∷ ys) (x ∷ ys) (y ∷ put_in name x ys)))
      by_order rest Less = (here, h)
      by_order rest Equal = (here, h.1)
      by_order rest Greater = (h.0, rest)

  -- items stay in order where one is put
  pub put_order : (x : X) (xs : List X) → AreInOrder name xs → AreInOrder name (put_in name x xs)
  unfolding IsStrictlySortedBy
  put_order x [] order = (tt, tt)
  put_order x (y ∷ ys) order = by_order (put_order x ys order.1) (name_cmp (name x) (name y)) refl
    where
      by_order : AreInOrder name (put_in name x ys) → (r : Ordering) → name_cmp (name x) (name y) ≡ r
          → AreInOrder name (match_ordering r (x ∷ y ∷ ys) (x ∷ ys) (y ∷ put_in name x ys))
      by_order rest Less is = (
        (
          is,
          all_weaker (λ k. name_cmp (name y) k ≡ Less) (λ k. name_cmp (name x) k ≡ Less)
              (λ k above. names_total.trans (name x) (name y) k is above) (map name ys) order.0,
        ),
        order,
      )
      by_order rest Equal is = (
        all_weaker (λ k. name_cmp (name y) k ≡ Less) (λ k. name_cmp (name x) k ≡ Less)
            (λ k above. names_total.congr (name x) (name y) k is ∙ above) (map name ys) order.0,
        order.1,
      )
      by_order rest Greater is = (
        all_named (λ k. name_cmp (name y) k ≡ Less) x ys
            (names_total.antisymm (name y) (name x) ∙ ap ordering_reverse is) order.0,
        rest,
      )

  -- and where one goes
  pub without_order : (n : Name) (xs : List X) → AreInOrder name xs → AreInOrder name (without_in name n xs)
  without_order n xs order = subst (IsStrictlySortedBy name_cmp) (sym (names_left xs))
      (IsStrictlySortedBy-filter name_cmp others (map name xs) order)
    where
      others : Name → Bool
      others m = not (is_eq (name_cmp n m))

      names_left : (ys : List X) → map name (without_in name n ys) ≡ filter others (map name ys)
      names_left [] = refl
      names_left (y ∷ ys) = by_test (names_left ys) (others (name y))
        where
          by_test : map name (without_in name n ys) ≡ filter others (map name ys) → (b : Bool)
              → map name (cond b (y ∷ without_in name n ys) (without_in name n ys))
              ≡ cond b (name y ∷ filter others (map name ys)) (filter others (map name ys))
          by_test rest true = ap (λ names. name y ∷ names) rest
          by_test rest false = rest

  -- an item that is left was there
  pub left_was : (n m : Name) (x : X) (xs : List X) → item_in name n (without_in name m xs) ≡ Some x
      → item_in name n xs ≡ Some x
  left_was n m x xs there = elim (told_apart n m) [
    | inl same ↦ let gone : item_in name n (without_in name m xs) ≡ None =
        ap (λ k. item_in name k (without_in name m xs)) same ∙ without_itself name m xs in absurd cc
    | inr other ↦ sym (without_other name n m xs other) ∙ there
  ]

  -- of two items of one name that are put the last stays
  pub put_again : (x y : X) (xs : List X) → name_cmp (name x) (name y) ≡ Equal
      → put_in name x (put_in name y xs) ≡ put_in name x xs
  put_again x y [] same = ap (λ r. match_ordering r (x ∷ y ∷ []) (x ∷ []) (y ∷ x ∷ [])) same
  put_again x y (z ∷ zs) same = by_order (put_again x y zs same) (name_cmp (name y) (name z)) refl
    where
      over : (ys : List X) → put_in name x (y ∷ ys) ≡ x ∷ ys
      over ys = ap (λ r. match_ordering r (x ∷ y ∷ ys) (x ∷ ys) (y ∷ put_in name x ys)) same

      at : (r : Ordering) → name_cmp (name y) (name z) ≡ r
          → put_in name x (z ∷ zs) ≡ match_ordering r (x ∷ z ∷ zs) (x ∷ zs) (z ∷ put_in name x zs)
      at r is = ap (λ q. match_ordering q (x ∷ z ∷ zs) (x ∷ zs) (z ∷ put_in name x zs))
          (names_total.congr (name x) (name y) (name z) same ∙ is)

      by_order : put_in name x (put_in name y zs) ≡ put_in name x zs → (r : Ordering) → name_cmp (name y) (name z) ≡ r
          → put_in name x (match_ordering r (y ∷ z ∷ zs) (y ∷ zs) (z ∷ put_in name y zs)) ≡ put_in name x (z ∷ zs)
      by_order rest Less is = over (z ∷ zs) ∙ sym (at Less is)
      by_order rest Equal is = over zs ∙ sym (at Equal is)
      by_order rest Greater is =
          ap (λ q. match_ordering q (x ∷ z ∷ put_in name y zs) (x ∷ put_in name y zs)
          (z ∷ put_in name x (put_in name y zs))) (names_total.congr (name x) (name y) (name z) same ∙ is)
          ∙ ap (λ ys. z ∷ ys) rest
          ∙ sym (at Greater is)

  -- a test that no other item passes finds the one that is put, or none
  pub find_put : (test : X → Bool) (x : X) (xs : List X) → find test xs ≡ None
      → find test (put_in name x xs) ≡ cond (test x) (Some x) None
  find_put test x [] none = refl
  find_put test x (y ∷ ys) none = by_test (find_put test x ys) (test y) refl none
    where
      by_order : find test ys ≡ None → test y ≡ false → find test (put_in name x ys) ≡ cond (test x) (Some x) None
          → (r : Ordering) → find test (match_ordering r (x ∷ y ∷ ys) (x ∷ ys) (y ∷ put_in name x ys))
          ≡ cond (test x) (Some x) None
      by_order none fails rest Less = ap (λ b. cond (test x) (Some x) (cond b (Some y) (find test ys))) fails
          ∙ ap (cond (test x) (Some x)) none
      by_order none fails rest Equal = ap (cond (test x) (Some x)) none
      by_order none fails rest Greater = ap (λ b. cond b (Some y) (find test (put_in name x ys))) fails ∙ rest

      by_test : (find test ys ≡ None → find test (put_in name x ys) ≡ cond (test x) (Some x) None) → (b : Bool)
          → test y ≡ b → cond b (Some y) (find test ys) ≡ None
          → find test (put_in name x (y ∷ ys)) ≡ cond (test x) (Some x) None
      by_test rest true is at = absurd cc
      by_test rest false is at = by_order at is (rest at) (name_cmp (name x) (name y))

-- Tables whose items are made from those of a list, under the same names.
use Rattle.std.proofs.Common.{◌≡◌, ◌⊎◌, inl, inr, Bool, true, false, List, [], ◌∷◌, ◌++◌, cond, map, Option, Some, None, refl, sym, ap, ◌∙◌, Ordering, Less, Equal, Greater}
use Rattle.std.specs.Option.{option_map}
use Rattle.std.specs.Ordering.{is_eq, match_ordering, ordering_reverse}
use Rattle.ids.specs.Named.{Name, name_cmp, item_in, put_in}
use Rattle.ids.specs.Ordered.{AreInOrder}
use Rattle.ids.proofs.NameOrder.{exact_names, names_total}
use Rattle.ids.proofs.Replacing.{put_is_found}
use Rattle.ids.proofs.RisingLaws.{put_next}

-- the test of two names that differ
pub apart : (n m : Name) → (n ≡ m → ⊥) → is_eq (name_cmp n m) ≡ false
apart n m other = by_order (name_cmp n m) refl
  where
    by_order : (r : Ordering) → name_cmp n m ≡ r → is_eq r ≡ false
    by_order Less is = refl
    by_order Equal is = absurd (other (exact_names n m is))
    by_order Greater is = refl

-- a name is equal to itself
pub equal_to_itself : (n : Name) → name_cmp n n ≡ Equal
equal_to_itself n = by_order (name_cmp n n) (names_total.antisymm n n)
  where
    by_order : (r : Ordering) → r ≡ ordering_reverse r → r ≡ Equal
    by_order Less h = cc
    by_order Equal h = refl
    by_order Greater h = cc

-- two names are one or differ
same_or_not : (n m : Name) → (n ≡ m) ⊎ (n ≡ m → ⊥)
same_or_not n m = by_order (name_cmp n m) refl
  where
    differ : (r : Ordering) → name_cmp n m ≡ r → (r ≡ Equal → ⊥) → n ≡ m → ⊥
    differ r is apart same = let equal : name_cmp n m ≡ Equal = rw same (equal_to_itself m) in apart (sym is ∙ equal)

    by_order : (r : Ordering) → name_cmp n m ≡ r → (n ≡ m) ⊎ (n ≡ m → ⊥)
    by_order Less is = inr (differ Less is (λ e. cc))
    by_order Equal is = inl (exact_names n m is)
    by_order Greater is = inr (differ Greater is (λ e. cc))

-- an item that is put leaves those of other names as they are
put_other : {Y : Type 0} (name : Y → Name) (n : Name) (y : Y) (ys : List Y) → (n ≡ name y → ⊥)
    → item_in name n (put_in name y ys) ≡ item_in name n ys
put_other name n y [] other = ap (λ b. cond b (Some y) None) (apart n (name y) other)
put_other name n y (z ∷ zs) other = by_order (put_other name n y zs other) (name_cmp (name y) (name z)) refl
  where
    by_order : item_in name n (put_in name y zs) ≡ item_in name n zs → (r : Ordering) → name_cmp (name y) (name z) ≡ r
        → item_in name n (match_ordering r (y ∷ z ∷ zs) (y ∷ zs) (z ∷ put_in name y zs)) ≡ item_in name n (z ∷ zs)
    by_order rest Less is = ap (λ b. cond b (Some y) (item_in name n (z ∷ zs))) (apart n (name y) other)
    by_order rest Equal is =
        let same : name y ≡ name z = exact_names (name y) (name z) is in
        ap (λ b. cond b (Some y) (item_in name n zs)) (apart n (name y) other)
        ∙ sym (ap (λ b. cond b (Some z) (item_in name n zs)) (apart n (name z) (λ at. other (at ∙ sym same))))
    by_order rest Greater is = ap (λ o. cond (is_eq (name_cmp n (name z))) (Some z) o) rest

module _ {X Y : Type 0} (a : X → Name) (b : Y → Name) (f : X → Y) (keeps : (x : X) → b (f x) ≡ a x) where
  -- what is found in the list of the items made is made from what is found
  pub item_of_map : (n : Name) (xs : List X) → item_in b n (map f xs) ≡ option_map f (item_in a n xs)
  item_of_map n [] = refl
  item_of_map n (x ∷ xs) = ap (λ m. cond (is_eq (name_cmp n m)) (Some (f x)) (item_in b n (map f xs))) (keeps x)
      ∙ by_test (item_of_map n xs) (is_eq (name_cmp n (a x)))
    where
      by_test : item_in b n (map f xs) ≡ option_map f (item_in a n xs) → (t : Bool)
          → cond t (Some (f x)) (item_in b n (map f xs)) ≡ option_map f (cond t (Some x) (item_in a n xs))
      by_test rest true = refl
      by_test rest false = rest

  -- they stand under the same names
  pub names_of_map : (xs : List X) → map b (map f xs) ≡ map a xs
  names_of_map [] = refl
  names_of_map (x ∷ xs) = ap (λ n. n ∷ map b (map f xs)) (keeps x) ∙ ap (λ ns. a x ∷ ns) (names_of_map xs)

  -- the items made of a list in order are put one behind another
  pub put_next_made : (ys : List Y) (x : X) (rest all : List X) → ys ++ map f (x ∷ rest) ≡ map f all → AreInOrder a all
      → put_in b (f x) ys ++ map f rest ≡ map f all
  put_next_made ys x rest all same order =
      put_next b name_cmp names_total ys (f x) (map f rest) (map f all) same (rw (names_of_map all) order)

  -- a table of what is made from the first item of each name
  abbrev pub IsMadeFrom : List X → List Y → Type 0
  IsMadeFrom xs ys = (n : Name) → item_in b n ys ≡ option_map f (item_in a n xs)

  -- what is found in a list is found with another item behind it
  behind_found : (n : Name) (x z : X) (xs : List X) → item_in a n xs ≡ Some z → item_in a n (xs ++ x ∷ []) ≡ Some z
  behind_found n x z [] there = cc
  behind_found n x z (y ∷ ys) there = by_test (behind_found n x z ys) (is_eq (name_cmp n (a y))) there
    where
      by_test : (item_in a n ys ≡ Some z → item_in a n (ys ++ x ∷ []) ≡ Some z) → (t : Bool)
          → cond t (Some y) (item_in a n ys) ≡ Some z → cond t (Some y) (item_in a n (ys ++ x ∷ [])) ≡ Some z
      by_test rest true there = there
      by_test rest false there = rest there

  -- where nothing is found, what is behind is looked at
  behind_new : (n : Name) (x : X) (xs : List X) → item_in a n xs ≡ None
      → item_in a n (xs ++ x ∷ []) ≡ item_in a n (x ∷ [])
  behind_new n x [] none = refl
  behind_new n x (y ∷ ys) none = by_test (behind_new n x ys) (is_eq (name_cmp n (a y))) none
    where
      by_test : (item_in a n ys ≡ None → item_in a n (ys ++ x ∷ []) ≡ item_in a n (x ∷ [])) → (t : Bool)
          → cond t (Some y) (item_in a n ys) ≡ None
          → cond t (Some y) (item_in a n (ys ++ x ∷ [])) ≡ item_in a n (x ∷ [])
      by_test rest true none = cc
      by_test rest false none = rest none

  -- an item of another name behind a list changes nothing
  behind_other : (n : Name) (x : X) (xs : List X) → (n ≡ a x → ⊥) → item_in a n (xs ++ x ∷ []) ≡ item_in a n xs
  behind_other n x [] other = ap (λ t. cond t (Some x) None) (apart n (a x) other)
  behind_other n x (y ∷ ys) other = ap (λ o. cond (is_eq (name_cmp n (a y))) (Some y) o) (behind_other n x ys other)

  -- a table that has an item of the next one's name stays
  pub passed : (xs : List X) (x : X) (ys : List Y) (y : Y) → IsMadeFrom xs ys → item_in b (a x) ys ≡ Some y
      → IsMadeFrom (xs ++ x ∷ []) ys
  passed xs x ys y made there n = elim (same_or_not n (a x)) [
    | inl same ↦ by_found (item_in a n xs) refl (rw same there)
    | inr other ↦ made n ∙ ap (option_map f) (sym (behind_other n x xs other))
  ]
    where
      by_found : (o : Option X) → item_in a n xs ≡ o → item_in b n ys ≡ Some y
          → item_in b n ys ≡ option_map f (item_in a n (xs ++ x ∷ []))
      by_found None is found = let none : item_in b n ys ≡ None = made n ∙ ap (option_map f) is in cc
      by_found (Some z) is found = made n ∙ ap (option_map f) (is ∙ sym (behind_found n x z xs is))

  -- one that has none takes what is made from the next one
  pub added : (xs : List X) (x : X) (ys : List Y) → IsMadeFrom xs ys → item_in b (a x) ys ≡ None
      → IsMadeFrom (xs ++ x ∷ []) (put_in b (f x) ys)
  added xs x ys made absent n = elim (same_or_not n (a x)) [
    | inl same ↦ by_found (item_in a n xs) refl same
    | inr other ↦ put_other b n (f x) ys (λ is. other (is ∙ keeps x)) ∙ made n
        ∙ ap (option_map f) (sym (behind_other n x xs other))
  ]
    where
      alone : item_in a (a x) (x ∷ []) ≡ Some x
      alone = put_is_found a x []

      by_found : (o : Option X) → item_in a n xs ≡ o → n ≡ a x
          → item_in b n (put_in b (f x) ys) ≡ option_map f (item_in a n (xs ++ x ∷ []))
      by_found None is same =
          let found : item_in b n (put_in b (f x) ys) ≡ Some (f x) =
          rw (same ∙ sym (keeps x)) (put_is_found b (f x) ys) in
          let last : item_in a n (x ∷ []) ≡ Some x = rw same alone in
          found ∙ ap (option_map f) (sym (behind_new n x xs is ∙ last))
      by_found (Some z) is same =
          let there : item_in b n ys ≡ Some (f z) = made n ∙ ap (option_map f) is in
          let none : item_in b n ys ≡ None = rw same absent in
          cc

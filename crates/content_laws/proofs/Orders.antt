-- Lists in the order of names stay so.
use Rattle.std.proofs.Common.{◌≡◌, Bool, true, false, cond, not, List, [], ◌∷◌, map, refl, ap, ◌∙◌, Ordering, Less, Equal, Greater}
use Rattle.std.specs.List.{AllByRecursion, filter}
use Rattle.std.specs.List.Sorted.{IsStrictlySortedBy}
use Rattle.std.specs.Ordering.{is_eq, match_ordering, ordering_reverse}
use Rattle.std.proofs.lemmas.List.Kept.{IsStrictlySortedBy-filter}
use Rattle.std.proofs.lemmas.Map.Keys.{sorted_head, sorted_tail}
use Rattle.ids.specs.Named.{Name, name_cmp, put_in, without_in}
use Rattle.ids.specs.Ordered.{AreInOrder}
use Rattle.ids.proofs.NameOrder.{names_total}
use Rattle.sub_rules.proofs.Sums.{all_put}
use Rattle.content_laws.proofs.Records.{of_names}

module _ {X : Type 0} (name : X → Name) where
  -- no items
  pub none_order : AreInOrder name []
  unfolding IsStrictlySortedBy
  none_order = tt

  -- an item before those whose names are above its own
  pub first_order : (x : X) (xs : List X) → AllByRecursion (λ y. name_cmp (name x) (name y) ≡ Less) xs
      → AreInOrder name xs → AreInOrder name (x ∷ xs)
  unfolding IsStrictlySortedBy
  first_order x xs above order = (to_names xs above, order)
    where
      to_names : (ys : List X) → AllByRecursion (λ y. name_cmp (name x) (name y) ≡ Less) ys
          → AllByRecursion (λ n. name_cmp (name x) n ≡ Less) (map name ys)
      to_names [] h = tt
      to_names (y ∷ ys) h = (h.0, to_names ys h.1)

  -- the names behind the first
  above_first : (y : X) (ys : List X) → AreInOrder name (y ∷ ys)
      → AllByRecursion (λ z. name_cmp (name y) (name z) ≡ Less) ys
  above_first y ys order = of_names name (λ n. name_cmp (name y) n ≡ Less) ys
      (sorted_head name_cmp (name y) (map name ys) order)

  -- what is above one is above what is below it
  all_through : (x y : X) (ys : List X)
      → ((z : X) → name_cmp (name y) (name z) ≡ Less → name_cmp (name x) (name z) ≡ Less)
      → AllByRecursion (λ z. name_cmp (name y) (name z) ≡ Less) ys
      → AllByRecursion (λ z. name_cmp (name x) (name z) ≡ Less) ys
  all_through x y [] through h = tt
  all_through x y (z ∷ zs) through h = (through z h.0, all_through x y zs through h.1)

  -- an item is put in its place
  pub put_order : (x : X) (xs : List X) → AreInOrder name xs → AreInOrder name (put_in name x xs)
  put_order x [] order = first_order x [] tt order
  put_order x (y ∷ ys) order = by_order (put_order x ys rest) (name_cmp (name x) (name y)) refl
    where
      rest : AreInOrder name ys
      rest = sorted_tail name_cmp (name y) (map name ys) order

      above : AllByRecursion (λ z. name_cmp (name y) (name z) ≡ Less) ys
      above = above_first y ys order

      by_order : AreInOrder name (put_in name x ys) → (r : Ordering) → name_cmp (name x) (name y) ≡ r
          → AreInOrder name (match_ordering r (x ∷ y ∷ ys) (x ∷ ys) (y ∷ put_in name x ys))
      by_order put Less is = first_order x (y ∷ ys)
          (is, all_through x y ys (λ z less. names_total.trans (name x) (name y) (name z) is less) above) order
      by_order put Equal is = first_order x ys
          (all_through x y ys (λ z less. names_total.congr (name x) (name y) (name z) is ∙ less) above) rest
      by_order put Greater is =
          let below : name_cmp (name y) (name x) ≡ Less =
          names_total.antisymm (name y) (name x) ∙ ap ordering_reverse is in
          first_order y (put_in name x ys) (all_put name (λ z. name_cmp (name y) (name z) ≡ Less) x ys below above) put

  -- an item leaves
  pub without_order : (n : Name) (xs : List X) → AreInOrder name xs → AreInOrder name (without_in name n xs)
  without_order n xs order = rw (names_left xs) (IsStrictlySortedBy-filter name_cmp others (map name xs) order)
    where
      others : Name → Bool
      others m = not (is_eq (name_cmp n m))

      names_left : (ys : List X) → map name (without_in name n ys) ≡ filter others (map name ys)
      names_left [] = refl
      names_left (y ∷ ys) = by_test (names_left ys) (others (name y))
        where
          by_test : map name (without_in name n ys) ≡ filter others (map name ys) → (b : Bool)
              → map name (cond b (y ∷ without_in name n ys) (without_in name n ys))
              ≡ cond b (name y ∷ filter others (map name ys)) (filter others (map name ys))
          by_test more true = ap (λ names. name y ∷ names) more
          by_test more false = more

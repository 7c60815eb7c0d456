-- What holds of each item that is found by its name holds of all.
use Rattle.std.proofs.Common.{◌≡◌, List, [], ◌∷◌, cond, map, Some, refl, sym, ap, ◌∙◌, Ordering, Less, Equal, Greater}
use Rattle.std.proofs.lemmas.Map.Keys.{sorted_head, sorted_tail}
use Rattle.std.specs.List.{AllByRecursion}
use Rattle.std.specs.Ordering.{is_eq}
use Rattle.ids.specs.Named.{Name, name_cmp, item_in}
use Rattle.ids.specs.Ordered.{AreInOrder}
use Rattle.ids.proofs.NameOrder.{exact_names}
use Rattle.subcomputation.proofs.Others.{equal_to_itself}

module _ {X : Type 0} (name : X → Name) where
  later : (m n : Name) (x : X) (xs : List X) → AllByRecursion (λ k. name_cmp m k ≡ Less) (map name xs)
      → item_in name n xs ≡ Some x → name_cmp m n ≡ Less
  later m n x [] above there = cc
  later m n x (y ∷ ys) above there = by_order (later m n x ys above.1) (name_cmp n (name y)) refl there
    where
      by_order : (item_in name n ys ≡ Some x → name_cmp m n ≡ Less) → (r : Ordering) → name_cmp n (name y) ≡ r
          → cond (is_eq r) (Some y) (item_in name n ys) ≡ Some x → name_cmp m n ≡ Less
      by_order rest Less is at = rest at
      by_order rest Equal is at = ap (name_cmp m) (exact_names n (name y) is) ∙ above.0
      by_order rest Greater is at = rest at

  first : (y : X) (ys : List X) → item_in name (name y) (y ∷ ys) ≡ Some y
  first y ys = ap (λ r. cond (is_eq r) (Some y) (item_in name (name y) ys)) (equal_to_itself (name y))

  behind : (y : X) (n : Name) (x : X) (ys : List X) → AreInOrder name (y ∷ ys) → item_in name n ys ≡ Some x
      → item_in name n (y ∷ ys) ≡ Some x
  behind y n x ys order there = by_order (name_cmp n (name y)) refl
    where
      above : name_cmp (name y) n ≡ Less
      above = later (name y) n x ys (sorted_head name_cmp (name y) (map name ys) order) there

      by_order : (r : Ordering) → name_cmp n (name y) ≡ r → item_in name n (y ∷ ys) ≡ Some x
      by_order Less is = ap (λ o. cond (is_eq o) (Some y) (item_in name n ys)) is ∙ there
      by_order Equal is =
          let same = exact_names n (name y) is in
          let itself : name_cmp (name y) (name y) ≡ Less = ap (name_cmp (name y)) (sym same) ∙ above in
          let equal = equal_to_itself (name y) in
          cc
      by_order Greater is = ap (λ o. cond (is_eq o) (Some y) (item_in name n ys)) is ∙ there

  pub all_by_name : (P : X → Type 0) (xs : List X) → AreInOrder name xs
      → ((x : X) → item_in name (name x) xs ≡ Some x → P x) → AllByRecursion P xs
  all_by_name P [] order h = tt
  all_by_name P (y ∷ ys) order h = (
    h y (first y ys),
    all_by_name P ys (sorted_tail name_cmp (name y) (map name ys) order)
        (λ x there. h x (behind y (name x) x ys order there)),
  )

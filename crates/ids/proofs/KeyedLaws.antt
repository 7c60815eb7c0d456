-- What is found in a list of items that have their keys in them.
use Rattle.std.proofs.Common.{◌≡◌, List, [], ◌∷◌, cond, Some, None, refl, sym, ap, ◌∙◌, Ordering, Less, Equal, Greater}
use Rattle.std.specs.Ordering.{is_eq, match_ordering, ordering_reverse}
use Rattle.std.specs.Cmp.{IsTotalOrder}
use Rattle.ids.specs.Keyed.{item_at, put}

module _ {K X : Type 0} (key : X → K) (R : K → K → Ordering) where
  -- what is found has the key
  pub found_in : (k : K) (x : X) (xs : List X) → item_at key R k xs ≡ Some x → R k (key x) ≡ Equal
  found_in k x [] there = cc
  found_in k x (y ∷ ys) there = by_order (found_in k x ys) (R k (key y)) refl there
    where
      by_order : (item_at key R k ys ≡ Some x → R k (key x) ≡ Equal) → (r : Ordering) → R k (key y) ≡ r
          → cond (is_eq r) (Some y) (item_at key R k ys) ≡ Some x → R k (key x) ≡ Equal
      by_order rest Less is at_x = rest at_x
      by_order rest Equal is at_x = let same : y ≡ x = cc in ap (λ z. R k (key z)) (sym same) ∙ is
      by_order rest Greater is at_x = rest at_x

  equal_to_itself : IsTotalOrder R → (k : K) → R k k ≡ Equal
  equal_to_itself o k = by_order (R k k) (o.antisymm k k)
    where
      by_order : (r : Ordering) → r ≡ ordering_reverse r → r ≡ Equal
      by_order Less h = cc
      by_order Equal h = refl
      by_order Greater h = cc

  -- an item that was put is found
  pub put_found : (o : IsTotalOrder R) (x : X) (xs : List X) → item_at key R (key x) (put key R x xs) ≡ Some x
  put_found o x [] = ap (λ r. cond (is_eq r) (Some x) None) (equal_to_itself o (key x))
  put_found o x (y ∷ ys) = by_order (put_found o x ys) (R (key x) (key y)) refl
    where
      by_order : item_at key R (key x) (put key R x ys) ≡ Some x → (r : Ordering) → R (key x) (key y) ≡ r
          → item_at key R (key x) (match_ordering r (x ∷ y ∷ ys) (x ∷ ys) (y ∷ put key R x ys)) ≡ Some x
      by_order rest Less is = ap (λ s. cond (is_eq s) (Some x) (item_at key R (key x) (y ∷ ys)))
          (equal_to_itself o (key x))
      by_order rest Equal is = ap (λ s. cond (is_eq s) (Some x) (item_at key R (key x) ys)) (equal_to_itself o (key x))
      by_order rest Greater is = ap (λ s. cond (is_eq s) (Some y) (item_at key R (key x) (put key R x ys))) is ∙ rest

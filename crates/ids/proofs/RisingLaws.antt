-- Items by rising keys, each once.
use Rattle.std.proofs.Common.{◌≡◌, List, [], ◌∷◌, ◌++◌, map, refl, ap, ◌∙◌, Ordering, Less, Greater, append_assoc}
use Rattle.std.specs.List.{AllByRecursion}
use Rattle.std.specs.List.Sorted.{IsStrictlySortedBy}
use Rattle.std.specs.Ordering.{ordering_reverse, match_ordering}
use Rattle.std.specs.Cmp.{IsTotalOrder}
use Rattle.std.proofs.lemmas.Map.Keys.{sorted_head, sorted_tail}
use Rattle.ids.specs.Keyed.{put}

module _ {K X : Type 0} (key : X → K) (R : K → K → Ordering) (o : IsTotalOrder R) where
  -- what holds of the keys of a list holds of that of an item in it
  holds_of : (P : K → Type 0) (xs : List X) (x : X) (rest : List X) → AllByRecursion P (map key (xs ++ x ∷ rest))
      → P (key x)
  holds_of P [] x rest h = h.0
  holds_of P (y ∷ ys) x rest h = holds_of P ys x rest h.1

  -- an item of a greater key goes to the end
  pub put_last : (xs : List X) (x : X) (rest : List X) → IsStrictlySortedBy R (map key (xs ++ x ∷ rest))
      → put key R x xs ≡ xs ++ x ∷ []
  put_last [] x rest h = refl
  put_last (y ∷ ys) x rest h =
      let less : R (key y) (key x) ≡ Less =
      holds_of (λ k. R (key y) k ≡ Less) ys x rest (sorted_head R (key y) (map key (ys ++ x ∷ rest)) h) in
      let greater : R (key x) (key y) ≡ Greater = o.antisymm (key x) (key y) ∙ ap ordering_reverse less in
      ap (λ r. match_ordering r (x ∷ y ∷ ys) (x ∷ ys) (y ∷ put key R x ys)) greater
      ∙ ap (λ zs. y ∷ zs) (put_last ys x rest (sorted_tail R (key y) (map key (ys ++ x ∷ rest)) h))

  -- a list of which an item's turn has come goes on
  pub put_next : (xs : List X) (x : X) (rest all : List X) → xs ++ x ∷ rest ≡ all → IsStrictlySortedBy R (map key all)
      → put key R x xs ++ rest ≡ all
  put_next xs x rest all same h = ap (λ ys. ys ++ rest) (put_last xs x rest (rw same h)) ∙ append_assoc xs (x ∷ []) rest
      ∙ same

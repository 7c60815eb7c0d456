-- Items of other names stay as they are when an item is put or taken away.
use Rattle.std.proofs.Common.{◌≡◌, Bool, true, false, List, [], ◌∷◌, cond, map, not, Some, None, refl, sym, ap, ◌∙◌, Ordering, Less, Equal, Greater}
use Rattle.std.specs.Ordering.{is_eq, match_ordering, ordering_reverse}
use Rattle.ids.specs.Named.{Name, name_cmp, item_in, put_in, without_in}
use Rattle.std.specs.List.{AllByRecursion, find}
use Rattle.std.proofs.lemmas.Map.Keys.{sorted_head, sorted_tail}
use Rattle.ids.specs.Ordered.{AreInOrder}
use Rattle.ids.proofs.NameOrder.{exact_names, names_total}

pub apart : (n m : Name) → (n ≡ m → ⊥) → is_eq (name_cmp n m) ≡ false
apart n m other = by_order (name_cmp n m) refl
  where
    by_order : (r : Ordering) → name_cmp n m ≡ r → is_eq r ≡ false
    by_order Less is = refl
    by_order Equal is = absurd (other (exact_names n m is))
    by_order Greater is = refl

pub equal_to_itself : (n : Name) → name_cmp n n ≡ Equal
equal_to_itself n = by_order (name_cmp n n) (names_total.antisymm n n)
  where
    by_order : (r : Ordering) → r ≡ ordering_reverse r → r ≡ Equal
    by_order Less h = cc
    by_order Equal h = refl
    by_order Greater h = cc

before_itself : (n : Name) → name_cmp n n ≡ Less → ⊥
before_itself n less = let equal = equal_to_itself n in cc

module _ {X : Type 0} (name : X → Name) where
  later : (m n : Name) (x : X) (xs : List X) → AllByRecursion (λ k. name_cmp m k ≡ Less) (map name xs)
      → item_in name n xs ≡ Some x → name_cmp m (name x) ≡ Less
  later m n x [] above there = cc
  later m n x (y ∷ ys) above there = by_first (later m n x ys above.1) (is_eq (name_cmp n (name y))) there
    where
      by_first : (item_in name n ys ≡ Some x → name_cmp m (name x) ≡ Less) → (b : Bool)
          → cond b (Some y) (item_in name n ys) ≡ Some x → name_cmp m (name x) ≡ Less
      by_first rest true at = let same : y ≡ x = cc in ap (λ z. name_cmp m (name z)) (sym same) ∙ above.0
      by_first rest false at = rest at

  pub put_other : (n : Name) (x : X) (xs : List X) → (n ≡ name x → ⊥)
      → item_in name n (put_in name x xs) ≡ item_in name n xs
  put_other n x [] other = ap (λ b. cond b (Some x) None) (apart n (name x) other)
  put_other n x (y ∷ ys) other = by_order (put_other n x ys other) (name_cmp (name x) (name y)) refl
    where
      by_order : item_in name n (put_in name x ys) ≡ item_in name n ys → (r : Ordering) → name_cmp (name x) (name y) ≡ r
          → item_in name n (match_ordering r (x ∷ y ∷ ys) (x ∷ ys) (y ∷ put_in name x ys)) ≡ item_in name n (y ∷ ys)
      by_order rest Less is = ap (λ b. cond b (Some x) (item_in name n (y ∷ ys))) (apart n (name x) other)
      by_order rest Equal is =
          let same : name x ≡ name y = exact_names (name x) (name y) is in
          ap (λ b. cond b (Some x) (item_in name n ys)) (apart n (name x) other)
          ∙ sym (ap (λ b. cond b (Some y) (item_in name n ys)) (apart n (name y) (λ at. other (at ∙ sym same))))
      by_order rest Greater is = ap (λ o. cond (is_eq (name_cmp n (name y))) (Some y) o) rest

  pub without_other : (n m : Name) (xs : List X) → (n ≡ m → ⊥)
      → item_in name n (without_in name m xs) ≡ item_in name n xs
  without_other n m [] other = refl
  without_other n m (y ∷ ys) other = by_order (without_other n m ys other) (name_cmp m (name y)) refl
    where
      kept : item_in name n (without_in name m ys) ≡ item_in name n ys
          → item_in name n (y ∷ without_in name m ys) ≡ item_in name n (y ∷ ys)
      kept rest = ap (λ o. cond (is_eq (name_cmp n (name y))) (Some y) o) rest

      by_order : item_in name n (without_in name m ys) ≡ item_in name n ys → (r : Ordering) → name_cmp m (name y) ≡ r
          → item_in name n (cond (not (is_eq r)) (y ∷ without_in name m ys) (without_in name m ys))
          ≡ item_in name n (y ∷ ys)
      by_order rest Less is = kept rest
      by_order rest Equal is =
          let same : m ≡ name y = exact_names m (name y) is in
          rest ∙ sym (ap (λ b. cond b (Some y) (item_in name n ys)) (apart n (name y) (λ at. other (at ∙ sym same))))
      by_order rest Greater is = kept rest

  pub without_itself : (n : Name) (xs : List X) → item_in name n (without_in name n xs) ≡ None
  without_itself n [] = refl
  without_itself n (y ∷ ys) = by_order (without_itself n ys) (name_cmp n (name y)) refl
    where
      by_order : item_in name n (without_in name n ys) ≡ None → (r : Ordering) → name_cmp n (name y) ≡ r
          → item_in name n (cond (not (is_eq r)) (y ∷ without_in name n ys) (without_in name n ys)) ≡ None
      by_order rest Less is = ap (λ r. cond (is_eq r) (Some y) (item_in name n (without_in name n ys))) is ∙ rest
      by_order rest Equal is = rest
      by_order rest Greater is = ap (λ r. cond (is_eq r) (Some y) (item_in name n (without_in name n ys))) is ∙ rest

  -- an item that isn't there isn't there once some are gone
  pub none_left : (n m : Name) (xs : List X) → item_in name n xs ≡ None → item_in name n (without_in name m xs) ≡ None
  none_left n m [] none = refl
  none_left n m (y ∷ ys) none = by_first (none_left n m ys) (is_eq (name_cmp n (name y))) refl none
    where
      by_second : (b : Bool) → is_eq (name_cmp n (name y)) ≡ false → item_in name n (without_in name m ys) ≡ None
          → item_in name n (cond b (y ∷ without_in name m ys) (without_in name m ys)) ≡ None
      by_second true is rest = ap (λ a. cond a (Some y) (item_in name n (without_in name m ys))) is ∙ rest
      by_second false is rest = rest

      by_first : (item_in name n ys ≡ None → item_in name n (without_in name m ys) ≡ None) → (b : Bool)
          → is_eq (name_cmp n (name y)) ≡ b → cond b (Some y) (item_in name n ys) ≡ None
          → item_in name n (without_in name m (y ∷ ys)) ≡ None
      by_first rest true is at = cc
      by_first rest false is at = by_second (not (is_eq (name_cmp m (name y)))) is (rest at)

  -- an item that comes under a new name and goes again leaves the others as they were
  none_goes : (n : Name) (xs : List X) → item_in name n xs ≡ None → without_in name n xs ≡ xs
  none_goes n [] none = refl
  none_goes n (y ∷ ys) none = by_first (none_goes n ys) (is_eq (name_cmp n (name y))) refl none
    where
      by_first : (item_in name n ys ≡ None → without_in name n ys ≡ ys) → (b : Bool) → is_eq (name_cmp n (name y)) ≡ b
          → cond b (Some y) (item_in name n ys) ≡ None
          → cond (not b) (y ∷ without_in name n ys) (without_in name n ys) ≡ y ∷ ys
      by_first rest true is at = cc
      by_first rest false is at = ap (λ zs. y ∷ zs) (rest at)

  pub put_goes : (x : X) (xs : List X) → item_in name (name x) xs ≡ None
      → without_in name (name x) (put_in name x xs) ≡ xs
  put_goes x [] none = ap (λ r. cond (not (is_eq r)) (x ∷ []) []) (equal_to_itself (name x))
  put_goes x (y ∷ ys) none = by_order (put_goes x ys) (name_cmp (name x) (name y)) refl none
    where
      by_order : (item_in name (name x) ys ≡ None → without_in name (name x) (put_in name x ys) ≡ ys) → (r : Ordering)
          → name_cmp (name x) (name y) ≡ r → cond (is_eq r) (Some y) (item_in name (name x) ys) ≡ None
          → without_in name (name x) (match_ordering r (x ∷ y ∷ ys) (x ∷ ys) (y ∷ put_in name x ys)) ≡ y ∷ ys
      by_order rest Less is at =
          ap (λ r. cond (not (is_eq r)) (x ∷ without_in name (name x) (y ∷ ys)) (without_in name (name x) (y ∷ ys)))
          (equal_to_itself (name x))
          ∙ ap (λ r. cond (not (is_eq r)) (y ∷ without_in name (name x) ys) (without_in name (name x) ys)) is
          ∙ ap (λ zs. y ∷ zs) (none_goes (name x) ys at)
      by_order rest Equal is at = cc
      by_order rest Greater is at =
          ap (λ r. cond (not (is_eq r)) (y ∷ without_in name (name x) (put_in name x ys))
          (without_in name (name x) (put_in name x ys))) is
          ∙ ap (λ zs. y ∷ zs) (rest at)

  -- an item that a test finds among items in order is the one of its name
  pub found_by : (test : X → Bool) (x : X) (xs : List X) → AreInOrder name xs → find test xs ≡ Some x
      → item_in name (name x) xs ≡ Some x
  found_by test x [] order there = cc
  found_by test x (y ∷ ys) order there =
      by_test (found_by test x ys (sorted_tail name_cmp (name y) (map name ys) order)) (test y) there
    where
      by_test : (find test ys ≡ Some x → item_in name (name x) ys ≡ Some x) → (b : Bool)
          → cond b (Some y) (find test ys) ≡ Some x → item_in name (name x) (y ∷ ys) ≡ Some x
      by_test rest true at =
          let same : y ≡ x = cc in
          ap (λ z. cond (is_eq (name_cmp (name x) (name z))) (Some z) (item_in name (name x) ys)) same
          ∙ ap (λ r. cond (is_eq r) (Some x) (item_in name (name x) ys)) (equal_to_itself (name x))
      by_test rest false at =
          let found = rest at in
          let above : name_cmp (name y) (name x) ≡ Less =
          later (name y) (name x) x ys (sorted_head name_cmp (name y) (map name ys) order) found in
          ap (λ b. cond b (Some y) (item_in name (name x) ys))
          (apart (name x) (name y) (λ is. before_itself (name y) (ap (name_cmp (name y)) (sym is) ∙ above))) ∙ found

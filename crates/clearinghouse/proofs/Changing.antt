-- Items under names: to change the item of a name is to change it wherever it stands, and to put a
-- new one is to have one more.
use Rattle.std.proofs.Common.{◌≡◌, ℕ, ◌+◌, Bool, true, false, List, [], ◌∷◌, map, cond, Option, Some, None, refl, sym, ap, ◌∙◌, Ordering, Less, Equal, Greater, arith}
use Rattle.std.specs.List.{AllByRecursion}
use Rattle.std.specs.List.Sorted.{IsStrictlySortedBy}
use Rattle.std.specs.Ordering.{is_eq, match_ordering, ordering_reverse}
use Rattle.std.proofs.lemmas.Map.Keys.{sorted_head, sorted_tail}
use Rattle.ids.specs.Keyed.{has_key}
use Rattle.ids.specs.Named.{Name, name_cmp, item_in, put_in, changed_in, changed_of}
use Rattle.ids.specs.Ordered.{AreInOrder}
use Rattle.ids.proofs.KeyedLaws.{found_in}
use Rattle.ids.proofs.NameOrder.{equal_to_itself, exact_names, names_total}

-- names above one that is above another are above that, too
above : (m n : Name) (ks : List Name) → name_cmp m n ≡ Less → AllByRecursion (λ k. name_cmp n k ≡ Less) ks
    → AllByRecursion (λ k. name_cmp m k ≡ Less) ks
above m n [] less h = tt
above m n (k ∷ ks) less h = (names_total.trans m n k less h.0, above m n ks less h.1)

module _ {X : Type 0} (name : X → Name) where
  -- an item is changed if it has the name
  abbrev pub change_at : (X → X) → Name → X → X
  change_at change n x = cond (has_key name name_cmp n x) (change x) x

  none_found : (n : Name) (xs : List X) → AllByRecursion (λ k. name_cmp n k ≡ Less) (map name xs)
      → item_in name n xs ≡ None
  none_found n [] h = refl
  none_found n (y ∷ ys) h = ap (λ r. cond (is_eq r) (Some y) (item_in name n ys)) h.0 ∙ none_found n ys h.1

  -- where nothing has the name, nothing is changed
  missing : (change : X → X) (n : Name) (xs : List X) → item_in name n xs ≡ None → map (change_at change n) xs ≡ xs
  missing change n [] none = refl
  missing change n (y ∷ ys) none = by_test (missing change n ys) (has_key name name_cmp n y) none
    where
      by_test : (item_in name n ys ≡ None → map (change_at change n) ys ≡ ys) → (b : Bool)
          → cond b (Some y) (item_in name n ys) ≡ None → cond b (change y) y ∷ map (change_at change n) ys ≡ y ∷ ys
      by_test rest true at = cc
      by_test rest false at = ap (λ zs. y ∷ zs) (rest at)

  put_there : (change : X → X) → ((x : X) → name (change x) ≡ name x) → (n : Name) (x : X) (xs : List X)
      → AreInOrder name xs → item_in name n xs ≡ Some x → put_in name (change x) xs ≡ map (change_at change n) xs
  put_there change keeps n x [] rising there = cc
  put_there change keeps n x (y ∷ ys) rising there =
      by_order (put_there change keeps n x ys (sorted_tail name_cmp (name y) (map name ys) rising))
      (name_cmp n (name y)) refl there
    where
      by_order : (item_in name n ys ≡ Some x → put_in name (change x) ys ≡ map (change_at change n) ys) → (r : Ordering)
          → name_cmp n (name y) ≡ r → cond (is_eq r) (Some y) (item_in name n ys) ≡ Some x
          → match_ordering (name_cmp (name (change x)) (name y)) (change x ∷ y ∷ ys) (change x ∷ ys)
          (y ∷ put_in name (change x) ys) ≡ cond (is_eq r) (change y) y ∷ map (change_at change n) ys
      by_order rest Less is at =
          let none : item_in name n ys ≡ None =
          none_found n ys (above n (name y) (map name ys) is (sorted_head name_cmp (name y) (map name ys) rising))
          in
          cc
      by_order rest Equal is at =
          let same : y ≡ x = cc in
          let order : name_cmp (name (change x)) (name y) ≡ Equal =
          ap (λ z. name_cmp (name (change z)) (name y)) (sym same) ∙ ap (λ m. name_cmp m (name y)) (keeps y)
          ∙ equal_to_itself (name y) in
          let named : n ≡ name y = exact_names n (name y) is in
          let none : item_in name n ys ≡ None =
          ap (λ m. item_in name m ys) named
          ∙ none_found (name y) ys (sorted_head name_cmp (name y) (map name ys) rising) in
          ap (λ r. match_ordering r (change x ∷ y ∷ ys) (change x ∷ ys) (y ∷ put_in name (change x) ys)) order
          ∙ ap (λ z. change z ∷ ys) (sym same)
          ∙ ap (λ zs. change y ∷ zs) (sym (missing change n ys none))
      by_order rest Greater is at =
          let named : n ≡ name x = exact_names n (name x) (found_in name name_cmp n x ys at) in
          let order : name_cmp (name (change x)) (name y) ≡ Greater =
          ap (λ m. name_cmp m (name y)) (keeps x ∙ sym named) ∙ is in
          ap (λ r. match_ordering r (change x ∷ y ∷ ys) (change x ∷ ys) (y ∷ put_in name (change x) ys)) order
          ∙ ap (λ zs. y ∷ zs) (rest at)

  pub changed_everywhere : (change : X → X) → ((x : X) → name (change x) ≡ name x) → (n : Name) (xs : List X)
      → AreInOrder name xs → changed_in name change n xs ≡ map (change_at change n) xs
  changed_everywhere change keeps n xs rising = by_item (item_in name n xs) refl
    where
      by_item : (o : Option X) → item_in name n xs ≡ o → changed_of name change xs o ≡ map (change_at change n) xs
      by_item None none = sym (missing change n xs none)
      by_item (Some x) there = put_there change keeps n x xs rising there

  -- items that keep their names stand in the same order
  names_kept : (f : X → X) → ((x : X) → name (f x) ≡ name x) → (xs : List X) → map name (map f xs) ≡ map name xs
  names_kept f keeps [] = refl
  names_kept f keeps (x ∷ xs) = ap (λ k. k ∷ map name (map f xs)) (keeps x)
      ∙ ap (λ ks. name x ∷ ks) (names_kept f keeps xs)

  pub rising_map : (f : X → X) → ((x : X) → name (f x) ≡ name x) → (xs : List X) → AreInOrder name xs
      → AreInOrder name (map f xs)
  rising_map f keeps xs rising = rw (names_kept f keeps xs) rising

  pub change_keeps : (change : X → X) → ((x : X) → name (change x) ≡ name x) → (n : Name) (x : X)
      → name (change_at change n x) ≡ name x
  change_keeps change keeps n x = by_test (has_key name name_cmp n x)
    where
      by_test : (b : Bool) → name (cond b (change x) x) ≡ name x
      by_test true = keeps x
      by_test false = refl

  -- what holds of names holds of them with one more
  names_put : (P : Name → Type 0) (x : X) (xs : List X) → P (name x) → AllByRecursion P (map name xs)
      → AllByRecursion P (map name (put_in name x xs))
  names_put P x [] here h = (here, tt)
  names_put P x (y ∷ ys) here h = by_order (names_put P x ys here h.1) (name_cmp (name x) (name y))
    where
      by_order : AllByRecursion P (map name (put_in name x ys)) → (r : Ordering)
          → AllByRecursion P (map name (match_ordering r (x ∷ y ∷ ys) (x ∷ ys) (y ∷ put_in name x ys)))
      by_order rest Less = (here, h)
      by_order rest Equal = (here, h.1)
      by_order rest Greater = (h.0, rest)

  pub rising_put : (x : X) (xs : List X) → AreInOrder name xs → AreInOrder name (put_in name x xs)
  unfolding IsStrictlySortedBy
  rising_put x [] rising = (tt, tt)
  rising_put x (y ∷ ys) rising = by_order (rising_put x ys (sorted_tail name_cmp (name y) (map name ys) rising))
      (name_cmp (name x) (name y)) refl
    where
      head : AllByRecursion (λ k. name_cmp (name y) k ≡ Less) (map name ys)
      head = sorted_head name_cmp (name y) (map name ys) rising

      tail : AreInOrder name ys
      tail = sorted_tail name_cmp (name y) (map name ys) rising

      by_order : AreInOrder name (put_in name x ys) → (r : Ordering) → name_cmp (name x) (name y) ≡ r
          → AreInOrder name (match_ordering r (x ∷ y ∷ ys) (x ∷ ys) (y ∷ put_in name x ys))
      by_order rest Less is = ((is, above (name x) (name y) (map name ys) is head), rising)
      by_order rest Equal is = (let same : name x ≡ name y = exact_names (name x) (name y) is in rw same head, tail)
      by_order rest Greater is =
          let less : name_cmp (name y) (name x) ≡ Less =
          names_total.antisymm (name y) (name x) ∙ ap ordering_reverse is in
          (names_put (λ k. name_cmp (name y) k ≡ Less) x ys less head, rest)

  -- a sum over the items, when one more is put that has a new name
  pub sum_put : (f : X → ℕ) (total : List X → ℕ) → ((y : X) (ys : List X) → total (y ∷ ys) ≡ f y + total ys)
      → (x : X) (xs : List X) → item_in name (name x) xs ≡ None → total (put_in name x xs) ≡ f x + total xs
  sum_put f total adds x [] none = adds x []
  sum_put f total adds x (y ∷ ys) none = by_order (sum_put f total adds x ys) (name_cmp (name x) (name y)) none
    where
      by_order : (item_in name (name x) ys ≡ None → total (put_in name x ys) ≡ f x + total ys) → (r : Ordering)
          → cond (is_eq r) (Some y) (item_in name (name x) ys) ≡ None
          → total (match_ordering r (x ∷ y ∷ ys) (x ∷ ys) (y ∷ put_in name x ys)) ≡ f x + total (y ∷ ys)
      by_order rest Less at = adds x (y ∷ ys)
      by_order rest Equal at = cc
      by_order rest Greater at = let behind : total (put_in name x ys) ≡ f x + total ys =
          rest at in omega (arith, adds y (put_in name x ys), adds y ys, behind)

  pub all_put : (P : X → Type 0) (x : X) (xs : List X) → P x → AllByRecursion P xs → AllByRecursion P (put_in name x xs)
  all_put P x [] here h = (here, tt)
  all_put P x (y ∷ ys) here h = by_order (all_put P x ys here h.1) (name_cmp (name x) (name y))
    where
      by_order : AllByRecursion P (put_in name x ys) → (r : Ordering)
          → AllByRecursion P (match_ordering r (x ∷ y ∷ ys) (x ∷ ys) (y ∷ put_in name x ys))
      by_order rest Less = (here, h)
      by_order rest Equal = (here, h.1)
      by_order rest Greater = (h.0, rest)

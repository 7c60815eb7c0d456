-- Items by rising names: such a list is known by what stands under each name, and stays so when
-- items are put and taken away.
use Rattle.std.proofs.Common.{◌≡◌, Bool, true, false, List, [], ◌∷◌, ◌++◌, cond, map, not, Option, Some, None, option_map, refl, sym, ap, subst, ◌∙◌, Ordering, Less, Equal, Greater, append_assoc}
use Rattle.std.specs.List.{AllByRecursion}
use Rattle.std.specs.Option.{option_or}
use Rattle.std.specs.List.Sorted.{IsStrictlySortedBy}
use Rattle.std.specs.Ordering.{is_eq, match_ordering, ordering_reverse}
use Rattle.std.proofs.lemmas.Map.Keys.{sorted_head, sorted_tail}
use Rattle.ids.specs.Named.{Name, name_cmp, item_in, put_in, without_in}
use Rattle.ids.specs.Ordered.{AreInOrder}
use Rattle.ids.proofs.NameOrder.{exact_names, names_total}
use Rattle.ids.proofs.KeyedLaws.{found_in}
use Rattle.ids.proofs.Replacing.{put_is_found}
use Rattle.subcomputation.proofs.Others.{apart, equal_to_itself, put_other, without_itself, without_other}

-- whether two names are the same
abbrev pub same_name : Name → Name → Bool
same_name n m = is_eq (name_cmp n m)

-- the one or the other, as two names are the same or differ
pub by_names : {A : Type 0} (n m : Name) → (n ≡ m → A) → ((n ≡ m → ⊥) → A) → A
by_names {A} n m same other = by_order (name_cmp n m) refl
  where
    differs : (r : Ordering) → name_cmp n m ≡ r → (r ≡ Equal → ⊥) → n ≡ m → ⊥
    differs r is apart same = let itself : name_cmp n n ≡ Equal =
        equal_to_itself n in apart (sym is ∙ ap (name_cmp n) (sym same) ∙ itself)

    by_order : (r : Ordering) → name_cmp n m ≡ r → A
    by_order Less is = other (differs Less is (λ e. cc))
    by_order Equal is = same (exact_names n m is)
    by_order Greater is = other (differs Greater is (λ e. cc))

-- one more before the others
sorted_more : {K : Type 0} (c : K → K → Ordering) (k : K) (ks : List K) → AllByRecursion (λ y. c k y ≡ Less) ks
    → IsStrictlySortedBy c ks → IsStrictlySortedBy c (k ∷ ks)
unfolding IsStrictlySortedBy
sorted_more c k ks above rest = (above, rest)

-- no names are in order
none_sorted : {K : Type 0} (c : K → K → Ordering) → IsStrictlySortedBy c []
unfolding IsStrictlySortedBy
none_sorted c = tt

-- no items are in order
pub in_order_none : {X : Type 0} (name : X → Name) → AreInOrder name []
in_order_none name = none_sorted name_cmp

-- what holds of each by what held of it
all_more : {K : Type 0} (P Q : K → Type 0) (ks : List K) → ((k : K) → P k → Q k) → AllByRecursion P ks
    → AllByRecursion Q ks
all_more P Q [] more all = tt
all_more P Q (k ∷ ks) more all = (more k all.0, all_more P Q ks more all.1)

module _ {X : Type 0} (name : X → Name) where
  -- ---- what holds of all items
  pub all_put : (P : X → Type 0) (x : X) (xs : List X) → P x → AllByRecursion P xs → AllByRecursion P (put_in name x xs)
  all_put P x [] here all = (here, tt)
  all_put P x (y ∷ ys) here all = by_order (all_put P x ys here all.1) (name_cmp (name x) (name y))
    where
      by_order : AllByRecursion P (put_in name x ys) → (r : Ordering)
          → AllByRecursion P (match_ordering r (x ∷ y ∷ ys) (x ∷ ys) (y ∷ put_in name x ys))
      by_order rest Less = (here, all)
      by_order rest Equal = (here, all.1)
      by_order rest Greater = (all.0, rest)

  -- it holds when some are taken away
  pub all_without : (P : X → Type 0) (n : Name) (xs : List X) → AllByRecursion P xs
      → AllByRecursion P (without_in name n xs)
  all_without P n [] all = tt
  all_without P n (y ∷ ys) all = by_test (all_without P n ys all.1) (not (same_name n (name y)))
    where
      by_test : AllByRecursion P (without_in name n ys) → (b : Bool)
          → AllByRecursion P (cond b (y ∷ without_in name n ys) (without_in name n ys))
      by_test rest true = (all.0, rest)
      by_test rest false = rest

  -- it holds of one that is found
  pub all_found : (P : X → Type 0) (n : Name) (x : X) (xs : List X) → AllByRecursion P xs → item_in name n xs ≡ Some x
      → P x
  all_found P n x [] all there = cc
  all_found P n x (y ∷ ys) all there = by_test (all_found P n x ys all.1) (same_name n (name y)) there
    where
      by_test : (item_in name n ys ≡ Some x → P x) → (b : Bool) → cond b (Some y) (item_in name n ys) ≡ Some x → P x
      by_test rest true at = let same : y ≡ x = cc in rw same at all.0
      by_test rest false at = rest at

  -- the same of their names
  pub names_of : (P : Name → Type 0) (xs : List X) → AllByRecursion P (map name xs)
      → AllByRecursion (λ x. P (name x)) xs
  names_of P [] all = tt
  names_of P (x ∷ xs) all = (all.0, names_of P xs all.1)

  -- and back
  of_names : (P : Name → Type 0) (xs : List X) → AllByRecursion (λ x. P (name x)) xs → AllByRecursion P (map name xs)
  of_names P [] all = tt
  of_names P (x ∷ xs) all = (all.0, of_names P xs all.1)

  -- ---- the order stays
  pub put_order : (x : X) (xs : List X) → AreInOrder name xs → AreInOrder name (put_in name x xs)
  put_order x [] order = sorted_more name_cmp (name x) [] tt (none_sorted name_cmp)
  put_order x (y ∷ ys) order = by_order (put_order x ys tail) (name_cmp (name x) (name y)) refl
    where
      head : AllByRecursion (λ k. name_cmp (name y) k ≡ Less) (map name ys)
      head = sorted_head name_cmp (name y) (map name ys) order

      tail : AreInOrder name ys
      tail = sorted_tail name_cmp (name y) (map name ys) order

      by_order : AreInOrder name (put_in name x ys) → (r : Ordering) → name_cmp (name x) (name y) ≡ r
          → AreInOrder name (match_ordering r (x ∷ y ∷ ys) (x ∷ ys) (y ∷ put_in name x ys))
      by_order rest Less is =
          sorted_more name_cmp (name x) (map name (y ∷ ys)) (
            is,
            all_more (λ k. name_cmp (name y) k ≡ Less) (λ k. name_cmp (name x) k ≡ Less) (map name ys)
                (λ k below. names_total.trans (name x) (name y) k is below) head,
          ) order
      by_order rest Equal is =
          let same : name x ≡ name y = exact_names (name x) (name y) is in
          sorted_more name_cmp (name x) (map name ys) (rw (← same) at head) tail
      by_order rest Greater is =
          let below : name_cmp (name y) (name x) ≡ Less =
          names_total.antisymm (name y) (name x) ∙ ap ordering_reverse is in
          sorted_more name_cmp (name y) (map name (put_in name x ys))
          (of_names (λ k. name_cmp (name y) k ≡ Less) (put_in name x ys)
          (all_put (λ z. name_cmp (name y) (name z) ≡ Less) x ys below
          (names_of (λ k. name_cmp (name y) k ≡ Less) ys head))) rest

  -- the order stays when some are taken away
  pub without_order : (n : Name) (xs : List X) → AreInOrder name xs → AreInOrder name (without_in name n xs)
  without_order n [] order = order
  without_order n (y ∷ ys) order = by_test (without_order n ys (sorted_tail name_cmp (name y) (map name ys) order))
      (not (same_name n (name y)))
    where
      by_test : AreInOrder name (without_in name n ys) → (b : Bool)
          → AreInOrder name (cond b (y ∷ without_in name n ys) (without_in name n ys))
      by_test rest true =
          sorted_more name_cmp (name y) (map name (without_in name n ys))
          (of_names (λ k. name_cmp (name y) k ≡ Less) (without_in name n ys)
          (all_without (λ z. name_cmp (name y) (name z) ≡ Less) n ys
          (names_of (λ k. name_cmp (name y) k ≡ Less) ys (sorted_head name_cmp (name y) (map name ys) order)))) rest
      by_test rest false = rest

  -- ---- what stands under a name
  pub first_found : (x : X) (xs : List X) → item_in name (name x) (x ∷ xs) ≡ Some x
  first_found x xs = ap (λ r. cond (is_eq r) (Some x) (item_in name (name x) xs)) (equal_to_itself (name x))

  -- under another name than the first
  pub later_found : (n : Name) (x : X) (xs : List X) → (n ≡ name x → ⊥) → item_in name n (x ∷ xs) ≡ item_in name n xs
  later_found n x xs other = ap (λ b. cond b (Some x) (item_in name n xs)) (apart n (name x) other)

  -- a name below all others is that of none
  none_below : (n : Name) (xs : List X) → AllByRecursion (λ k. name_cmp n k ≡ Less) (map name xs)
      → item_in name n xs ≡ None
  none_below n [] above = refl
  none_below n (y ∷ ys) above = ap (λ r. cond (is_eq r) (Some y) (item_in name n ys)) above.0 ∙ none_below n ys above.1

  -- the name of the first item is that of no other
  pub none_later : (x : X) (xs : List X) → AreInOrder name (x ∷ xs) → item_in name (name x) xs ≡ None
  none_later x xs order = none_below (name x) xs (sorted_head name_cmp (name x) (map name xs) order)

  -- the others are in order
  pub order_later : (x : X) (xs : List X) → AreInOrder name (x ∷ xs) → AreInOrder name xs
  order_later x xs order = sorted_tail name_cmp (name x) (map name xs) order

  -- a name below the first is that of none
  pub none_before : (x y : X) (ys : List X) → name_cmp (name x) (name y) ≡ Less → AreInOrder name (y ∷ ys)
      → item_in name (name x) (y ∷ ys) ≡ None
  none_before x y ys less order =
      none_below (name x) (y ∷ ys) (
        less,
        all_more (λ k. name_cmp (name y) k ≡ Less) (λ k. name_cmp (name x) k ≡ Less) (map name ys)
            (λ k below. names_total.trans (name x) (name y) k less below)
            (sorted_head name_cmp (name y) (map name ys) order),
      )

  -- lists in order in which the same stands under each name are the same
  pub same_items : (xs ys : List X) → AreInOrder name xs → AreInOrder name ys
      → ((n : Name) → item_in name n xs ≡ item_in name n ys) → xs ≡ ys
  same_items [] [] first second same = refl
  same_items [] (y ∷ ys) first second same = let there = first_found y ys in let none = same (name y) in cc
  same_items (x ∷ xs) [] first second same = let there = first_found x xs in let none = same (name x) in cc
  same_items (x ∷ xs) (y ∷ ys) first second same =
      by_order (same_items xs ys (order_later x xs first) (order_later y ys second)) (name_cmp (name x) (name y)) refl
    where
      rests : name x ≡ name y → (n : Name) → item_in name n xs ≡ item_in name n ys
      rests is n =
          by_names n (name x)
          (λ here. ap (λ k. item_in name k xs) here ∙ none_later x xs first
          ∙ sym (ap (λ k. item_in name k ys) (here ∙ is) ∙ none_later y ys second))
          (λ other. sym (later_found n x xs other) ∙ same n ∙ later_found n y ys (λ at. other (at ∙ sym is)))

      by_order : (((n : Name) → item_in name n xs ≡ item_in name n ys) → xs ≡ ys) → (r : Ordering)
          → name_cmp (name x) (name y) ≡ r → x ∷ xs ≡ y ∷ ys
      by_order rest Less is =
          let none = none_before x y ys is second in
          let there = first_found x xs in
          let at = same (name x) in
          cc
      by_order rest Equal is =
          let one : name x ≡ name y = exact_names (name x) (name y) is in
          let here = first_found x xs in
          let there : item_in name (name x) (y ∷ ys) ≡ Some y =
          ap (λ n. item_in name n (y ∷ ys)) one ∙ first_found y ys in
          let at = same (name x) in
          let items : x ≡ y = cc in
          let others = rest (rests one) in
          cc
      by_order rest Greater is =
          let less : name_cmp (name y) (name x) ≡ Less =
          names_total.antisymm (name y) (name x) ∙ ap ordering_reverse is in
          let none = none_before y x xs less first in
          let there = first_found y ys in
          let at = same (name y) in
          cc

  -- an item that is there, put again, changes nothing
  pub put_again : (x : X) (xs : List X) → AreInOrder name xs → item_in name (name x) xs ≡ Some x → put_in name x xs ≡ xs
  put_again x xs order there =
      same_items (put_in name x xs) xs (put_order x xs order) order
      (λ n. by_names n (name x)
      (λ here. ap (λ k. item_in name k (put_in name x xs)) here ∙ put_is_found name x xs
      ∙ sym (ap (λ k. item_in name k xs) here ∙ there))
      (λ other. put_other name n x xs other))

  -- what is found has the name
  pub named : (n : Name) (x : X) (xs : List X) → item_in name n xs ≡ Some x → n ≡ name x
  named n x xs there = exact_names n (name x) (found_in name name_cmp n x xs there)

  -- put in the place of one that was taken away, or of one that is there
  pub put_anew : (x : X) (xs : List X) → AreInOrder name xs
      → put_in name x (without_in name (name x) xs) ≡ put_in name x xs
  put_anew x xs order =
      same_items (put_in name x (without_in name (name x) xs)) (put_in name x xs)
      (put_order x (without_in name (name x) xs) (without_order (name x) xs order)) (put_order x xs order)
      (λ n. by_names n (name x)
      (λ here. ap (λ k. item_in name k (put_in name x (without_in name (name x) xs))) here
      ∙ put_is_found name x (without_in name (name x) xs)
      ∙ sym (ap (λ k. item_in name k (put_in name x xs)) here ∙ put_is_found name x xs))
      (λ other. put_other name n x (without_in name (name x) xs) other ∙ without_other name n (name x) xs other
      ∙ sym (put_other name n x xs other)))

  -- ---- an item between others
  pub mid_found : (past : List X) (x : X) (rest : List X) → AreInOrder name (past ++ x ∷ rest)
      → item_in name (name x) (past ++ x ∷ rest) ≡ Some x
  mid_found [] x rest order = first_found x rest
  mid_found (p ∷ ps) x rest order =
      let later = mid_found ps x rest (order_later p (ps ++ x ∷ rest) order) in
      let none = none_later p (ps ++ x ∷ rest) order in
      later_found (name x) p (ps ++ x ∷ rest) (λ same. let wrong : item_in name (name p) (ps ++ x ∷ rest) ≡ Some x =
      ap (λ k. item_in name k (ps ++ x ∷ rest)) (sym same) ∙ later in cc) ∙ later

  -- each item is found under its name
  all_from : (past rest : List X) → AreInOrder name (past ++ rest)
      → AllByRecursion (λ x. item_in name (name x) (past ++ rest) ≡ Some x) rest
  all_from past [] order = tt
  all_from past (x ∷ rest) order =
      let whole : (past ++ x ∷ []) ++ rest ≡ past ++ x ∷ rest = append_assoc past (x ∷ []) rest in (
        mid_found past x rest order,
        subst (λ xs. AllByRecursion (λ y. item_in name (name y) xs ≡ Some y) rest) whole
            (all_from (past ++ x ∷ []) rest (subst (λ xs. AreInOrder name xs) (sym whole) order)),
      )

  -- the same of all
  pub all_there : (xs : List X) → AreInOrder name xs → AllByRecursion (λ x. item_in name (name x) xs ≡ Some x) xs
  all_there xs order = all_from [] xs order

  -- what holds of all names holds of that in the middle
  all_mid : (P : Name → Type 0) (past : List X) (x : X) (rest : List X) → AllByRecursion P (map name (past ++ x ∷ rest))
      → P (name x)
  all_mid P [] x rest all = all.0
  all_mid P (p ∷ ps) x rest all = all_mid P ps x rest all.1

  -- the first is below that in the middle
  head_before : (p : X) (ps : List X) (x : X) (rest : List X) → AreInOrder name (p ∷ (ps ++ x ∷ rest))
      → name_cmp (name p) (name x) ≡ Less
  head_before p ps x rest order = all_mid (λ k. name_cmp (name p) k ≡ Less) ps x rest
      (sorted_head name_cmp (name p) (map name (ps ++ x ∷ rest)) order)

  -- an item of its name in its place
  pub put_mid : (past : List X) (x y : X) (rest : List X) → name y ≡ name x → AreInOrder name (past ++ x ∷ rest)
      → put_in name y (past ++ x ∷ rest) ≡ past ++ y ∷ rest
  put_mid [] x y rest same order = ap (λ r. match_ordering r (y ∷ x ∷ rest) (y ∷ rest) (x ∷ put_in name y rest))
      (ap (λ k. name_cmp k (name x)) same ∙ equal_to_itself (name x))
  put_mid (p ∷ ps) x y rest same order =
      let greater : name_cmp (name y) (name p) ≡ Greater =
      ap (λ k. name_cmp k (name p)) same ∙ names_total.antisymm (name x) (name p)
      ∙ ap ordering_reverse (head_before p ps x rest order) in
      ap (λ r. match_ordering r (y ∷ p ∷ (ps ++ x ∷ rest)) (y ∷ (ps ++ x ∷ rest)) (p ∷ put_in name y (ps ++ x ∷ rest)))
      greater
      ∙ ap (λ zs. p ∷ zs) (put_mid ps x y rest same (order_later p (ps ++ x ∷ rest) order))

  -- nothing goes where nothing has the name
  without_none : (n : Name) (xs : List X) → item_in name n xs ≡ None → without_in name n xs ≡ xs
  without_none n [] none = refl
  without_none n (y ∷ ys) none = by_test (without_none n ys) (same_name n (name y)) none
    where
      by_test : (item_in name n ys ≡ None → without_in name n ys ≡ ys) → (b : Bool)
          → cond b (Some y) (item_in name n ys) ≡ None
          → cond (not b) (y ∷ without_in name n ys) (without_in name n ys) ≡ y ∷ ys
      by_test rest true at = cc
      by_test rest false at = ap (λ zs. y ∷ zs) (rest at)

  -- the first item goes
  pub without_first : (x : X) (xs : List X) → AreInOrder name (x ∷ xs) → without_in name (name x) (x ∷ xs) ≡ xs
  without_first x xs order =
      ap (λ r. cond (not (is_eq r)) (x ∷ without_in name (name x) xs) (without_in name (name x) xs))
      (equal_to_itself (name x))
      ∙ without_none (name x) xs (none_later x xs order)

  -- it goes from between the others
  pub without_mid : (past : List X) (x : X) (rest : List X) → AreInOrder name (past ++ x ∷ rest)
      → without_in name (name x) (past ++ x ∷ rest) ≡ past ++ rest
  without_mid [] x rest order = without_first x rest order
  without_mid (p ∷ ps) x rest order =
      let greater : name_cmp (name x) (name p) ≡ Greater =
      names_total.antisymm (name x) (name p) ∙ ap ordering_reverse (head_before p ps x rest order) in
      ap (λ r. cond (not (is_eq r)) (p ∷ without_in name (name x) (ps ++ x ∷ rest))
      (without_in name (name x) (ps ++ x ∷ rest))) greater
      ∙ ap (λ zs. p ∷ zs) (without_mid ps x rest (order_later p (ps ++ x ∷ rest) order))

  -- ---- more lists
  pub item_append : (n : Name) (xs ys : List X)
      → item_in name n (xs ++ ys) ≡ option_or (item_in name n xs) (item_in name n ys)
  item_append n [] ys = refl
  item_append n (x ∷ xs) ys = by_test (item_append n xs ys) (same_name n (name x))
    where
      by_test : item_in name n (xs ++ ys) ≡ option_or (item_in name n xs) (item_in name n ys) → (b : Bool)
          → cond b (Some x) (item_in name n (xs ++ ys))
          ≡ option_or (cond b (Some x) (item_in name n xs)) (item_in name n ys)
      by_test rest true = refl
      by_test rest false = rest

-- the items of a list, seen by a part that has the name
pub item_map : {X Y : Type 0} (name : Y → Name) (f : X → Y) (n : Name) (xs : List X)
    → item_in name n (map f xs) ≡ option_map f (item_in (λ x. name (f x)) n xs)
item_map name f n [] = refl
item_map name f n (x ∷ xs) = by_test (item_map name f n xs) (same_name n (name (f x)))
  where
    by_test : item_in name n (map f xs) ≡ option_map f (item_in (λ y. name (f y)) n xs) → (b : Bool)
        → cond b (Some (f x)) (item_in name n (map f xs))
        ≡ option_map f (cond b (Some x) (item_in (λ y. name (f y)) n xs))
    by_test rest true = refl
    by_test rest false = rest

-- what holds of each item by two facts
pub all_both : {X : Type 0} (P Q R : X → Type 0) → ((x : X) → P x → Q x → R x) → (xs : List X) → AllByRecursion P xs
    → AllByRecursion Q xs → AllByRecursion R xs
all_both P Q R both [] p q = tt
all_both P Q R both (x ∷ xs) p q = (both x p.0 q.0, all_both P Q R both xs p.1 q.1)

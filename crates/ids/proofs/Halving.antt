-- Binary search among items that stand by rising name.
use Rattle.std.proofs.Common.{◌≡◌, ℕ, zero, suc, Bool, true, false, nat_lt, ◌<◌, ◌≤◌, List, [], ◌∷◌, map, length, cond, Some, None, Ok, Err, refl, sym, ap, ◌∙◌, Ordering, Less, Equal, Greater, arith}
use Rattle.std.specs.List.{AllByRecursion, slice_index_or}
use Rattle.std.specs.List.Sorted.{IsBinarySearchResult, IsSearchInRange}
use Rattle.std.specs.Ordering.{is_eq, ordering_index, ordering_reverse}
use Rattle.std.proofs.lemmas.Map.Keys.{sorted_head, sorted_tail}
use Rattle.ids.specs.Named.{Name, name_cmp, item_in}
use Rattle.ids.specs.Ordered.{AreInOrder}
use Rattle.ids.specs.Stored.{IsFound, IsMissing, AreAbove}
use Rattle.ids.specs.declared.sorted_map.Entry.{Entry}
use Rattle.ids.proofs.NameOrder.{equal_to_itself, exact_names, names_total}
use Rattle.ids.proofs.Parts.{of_names}

module _ {X : Type 0} (name : X → Name) (n : Name) where
  -- where an item's name stands to the one that is looked for
  abbrev order : X → Ordering
  order y = name_cmp (name y) n

  -- what holds of the names of a list holds of that of each item
  holds_at : (P : Name → Type 0) (xs : List X) → AllByRecursion P (map name xs) → (k : ℕ) (d : X) → k < length xs
      → P (name (slice_index_or xs k d))
  holds_at P [] h k d within = absurd (search arith)
  holds_at P (x ∷ xs) h zero d within = h.0
  holds_at P (x ∷ xs) h (suc k) d within = holds_at P xs h.1 k d (search arith)

  below : (y z : X) → name_cmp (name y) (name z) ≡ Less → ordering_index (order y) ≤ ordering_index (order z)
  below y z less = by_order (order z) refl
    where
      first : order y ≡ Less → (m : ℕ) → ordering_index (order y) ≤ m
      first is m = rw is (search arith)

      last : (r : Ordering) → ordering_index r ≤ 2
      last Less = search arith
      last Equal = search arith
      last Greater = search arith

      by_order : (r : Ordering) → order z ≡ r → ordering_index (order y) ≤ ordering_index r
      by_order Less is = first (names_total.trans (name y) (name z) n less is) 0
      by_order Equal is = first (ap (λ m. name_cmp (name y) m) (sym (exact_names (name z) n is)) ∙ less) 1
      by_order Greater is = last (order y)

  pub rising : (xs : List X) → AreInOrder name xs → (i j : ℕ) (d : X) → i ≤ j → j < length xs
      → ordering_index (order (slice_index_or xs i d)) ≤ ordering_index (order (slice_index_or xs j d))
  rising [] h i j d le within = absurd (search arith)
  rising (x ∷ xs) h zero zero d le within = search arith
  rising (x ∷ xs) h zero (suc j) d le within =
      below x (slice_index_or xs j d) (holds_at (λ k. name_cmp (name x) k ≡ Less) xs
      (sorted_head name_cmp (name x) (map name xs) h) j d (search arith))
  rising (x ∷ xs) h (suc i) zero d le within = absurd (search arith)
  rising (x ∷ xs) h (suc i) (suc j) d le within =
      rising xs (sorted_tail name_cmp (name x) (map name xs) h) i j d (search arith) (search arith)

  -- an item of the name, wherever it stands, is the item of the name
  there : (xs : List X) → AreInOrder name xs → (k : ℕ) → k < length xs
      → ((d : X) → order (slice_index_or xs k d) ≡ Equal) → (d : X) → Some (slice_index_or xs k d) ≡ item_in name n xs
  there [] h k within is d = absurd (search arith)
  there (x ∷ xs) h zero within is d =
      let same : name x ≡ n = exact_names (name x) n (is x) in
      ap (λ r. cond (is_eq r) (Some x) (item_in name n xs)) (sym (ap (λ m. name_cmp n m) same ∙ equal_to_itself n))
  there (x ∷ xs) h (suc k) within is d =
      let at : name (slice_index_or xs k x) ≡ n = exact_names (name (slice_index_or xs k x)) n (is x) in
      let less : name_cmp (name x) n ≡ Less =
      ap (λ m. name_cmp (name x) m) (sym at)
      ∙ holds_at (λ m. name_cmp (name x) m ≡ Less) xs (sorted_head name_cmp (name x) (map name xs) h) k x
      (search arith) in
      let greater : name_cmp n (name x) ≡ Greater = names_total.antisymm n (name x) ∙ ap ordering_reverse less in
      there xs (sorted_tail name_cmp (name x) (map name xs) h) k (search arith) is d
      ∙ ap (λ r. cond (is_eq r) (Some x) (item_in name n xs)) (sym greater)

  -- where no item has the name, none is found
  nowhere : (xs : List X) → ((k : ℕ) (d : X) → k < length xs → order (slice_index_or xs k d) ≡ Equal → ⊥)
      → item_in name n xs ≡ None
  nowhere [] none = refl
  nowhere (x ∷ xs) none = by_order (nowhere xs (λ k d within. none (suc k) d (search arith))) (name_cmp n (name x)) refl
    where
      by_order : item_in name n xs ≡ None → (r : Ordering) → name_cmp n (name x) ≡ r
          → cond (is_eq r) (Some x) (item_in name n xs) ≡ None
      by_order rest Less is = rest
      by_order rest Equal is = absurd (none 0 x (search arith) (names_total.antisymm (name x) n
          ∙ ap ordering_reverse is))
      by_order rest Greater is = rest

  pub found : (xs : List X) → AreInOrder name xs → (k : ℕ) → IsSearchInRange (Ok k) (length xs)
      → IsBinarySearchResult order xs (Ok k) → (x : X) → x ≡ slice_index_or xs k x → Some x ≡ item_in name n xs
  found xs h k within at x same = ap Some same ∙ there xs h k within at x

  pub missing : (xs : List X) → AreInOrder name xs → (i : ℕ) → IsBinarySearchResult order xs (Err i)
      → None ≡ item_in name n xs
  missing xs h i point = sym (nowhere xs (λ k d within is. by_side k d within is (nat_lt k i) refl))
    where
      parts : ((k : ℕ) (d : X) → 0 ≤ k → k < i → order (slice_index_or xs k d) ≡ Less)
          × ((k : ℕ) (d : X) → i ≤ k → k < length xs → order (slice_index_or xs k d) ≡ Greater)
      parts = point (rising xs h)

      by_side : (k : ℕ) (d : X) → k < length xs → order (slice_index_or xs k d) ≡ Equal → (b : Bool) → nat_lt k i ≡ b
          → ⊥
      by_side k d within is true at = let less : order (slice_index_or xs k d) ≡ Less =
          parts.0 k d (search arith) (search arith) in cc
      by_side k d within is false at = let greater : order (slice_index_or xs k d) ≡ Greater =
          parts.1 k d (search arith) within in cc

abbrev pub name_of : Entry → Name
name_of e = e.name

-- the same among entries, with what stands around the place
module _ (n : Name) where
  pub place_found : (es : List Entry) → AreInOrder name_of es → (k : ℕ) → k < length es
      → ((d : Entry) → name_cmp (slice_index_or es k d).name n ≡ Equal) → (d : Entry)
      → IsFound n es k (slice_index_or es k d).key
  place_found [] h k within is d = absurd (search arith)
  place_found (e ∷ es) h zero within is d =
      let same : e.name ≡ n = exact_names e.name n (is e) in
      record {
        before = [];
        entry = e;
        after = es;
        parts = refl;
        at = refl;
        key_is = refl;
        name_is = same;
        below = tt;
        above = rw same at (of_names name_of (λ m. name_cmp e.name m ≡ Less) es
            (sorted_head name_cmp e.name (map name_of es) h));
      }
  place_found (e ∷ es) h (suc k) within is d =
      let rest = place_found es (sorted_tail name_cmp e.name (map name_of es) h) k (search arith) is d in
      let at : (slice_index_or es k e).name ≡ n = exact_names (slice_index_or es k e).name n (is e) in
      let less : name_cmp e.name n ≡ Less =
      ap (λ m. name_cmp e.name m) (sym at)
      ∙ holds_at name_of n (λ m. name_cmp e.name m ≡ Less) es (sorted_head name_cmp e.name (map name_of es) h) k e
      (search arith) in
      record {
        before = e ∷ rest.before;
        entry = rest.entry;
        after = rest.after;
        parts = ap (λ ys. e ∷ ys) rest.parts;
        at = ap suc rest.at;
        key_is = rest.key_is;
        name_is = rest.name_is;
        below = (less, rest.below);
        above = rest.above;
      }

  all_above : (es : List Entry) → ((k : ℕ) (d : Entry) → 0 ≤ k → k < length es
      → name_cmp (slice_index_or es k d).name n ≡ Greater) → AreAbove n es
  all_above [] h = tt
  all_above (e ∷ es) h = (
    names_total.antisymm n e.name
        ∙ ap ordering_reverse (h 0 e (search arith) (search arith)),
    all_above es (λ k d from within. h (suc k) d (search arith) (search arith)),
  )

  pub place_missing : (es : List Entry) (i : ℕ) → i ≤ length es
      → ((k : ℕ) (d : Entry) → 0 ≤ k → k < i → name_cmp (slice_index_or es k d).name n ≡ Less)
      → ((k : ℕ) (d : Entry) → i ≤ k → k < length es → name_cmp (slice_index_or es k d).name n ≡ Greater)
      → IsMissing n es i
  place_missing es zero within less greater =
      record { before = []; after = es; parts = refl; at = refl; below = tt; above = all_above es greater }
  place_missing [] (suc i) within less greater = absurd (search arith)
  place_missing (e ∷ es) (suc i) within less greater =
      let rest = place_missing es i (search arith) (λ k d from below. less (suc k) d (search arith) (search arith))
      (λ k d from below. greater (suc k) d (search arith) (search arith)) in
      record {
        before = e ∷ rest.before;
        after = rest.after;
        parts = ap (λ ys. e ∷ ys) rest.parts;
        at = ap suc rest.at;
        below = (less 0 e (search arith) (search arith), rest.below);
        above = rest.above;
      }

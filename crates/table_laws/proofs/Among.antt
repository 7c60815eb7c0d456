-- What stands in a list: at one of its places, and, where the list was changed, there before or as
-- what was put there.
use Rattle.std.proofs.Common.{◌≡◌, ℕ, suc, zero, Bool, true, false, cond, List, [], ◌∷◌, map, slice_get, ◌⊎◌, inl, inr, ⊎_elim, Some, refl, sym, subst, ap, Ordering, Less, Equal, Greater}
use Rattle.std.specs.List.{AllByRecursion, filter, find}
use Rattle.std.specs.Ordering.{match_ordering}
use Rattle.ids.specs.Named.{Name, name_cmp, put_in}
use Rattle.table_laws.specs.Tables.{◌∈◌}

-- an item of a list stands at a place of it
pub record PlacedIn {X : Type 0} (xs : List X) (x : X) : Type 0 where
  pub at : ℕ
  pub is : slice_get xs at ≡ Some x

module _ {X : Type 0} where
  pub placed : (xs : List X) (x : X) → x ∈ xs → PlacedIn xs x
  placed [] x m = absurd m
  placed (y ∷ ys) x (inl same) = record { at = zero; is = ap Some (sym same) }
  placed (y ∷ ys) x (inr m) = let p = placed ys x m in record { at = suc p.at; is = p.is }

  -- what stands at a place is an item
  pub got : (xs : List X) (i : ℕ) (x : X) → slice_get xs i ≡ Some x → x ∈ xs
  got [] zero x e = cc
  got [] (suc i) x e = cc
  got (y ∷ ys) zero x e = inl (cc)
  got (y ∷ ys) (suc i) x e = inr (got ys i x e)

  -- what is said of all items is said of each
  pub of_each : (P : X → Type 0) (xs : List X) → AllByRecursion P xs → (x : X) → x ∈ xs → P x
  of_each P [] all x m = absurd m
  of_each P (y ∷ ys) all x (inl same) = subst P (sym same) all.0
  of_each P (y ∷ ys) all x (inr m) = of_each P ys all.1 x m

  -- what is put in its place, or was there
  pub put_among : (name : X → Name) (x y : X) (xs : List X) → y ∈ put_in name x xs → (y ≡ x) ⊎ (y ∈ xs)
  put_among name x y [] m = m
  put_among name x y (z ∷ zs) m = by_order (put_among name x y zs) (name_cmp (name x) (name z)) m
    where
      by_order : (y ∈ put_in name x zs → (y ≡ x) ⊎ (y ∈ zs)) → (o : Ordering)
          → y ∈ match_ordering o (x ∷ z ∷ zs) (x ∷ zs) (z ∷ put_in name x zs) → (y ≡ x) ⊎ (y ∈ (z ∷ zs))
      by_order rest Less m = m
      by_order rest Equal (inl e) = inl e
      by_order rest Equal (inr m) = inr (inr m)
      by_order rest Greater (inl e) = inr (inl e)
      by_order rest Greater (inr m) = ⊎_elim (λ e. inl e) (λ k. inr (inr k)) (rest m)

  -- what passes a test
  pub filtered : (test : X → Bool) (x : X) (xs : List X) → x ∈ filter test xs → x ∈ xs
  filtered test x [] m = absurd m
  filtered test x (y ∷ ys) m = by_test (filtered test x ys) (test y) m
    where
      by_test : (x ∈ filter test ys → x ∈ ys) → (b : Bool) → x ∈ cond b (y ∷ filter test ys) (filter test ys)
          → (x ≡ y) ⊎ (x ∈ ys)
      by_test rest true (inl e) = inl e
      by_test rest true (inr k) = inr (rest k)
      by_test rest false k = inr (rest k)

  -- what is found
  pub found_among : (test : X → Bool) (x : X) (xs : List X) → find test xs ≡ Some x → x ∈ xs
  found_among test x [] e = cc
  found_among test x (y ∷ ys) e = by_test (found_among test x ys) (test y) e
    where
      by_test : (find test ys ≡ Some x → x ∈ ys) → (b : Bool) → cond b (Some y) (find test ys) ≡ Some x
          → (x ≡ y) ⊎ (x ∈ ys)
      by_test rest true e = inl (cc)
      by_test rest false e = inr (rest e)

-- what is made of an item
pub record MadeOf {X Y : Type 0} (f : X → Y) (xs : List X) (y : Y) : Type 0 where
  pub item : X
  pub there : item ∈ xs
  pub is : y ≡ f item

pub mapped : {X Y : Type 0} (f : X → Y) (xs : List X) (y : Y) → y ∈ map f xs → MadeOf f xs y
mapped f [] y m = absurd m
mapped f (x ∷ xs) y (inl e) = record { item = x; there = inl refl; is = e }
mapped f (x ∷ xs) y (inr m) = let k = mapped f xs y m in record { item = k.item; there = inr k.there; is = k.is }

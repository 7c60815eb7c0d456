-- Sums over all views, and what holds of each view.
use Rattle.std.proofs.Common.{◌≡◌, ℕ, zero, suc, ◌+◌, ◌≤◌, List, [], ◌∷◌, ◌++◌, length, set, flat_map, sum_by, sym, refl, ap, ◌∙◌, subst, ⊎_elim, arith}
use Rattle.std.proofs.lemmas.List.Sums.{sum_by-cons, sum_by-append}
use mathlib.Core.Option.{some, some-injective, some-ne-none}
use lib.ListN.{get_elem?}
use Rattle.crossbeam_deque.proofs.Lists.{at_set, at_snoc}
use Rattle.local_pool.specs.Items.{SameItems}

-- what holds of each view, wherever it stands
abbrev pub Each : {V : Type 0} → (V → Type 0) → List V → Type 0
Each {V} F views = (seat : ℕ) (v : V) → get_elem? views seat ≡ some v → F v

module _ {V : Type 0} where
  pub total-set : (f : V → ℕ) (vs : List V) (i : ℕ) (v w : V) → get_elem? vs i ≡ some v
      → sum_by f (set vs i w) + f v ≡ sum_by f vs + f w
  total-set f [] i v w e = absurd (some-ne-none v (sym e))
  total-set f (x ∷ xs) zero v w e =
      let is : f x ≡ f v = ap f (some-injective x v e) in
      let a = sum_by-cons f x xs in
      let b = sum_by-cons f w xs in
      omega arith
  total-set f (x ∷ xs) (suc i) v w e =
      let rest = total-set f xs i v w e in
      let a = sum_by-cons f x xs in
      let b = sum_by-cons f x (set xs i w) in
      omega arith

  pub total-snoc : (f : V → ℕ) (vs : List V) (w : V) → sum_by f (vs ++ w ∷ []) ≡ sum_by f vs + f w
  total-snoc f vs w = let a = sum_by-append f vs (w ∷ []) in omega arith

  pub le_total : (f : V → ℕ) (vs : List V) (i : ℕ) (v : V) → get_elem? vs i ≡ some v → f v ≤ sum_by f vs
  le_total f [] i v e = absurd (some-ne-none v (sym e))
  le_total f (x ∷ xs) zero v e = let is : f x ≡ f v = ap f (some-injective x v e) in let a =
      sum_by-cons f x xs in omega arith
  le_total f (x ∷ xs) (suc i) v e = let rest = le_total f xs i v e in let a = sum_by-cons f x xs in omega arith

  -- where no share is left, there is nothing
  total_none : (share f : V → ℕ) (vs : List V) → Each (λ v. share v ≡ 0 → f v ≡ 0) vs → sum_by share vs ≡ 0
      → sum_by f vs ≡ 0
  total_none share f [] h none = refl
  total_none share f (x ∷ xs) h none =
      let a = sum_by-cons share x xs in
      let b = sum_by-cons f x xs in
      let here = h 0 x refl (omega arith) in
      let rest = total_none share f xs (λ i v e. h (suc i) v e) (omega arith) in
      omega arith

  -- the view with all shares has all that there is
  pub total_alone : (share f : V → ℕ) (vs : List V) (i : ℕ) (v : V) → Each (λ u. share u ≡ 0 → f u ≡ 0) vs
      → get_elem? vs i ≡ some v → sum_by share vs ≡ share v → sum_by f vs ≡ f v
  total_alone share f [] i v h e whole = absurd (some-ne-none v (sym e))
  total_alone share f (x ∷ xs) zero v h e whole =
      let is = some-injective x v e in
      let same : f x ≡ f v = ap f is in
      let shares : share x ≡ share v = ap share is in
      let a = sum_by-cons share x xs in
      let b = sum_by-cons f x xs in
      let rest = total_none share f xs (λ j u at. h (suc j) u at) (omega arith) in
      omega arith
  total_alone share f (x ∷ xs) (suc i) v h e whole =
      let a = sum_by-cons share x xs in
      let b = sum_by-cons f x xs in
      let some_share = le_total share xs i v e in
      let none = h 0 x refl (omega arith) in
      let rest = total_alone share f xs i v (λ j u at. h (suc j) u at) e (omega arith) in
      omega arith

  pub each-set : (F : V → Type 0) (vs : List V) (i : ℕ) (w : V) → Each F vs → F w → Each F (set vs i w)
  each-set F vs i w h now j u e = ⊎_elim (λ t. subst F t.1 now) (λ t. h j u t.1) (at_set vs i j w u e)

  pub each-snoc : (F : V → Type 0) (vs : List V) (w : V) → Each F vs → F w → Each F (vs ++ w ∷ [])
  each-snoc F vs w h now j u e = ⊎_elim (λ at. h j u at) (λ same. subst F same now) (at_snoc vs w u j e)

-- the weight of all lists, one after another
pub total_flat : {V T : Type 0} (weight : T → ℕ) (f : V → List T) (vs : List V)
    → sum_by weight (flat_map f vs) ≡ sum_by (λ v. sum_by weight (f v)) vs
total_flat weight f [] = refl
total_flat weight f (x ∷ xs) =
    let rest = total_flat weight f xs in
    let a = sum_by-cons (λ v. sum_by weight (f v)) x xs in
    let b = sum_by-append weight (f x) (flat_map f xs) in
    omega arith

-- a list's length as a sum
pub sum_by-ones : {T : Type 0} (xs : List T) → sum_by (λ _. 1) xs ≡ length xs
sum_by-ones [] = refl
sum_by-ones (x ∷ xs) = let rest = sum_by-ones xs in let a = sum_by-cons (λ _. 1) x xs in omega arith

-- lists of the same tickets are of one length
pub length_same : {T : Type 0} (xs ys : List T) → SameItems xs ys → length xs ≡ length ys
length_same xs ys same = sym (sum_by-ones xs) ∙ same (λ _. 1) ∙ sum_by-ones ys

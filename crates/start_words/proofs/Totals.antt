-- Sums over all views, and what holds of each view.
use Rattle.std.proofs.Common.{◌≡◌, ℕ, zero, suc, ◌+◌, ◌*◌, ◌^◌, ◌≤◌, List, [], ◌∷◌, ◌++◌, length, set, sym, refl, ap, subst, ⊎_elim, arith}
use mathlib.Core.Option.{some, some-injective, some-ne-none}
use lib.ListN.{get_elem?}
use Rattle.atomic_table.proofs.Lists.{at_set, at_snoc}
use Rattle.start_words.specs.declared.law.Hand.{Hand}
use Rattle.start_words.specs.Hands.{total, IsWithin}

pub total-set : (f : Hand → ℕ) (vs : List Hand) (i : ℕ) (v w : Hand) → get_elem? vs i ≡ some v
    → total f (set vs i w) + f v ≡ total f vs + f w
total-set f [] i v w e = absurd (some-ne-none v (sym e))
total-set f (x ∷ xs) zero v w e = let is : f x ≡ f v = ap f (some-injective x v e) in omega arith
total-set f (x ∷ xs) (suc i) v w e = let rest = total-set f xs i v w e in omega arith

pub total-snoc : (f : Hand → ℕ) (vs : List Hand) (w : Hand) → total f (vs ++ w ∷ []) ≡ total f vs + f w
total-snoc f [] w = omega arith
total-snoc f (x ∷ xs) w = let rest = total-snoc f xs w in omega arith

pub le_total : (f : Hand → ℕ) (vs : List Hand) (i : ℕ) (v : Hand) → get_elem? vs i ≡ some v → f v ≤ total f vs
le_total f [] i v e = absurd (some-ne-none v (sym e))
le_total f (x ∷ xs) zero v e = let is : f x ≡ f v = ap f (some-injective x v e) in omega arith
le_total f (x ∷ xs) (suc i) v e = let rest = le_total f xs i v e in omega arith

-- a pen's 2^32 draws for each part bound them all
pub total_within : (vs : List Hand) → IsWithin vs → total (λ v. length v.drawn) vs ≤ total (λ v. v.parts) vs * 2 ^ 32
total_within [] h = omega arith
total_within (x ∷ xs) h = let here = h 0 x refl in let rest = total_within xs (λ i v e. h (suc i) v e) in omega arith

-- where no part is left, there is nothing
total_none : (f : Hand → ℕ) (vs : List Hand) → ((i : ℕ) (v : Hand) → get_elem? vs i ≡ some v → v.parts ≡ 0 → f v ≡ 0)
    → total (λ v. v.parts) vs ≡ 0 → total f vs ≡ 0
total_none f [] h none = refl
total_none f (x ∷ xs) h none =
    let here = h 0 x refl (omega arith) in
    let rest = total_none f xs (λ i v e. h (suc i) v e) (omega arith) in
    omega arith

-- the view with all parts has all that there is
pub total_alone : (f : Hand → ℕ) (vs : List Hand) (i : ℕ) (v : Hand)
    → ((j : ℕ) (u : Hand) → get_elem? vs j ≡ some u → u.parts ≡ 0 → f u ≡ 0)
    → get_elem? vs i ≡ some v → total (λ u. u.parts) vs ≡ v.parts → total f vs ≡ f v
total_alone f [] i v h e whole = absurd (some-ne-none v (sym e))
total_alone f (x ∷ xs) zero v h e whole =
    let is = some-injective x v e in
    let same : f x ≡ f v = ap f is in
    let parts : x.parts ≡ v.parts = ap (λ (u : Hand). u.parts) is in
    let rest = total_none f xs (λ j u at. h (suc j) u at) (omega arith) in
    omega arith
total_alone f (x ∷ xs) (suc i) v h e whole =
    let some_part = le_total (λ u. u.parts) xs i v e in
    let none = h 0 x refl (omega arith) in
    let rest = total_alone f xs i v (λ j u at. h (suc j) u at) e (omega arith) in
    omega arith

pub within-set : (vs : List Hand) (i : ℕ) (w : Hand) → IsWithin vs → length w.drawn ≤ w.parts * 2 ^ 32
    → IsWithin (set vs i w)
within-set vs i w h now j u e =
    ⊎_elim (λ t. subst (λ (z : Hand). length z.drawn ≤ z.parts * 2 ^ 32) t.1 now) (λ t. h j u t.1) (at_set vs i j w u e)

pub within-snoc : (vs : List Hand) (w : Hand) → IsWithin vs → length w.drawn ≤ w.parts * 2 ^ 32
    → IsWithin (vs ++ w ∷ [])
within-snoc vs w h now j u e =
    ⊎_elim (λ at. h j u at) (λ same. subst (λ (z : Hand). length z.drawn ≤ z.parts * 2 ^ 32) same now)
    (at_snoc vs w u j e)

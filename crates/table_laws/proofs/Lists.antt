-- Lists as sets, and places of tables.
use Rattle.std.proofs.Common.{◌≡◌, ℕ, ◌<◌, List, [], ◌∷◌, ◌++◌, ◌⊎◌, Option, Some, None, refl, inl, inr, ⊎_elim, arith, ap}
use Rattle.ids.specs.Names.{Grant}
use Rattle.table_laws.specs.Tables.{◌∈◌}
use Rattle.table_laws.specs.Facts.{Above}

-- each item of xs is one of ys
abbrev pub Within : {A : Type 0} → List A → List A → Type 0
Within {A = A} xs ys = (x : A) → x ∈ xs → x ∈ ys

pub same : {A : Type 0} (xs : List A) → Within xs xs
same xs x m = m

pub later : {A : Type 0} (xs ys : List A) → Within ys (xs ++ ys)
later [] ys x m = m
later (y ∷ xs) ys x m = inr (later xs ys x m)

pub early : {A : Type 0} (xs ys : List A) → Within xs (xs ++ ys)
early [] ys x m = absurd m
early (y ∷ xs) ys x (inl e) = inl e
early (y ∷ xs) ys x (inr m) = inr (early xs ys x m)

pub either : {A : Type 0} (xs ys : List A) (x : A) → x ∈ (xs ++ ys) → (x ∈ xs) ⊎ (x ∈ ys)
either [] ys x m = inr m
either (y ∷ xs) ys x (inl e) = inl (inl e)
either (y ∷ xs) ys x (inr m) = ⊎_elim (λ l. inl (inr l)) (λ r. inr r) (either xs ys x m)

pub some_same : {A : Type 0} {x y : A} → Some x ≡ Some y → x ≡ y
some_same e = cc

pub none_some : {A : Type 0} {x : A} {o : Option A} → o ≡ None → o ≡ Some x → ⊥
none_some e h = cc

pub one_found : {A : Type 0} {x y : A} {o : Option A} → o ≡ Some x → o ≡ Some y → x ≡ y
one_found e h = cc

pub same_or : (j i : ℕ) → (j ≡ i) ⊎ (j ≡ i → ⊥)
same_or j i = grind arith

pub grant_or : (g k : Grant) → (g ≡ k) ⊎ (g ≡ k → ⊥)
grant_or g k = ⊎_elim
    (λ a. ⊎_elim (λ b. let m : g.minter ≡ k.minter = a in let o : g.number ≡ k.number =
    b in inl (rw (m, o) refl)) (λ b. inr (λ e. b (ap (λ (x : Grant). x.number) e))) (same_or g.number k.number))
    (λ a. inr (λ e. a (ap (λ (x : Grant). x.minter) e)))
    (same_or g.minter k.minter)

-- one place of a table by name and grant, or another
pub spot_or : (j i : ℕ) (g k : Grant) → ((j ≡ i) × (g ≡ k)) ⊎ (j ≡ i → g ≡ k → ⊥)
spot_or j i g k = ⊎_elim (λ a. ⊎_elim (λ b. inl (a, b)) (λ b. inr (λ x. b)) (grant_or g k)) (λ a. inr (λ x y. a x))
    (same_or j i)

-- above a hop, so above each below it
pub above : (seen : Option ℕ) (h k : ℕ) → Above seen h → h < k → Above seen k
above None h k a l = tt
above (Some m) h k a l = omega arith

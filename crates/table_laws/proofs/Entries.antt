-- Entries of tables that are given anew.
use Rattle.std.proofs.Common.{◌≡◌, ℕ, Option, None, ⊎_elim, arith}
use Rattle.ids.specs.Names.{Grant}
use Rattle.table_laws.specs.Tables.{put, put_at, put_row, clear, put_grant}
use Rattle.table_laws.proofs.Lists.{same_or}

module _ {X : Type 0} where
  -- the entry that is given anew
  pub put_here : (f : ℕ → X) (i : ℕ) (x : X) → put f i x i ≡ x
  put_here f i x = grind arith

  -- and the others
  pub put_other : (f : ℕ → X) (i j : ℕ) (x : X) → (j ≡ i → ⊥) → put f i x j ≡ f j
  put_other f i j x other = grind (arith, other)

  -- the row that is given anew
  pub row_here : (f : ℕ → ℕ → X) (i k : ℕ) (row : ℕ → X) → put_row f i row i k ≡ row k
  row_here f i k row = grind arith

  -- and the others
  pub row_other : (f : ℕ → ℕ → X) (i j k : ℕ) (row : ℕ → X) → (j ≡ i → ⊥) → put_row f i row j k ≡ f j k
  row_other f i j k row other = grind (arith, other)

  -- the entry of a row that is given anew
  pub at_here : (f : ℕ → ℕ → X) (i t : ℕ) (x : X) → put_at f i t x i t ≡ x
  at_here f i t x = grind arith

  -- those of other rows
  pub at_other_row : (f : ℕ → ℕ → X) (i t j k : ℕ) (x : X) → (j ≡ i → ⊥) → put_at f i t x j k ≡ f j k
  at_other_row f i t j k x other = grind (arith, other)

  -- those beside it
  pub at_other_slot : (f : ℕ → ℕ → X) (i t k : ℕ) (x : X) → (k ≡ t → ⊥) → put_at f i t x i k ≡ f i k
  at_other_slot f i t k x other = grind (arith, other)

  -- and all others
  pub at_other : (f : ℕ → ℕ → X) (i t j k : ℕ) (x : X) → (j ≡ i → k ≡ t → ⊥) → put_at f i t x j k ≡ f j k
  at_other f i t j k x other = ⊎_elim (λ (p : j ≡ i). ⊎_elim (λ (q : k ≡ t). absurd (other p q)) (λ q. grind (arith, q))
      (same_or k t)) (λ p. grind (arith, p)) (same_or j i)

  -- those of other rows by grant
  pub grant_other : (f : ℕ → Grant → X) (i : ℕ) (g : Grant) (j : ℕ) (k : Grant) (x : X) → (j ≡ i → ⊥)
      → put_grant f i g x j k ≡ f j k
  grant_other f i g j k x other = grind (arith, other)

-- a row that is made empty
pub clear_here : {K X : Type 0} (f : ℕ → K → Option X) (i : ℕ) (k : K) → clear f i i k ≡ None
clear_here f i k = grind arith

-- and the others
pub clear_other : {K X : Type 0} (f : ℕ → K → Option X) (i j : ℕ) (k : K) → (j ≡ i → ⊥) → clear f i j k ≡ f j k
clear_other f i j k other = grind (arith, other)

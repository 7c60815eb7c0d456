-- Tables and lists of facts. A table is a function from its keys; a list is read as the set of its
-- items.
use Rattle.std.specs.Prelude.{◌≡◌, ℕ, nat_eq, ◌&&◌, if◌then◌else◌, List, [], ◌∷◌, ◌⊎◌, Option, None}
use Rattle.ids.specs.Names.{Grant}
pub use Rattle.ids.specs.Names.{same_grant}

infix 50 ◌∈◌
-- x is one of the list's items
abbrev pub ◌∈◌ : {A : Type 0} → A → List A → Type 0
x ∈ [] = ⊥
x ∈ (y ∷ ys) = (x ≡ y) ⊎ (x ∈ ys)

-- a table with one entry given anew
abbrev pub put : {X : Type 0} → (ℕ → X) → ℕ → X → ℕ → X
put f i x j = if nat_eq j i then x else f j

-- a table of rows with one entry given anew
abbrev pub put_at : {X : Type 0} → (ℕ → ℕ → X) → ℕ → ℕ → X → ℕ → ℕ → X
put_at f i t x j k = if nat_eq j i && nat_eq k t then x else f j k

-- a table of rows with one row given anew
abbrev pub put_row : {X : Type 0} → (ℕ → ℕ → X) → ℕ → (ℕ → X) → ℕ → ℕ → X
put_row f i row j k = if nat_eq j i then row k else f j k

-- a table of rows with one row made empty
abbrev pub clear : {K X : Type 0} → (ℕ → K → Option X) → ℕ → ℕ → K → Option X
clear f i j k = if nat_eq j i then None else f j k

-- a table of rows by grant with one entry given anew
abbrev pub put_grant : {X : Type 0} → (ℕ → Grant → X) → ℕ → Grant → X → ℕ → Grant → X
put_grant f i g x j k = if nat_eq j i && same_grant k g then x else f j k

-- The rule over the word and all pens' views, and what a step does to the view of the pen that
-- takes it.
use Rattle.std.specs.Prelude.{◌≡◌, ℕ, ◌+◌, ◌-◌, ◌*◌, ◌^◌, ◌≤◌, List, [], ◌∷◌, ◌++◌, length, slice_index}
use mathlib.Core.Option.{some}
use lib.ListN.{get_elem?}
use Rattle.atomic_table.specs.Table.{State, Me, Step}
use Rattle.start_words.specs.declared.law.Hand.{Hand}
use Rattle.start_words.specs.Numbers.{times_drawn, times_to, IsStartWord}

abbrev pub hand : ℕ → List ℕ → Hand
hand parts drawn = record { parts = parts; drawn = drawn }

-- f of each view, added up
abbrev pub total : (Hand → ℕ) → List Hand → ℕ
total f [] = 0
total f (v ∷ vs) = f v + total f vs

-- a pen's view has drawn at most 2^32 times for each of its parts
abbrev pub IsWithin : List Hand → Type 0
IsWithin views = (seat : ℕ) (v : Hand) → get_elem? views seat ≡ some v → length v.drawn ≤ v.parts * 2 ^ 32

-- the numbers in the views are 1 to the word's count, each in one view, once; there is a part for
-- each pen
pub record Drawn (pens : ℕ) (s : State (Unit {0}) Hand) : Type 0 where
  pub one_word : length s.words ≡ 1
  pub parts : total (λ v. v.parts) s.views ≡ pens
  pub within : IsWithin s.views
  pub counted : total (λ v. length v.drawn) s.views ≡ slice_index s.words 0
  pub each_once : (x : ℕ) → total (λ v. times_drawn x v.drawn) s.views ≡ times_to (slice_index s.words 0) x

abbrev Seated : Type 0
Seated = Me (Unit {0}) Hand

-- the next number goes to the end of what the pen drew, and the pen never had it
abbrev pub Draws : Step (Unit {0}) → Seated → ℕ → Seated → Type 0
Draws step before found after =
    (after.0 ≡ hand before.0.parts (before.0.drawn ++ (found + 1) ∷ []))
    × (after.1 ≡ before.1)
    × (times_drawn (found + 1) before.0.drawn ≡ 0)
    × IsStartWord (found + 1)

-- a view with no part and no number
abbrev pub Comes : Step (Unit {0}) → Seated → ℕ → Seated → Type 0
Comes step before found after = after.0 ≡ hand 0 []

-- what is left where a part is dealt, and what is dealt
abbrev pub kept_of : Hand → Hand
kept_of v = hand (v.parts - 1) v.drawn

abbrev pub dealt : Hand → Hand
dealt v = hand 1 []

-- all parts and numbers of two views
abbrev pub gathered : Hand → Hand → Hand
gathered v w = hand (v.parts + w.parts) (v.drawn ++ w.drawn)

-- Values that were saved, each with the place of its task, by the order of places.
use Rattle.std.specs.Prelude.{◌≡◌, ◌≤◌, ◌&&◌, drop, ℕ, ℤ, Bool, not, List, length, map, take, [], ◌∷◌, ⊤, Option, None, Some, is_some}
use Rattle.std.specs.List.{AllByRecursion, filter}
use Rattle.std.specs.declared.cmp.Ordering.TheVariants.{Greater, Less}
use Rattle.std.specs.List.Sorted.{IsStrictlySortedBy}
use Rattle.ids.specs.Keyed as keyed
use Rattle.saved_values.specs.declared.value.SavedValue.{SavedValue}
use Rattle.saved_values.specs.Places.{is_under, place_cmp}

abbrev pub place_of : SavedValue → List ℕ
place_of x = x.place

abbrev pub value_of : Option SavedValue → Option ℤ
value_of None = None
value_of (Some x) = Some x.value

-- the value that is saved of a place
abbrev pub known_by : List SavedValue → List ℕ → Option ℤ
known_by saved place = value_of (keyed.item_at place_of place_cmp place saved)

-- with one more in its place; a 65th and last one is dropped
abbrev pub put_saved : SavedValue → List SavedValue → List SavedValue
put_saved x saved = take 64 (keyed.put place_of place_cmp x saved)

-- a value is taken if its place isn't saved yet, and it isn't dropped at once
abbrev pub is_taken : SavedValue → List SavedValue → Bool
is_taken x saved = not (is_some (known_by saved x.place)) && is_some (known_by (put_saved x saved) x.place)

-- those below a place
abbrev pub saved_under : List ℕ → List SavedValue → List SavedValue
saved_under root saved = filter (λ x. is_under root x.place) saved

-- at most 64, each place once and by the order of places
pub record IsSavedList (saved : List SavedValue) : Type 0 where
  pub few : length saved ≤ 64
  pub rising : IsStrictlySortedBy place_cmp (map place_of saved)

-- the first of these values, if there is one, stands behind a place
abbrev pub IsBehind : List ℕ → List SavedValue → Type 0
IsBehind place [] = ⊤
IsBehind place (x ∷ saved) = place_cmp x.place place ≡ Greater

-- so many values stand before a place, and the others behind it
pub record StandsAt (place : List ℕ) (saved : List SavedValue) (at : ℕ) : Type 0 where
  pub there : at ≤ length saved
  pub before : AllByRecursion (λ x. place_cmp x.place place ≡ Less) (take at saved)
  pub behind : IsBehind place (drop at saved)

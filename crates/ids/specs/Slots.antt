-- The slots of a frame: each is a number or still empty.
use Rattle.std.specs.Prelude.{ℤ, List, [], ◌∷◌, Option, Some}
use Rattle.ids.specs.Options.{◌>>=◌}

-- the numbers in slots, if none is empty
abbrev pub numbers_in : List (Option ℤ) → Option (List ℤ)
numbers_in [] = Some []
numbers_in (slot ∷ slots) = do
  v ← slot
  vs ← numbers_in slots
  Some (v ∷ vs)

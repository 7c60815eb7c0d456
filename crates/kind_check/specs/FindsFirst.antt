-- A map from names to their first places.
use Rattle.std.specs.Prelude.{◌≡◌, ℕ, List}
use Rattle.std.specs.Borrow.{Bor}
use Rattle.std.specs.HashMap.{HashMap, get_by}
use Rattle.std.specs.Str.{bytes_eq}
use Rattle.kind_check.specs.Places.{place_of}

-- the map finds of each name its first place among these names
pub record FindsFirst {S : Type 0} (first : HashMap (Bor (List ℕ)) ℕ S) (names : List (List ℕ)) : Type 0 where
  pub found : (name : Bor (List ℕ)) → get_by (λ k. bytes_eq name.now k.now) first ≡ place_of names name.now

-- Lists of items that have their keys in them and stand in the order of these. They are the finite
-- maps of the protocol: what is listed in a packet or by a call stands in that order.
use Rattle.std.specs.Prelude.{Bool, not, List, [], ◌∷◌, Option}
use Rattle.std.specs.List.{find, filter}
use Rattle.std.specs.declared.cmp.Ordering.{Ordering}
use Rattle.std.specs.Ordering.{eq_by_cmp, match_ordering}

module _ {X K : Type 0} (key : X → K) (cmp : K → K → Ordering) where
  -- whether an item has the key
  abbrev pub has_key : K → X → Bool
  has_key k x = eq_by_cmp cmp k (key x)

  -- the item of a key
  abbrev pub item_at : K → List X → Option X
  item_at k xs = find (has_key k) xs

  -- the others
  abbrev pub without : K → List X → List X
  without k xs = filter (λ x. not (has_key k x)) xs

  -- with an item in its place; one of the same key makes room for it
  abbrev pub put : X → List X → List X
  put x [] = x ∷ []
  put x (y ∷ ys) = match_ordering (cmp (key x) (key y)) (x ∷ y ∷ ys) (x ∷ ys) (y ∷ put x ys)

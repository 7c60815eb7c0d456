-- Items with names, in the order of these.
use Rattle.std.specs.Prelude.{ℕ, List, Option, Some, None}
use Rattle.std.specs.declared.cmp.Ordering.{Ordering}
use Rattle.std.specs.Ordering.{nat_cmp, ordering_then}
use Rattle.ids.specs.Keyed as keyed

-- a name: two numbers
abbrev pub Name : Type 0
Name = ℕ × ℕ

-- by the first number, then by the second
abbrev pub name_cmp : Name → Name → Ordering
name_cmp a b = ordering_then (nat_cmp a.0 b.0) (nat_cmp a.1 b.1)

-- the item of a name
abbrev pub item_in : {X : Type 0} → (X → Name) → Name → List X → Option X
item_in name n xs = keyed.item_at name name_cmp n xs

-- with an item in its place
abbrev pub put_in : {X : Type 0} → (X → Name) → X → List X → List X
put_in name x xs = keyed.put name name_cmp x xs

-- without the item of a name
abbrev pub without_in : {X : Type 0} → (X → Name) → Name → List X → List X
without_in name n xs = keyed.without name name_cmp n xs

-- with the item that was found changed, if there was one
abbrev pub changed_of : {X : Type 0} → (X → Name) → (X → X) → List X → Option X → List X
changed_of name change xs None = xs
changed_of name change xs (Some x) = put_in name (change x) xs

-- with the item of a name changed, if it is there
abbrev pub changed_in : {X : Type 0} → (X → Name) → (X → X) → Name → List X → List X
changed_in name change n xs = changed_of name change xs (item_in name n xs)

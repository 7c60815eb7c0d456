-- Items that stand in the order of their names.
use Rattle.std.specs.Prelude.{List, map}
use Rattle.std.specs.List.Sorted.{IsStrictlySortedBy}
use Rattle.ids.specs.Named.{Name, name_cmp}

-- by rising name, each name once
abbrev pub AreInOrder : {X : Type 0} → (X → Name) → List X → Type 0
AreInOrder name xs = IsStrictlySortedBy name_cmp (map name xs)

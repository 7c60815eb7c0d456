use Rattle.std.proofs.Common.{◌≡◌, Less, take}
use Rattle.std.specs.List.{AllByRecursion}
use Rattle.saved_values.specs.Places.{place_cmp}
use Rattle.saved_values.proofs.table.position.Given as goal

abbrev pub invariant-loop-index : goal.invariant-loop-index
invariant-loop-index l = AllByRecursion (λ x. place_cmp x.place l.place ≡ Less) (take l.index l.values)

use Rattle.std.proofs.Common.{◌≡◌, ◌∷◌, drop}
use Rattle.saved_values.specs.Saved.{known_by}
use Rattle.saved_values.proofs.table.value_among.Given as goal

abbrev pub invariant-loop-saved : goal.invariant-loop-saved
invariant-loop-saved l = known_by (drop l.saved-index l.values) (l.hole ∷ l.place)
    ≡ known_by l.values (l.hole ∷ l.place)

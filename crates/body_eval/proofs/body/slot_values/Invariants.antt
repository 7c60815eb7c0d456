use Rattle.std.proofs.Common.{◌≡◌, ◌++◌, List, drop, Some}
use Rattle.kind_check.specs.declared.turn.Slot.{Slot}
use Rattle.kind_check.specs.Turns.{◌>>=◌}
use Rattle.kind_check.specs.Code.{code_slots}
use Rattle.body_eval.proofs.body.slot_values.Given as goal

-- the slots so far, and then those of the rest, are all of them
abbrev pub invariant-loop-code : goal.invariant-loop-code
invariant-loop-code l =
    (code_slots l.numbers (drop l.code-index l.code-items) >>= (λ (rest : List Slot). Some (l.slots ++ rest)))
    ≡ code_slots l.numbers l.codes

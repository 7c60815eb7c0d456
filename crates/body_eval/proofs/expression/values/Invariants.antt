use Rattle.std.proofs.Common.{◌≡◌, ◌++◌, List, ℤ, drop, Some}
use Rattle.kind_check.specs.Turns.{◌>>=◌}
use Rattle.kind_check.specs.Code.{code_values}
use Rattle.body_eval.proofs.expression.values.Given as goal

-- the values so far, and then those of the rest, are all of them
abbrev pub invariant-loop-code : goal.invariant-loop-code
invariant-loop-code l =
    (code_values l.values (drop l.code-index l.code-items) >>= (λ (rest : List ℤ). Some (l.numbers ++ rest)))
    ≡ code_values l.values l.codes

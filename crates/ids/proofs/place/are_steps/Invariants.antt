use Rattle.std.proofs.Common.{◌≡◌, ◌&&◌, nat_lt, drop}
use Rattle.std.specs.List.{list_all}
use Rattle.ids.proofs.place.are_steps.Given as goal

-- all are steps if those were that were seen, and those are that are left
abbrev pub invariant-loop-step : goal.invariant-loop-step
invariant-loop-step l = (l.good && list_all (λ step. nat_lt step 9) (drop l.step-index l.bytes))
    ≡ list_all (λ step. nat_lt step 9) l.bytes

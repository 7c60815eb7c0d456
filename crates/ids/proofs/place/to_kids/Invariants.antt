use Rattle.std.proofs.Common.{◌≡◌, ◌+◌, ◌==◌, not, drop, ℕ}
use Rattle.std.specs.List.{count_by}
use Rattle.ids.proofs.place.to_kids.Given as goal

-- what was counted and what is left are all that go to kids
abbrev pub invariant-loop-step : goal.invariant-loop-step
invariant-loop-step l = l.level + count_by (λ (step : ℕ). not (step == 0)) (drop l.step-index l.steps)
    ≡ count_by (λ (step : ℕ). not (step == 0)) l.steps

use Rattle.std.proofs.Common.{◌≤◌, ◌==◌, ℕ, arith, not, get_or}
use Rattle.std.specs.List.{count_by}
use Rattle.std.proofs.lemmas.List.{at_drop_all}
use Rattle.ids.proofs.Places.{counted_on, few_counted, one_level}
use Rattle.ids.proofs.place.to_kids.Goals as goal

pub overflow_add-level : goal.overflow_add-level
overflow_add-level c =
    let few = few_counted c.args.steps.now c.loop-step.step-index c.loop-step.level c.requires c.loop-step.invariant in
    let one : c.levels_down-level.result ≤ 1 =
    rw c.levels_down-level.ensures (one_level (get_or c.args.steps.now c.loop-step.step-index 0)) in
    omega (few, one, arith)

pub loop-step-preserved : goal.loop-step-preserved
loop-step-preserved c = rw c.levels_down-level.ensures
    (counted_on c.args.steps.now c.loop-step.step-index c.loop-step.level c.loop-step-test.true c.loop-step.invariant)

pub returns : goal.returns
returns c =
    let none = at_drop_all (λ l. count_by (λ (step : ℕ). not (step == 0)) l) c.args.steps.now c.loop-step.step-index
    c.loop-step-test.false in
    omega (none, c.loop-step.invariant, arith)

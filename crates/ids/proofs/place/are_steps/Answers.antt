use Rattle.std.proofs.Common.{◌∙◌, ◌&&◌, sym, nat_lt}
use Rattle.std.specs.List.{list_all}
use Rattle.std.proofs.lemmas.List.{at_drop_all}
use Rattle.ids.proofs.Places.{and_true, passed_on}
use Rattle.ids.proofs.place.are_steps.Goals as goal

pub loop-step-preserved : goal.loop-step-preserved
loop-step-preserved c = passed_on c.args.bytes.now c.loop-step.step-index c.loop-step.good c.loop-step-test.true
    c.loop-step.invariant

pub returns : goal.returns
returns c =
    let none = at_drop_all (λ l. c.loop-step.good
    && list_all (λ step. nat_lt step 9) l) c.args.bytes.now c.loop-step.step-index c.loop-step-test.false in
    sym (and_true c.loop-step.good) ∙ (sym none ∙ c.loop-step.invariant)

use Rattle.std.proofs.Common.{◌∙◌}
use Rattle.saved_values.proofs.Places.{kid_when}
use Rattle.saved_values.proofs.place.lead_to_kid.Goals as goal

pub returns-clause-kid : goal.returns-clause-kid
returns-clause-kid c = c.are_steps.ensures
    ∙ kid_when c.args.steps.now c.in-Some.before.now c.in-Some.last.now c.in-Some.ensures.cases.0 c.if-last-eq0.false
    c.if-before-ge-MOST_SAVED_STEPS.false

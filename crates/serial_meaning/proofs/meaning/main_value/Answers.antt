use Rattle.std.proofs.Common.{◌∙◌}
use Rattle.serial_meaning.proofs.MeaningLaws.{spent_in, turns_in, value_in}
use Rattle.serial_meaning.proofs.meaning.main_value.Goals as goal

pub returns-clause-value : goal.returns-clause-value
returns-clause-value g c =
    let job = c.args.job.now in
    value_in c.task_value.result job.program c.checked-checked.result.now job.input c.in_ok-stack.stack.items
    c.main.result c.main.ensures.found c.checked-checked.ensures.same (c.in_ok-stack.ensures.items ∙ c.input.ensures)
    c.task_value.ensures.value

pub returns-clause-turns : goal.returns-clause-turns
returns-clause-turns g c =
    let job = c.args.job.now in
    turns_in c.task_value.result job.program c.checked-checked.result.now job.input c.in_ok-stack.stack.items
    c.main.result c.main.ensures.found c.checked-checked.ensures.same (c.in_ok-stack.ensures.items ∙ c.input.ensures)
    c.args.turns.now c.task_value.new.turns c.task_value.ensures.turns

pub returns-clause-spent : goal.returns-clause-spent
returns-clause-spent g c =
    let job = c.args.job.now in
    spent_in c.task_value.result job.program c.checked-checked.result.now job.input c.in_ok-stack.stack.items
    c.main.result c.main.ensures.found c.checked-checked.ensures.same (c.in_ok-stack.ensures.items ∙ c.input.ensures)
    c.args.turns.now c.task_value.ensures.spent

use Rattle.std.proofs.Common.{subst, sym}
use Rattle.task_tree.specs.declared.tree.Program.{Program}
use Rattle.sub_rules.specs.Carrying.{ended}
use Rattle.node_steps.specs.Calls as calls
use Rattle.node_steps.specs.Meeting.{Meets}
use Rattle.node_calls.proofs.turns.exec.Goals as goal

pub carry_out-requires-clause-fits : goal.carry_out-requires-clause-fits
carry_out-requires-clause-fits c = rw (c.turn.ensures.same, sym c.requires) c.turn.ensures.evaluated.fits

pub returns-clause-answer : goal.returns-clause-answer
returns-clause-answer c =
    let d = c.args.done.now in
    let met : Meets (calls.exec c.args.node.now.job
    (ended c.args.node.now.job.program d.thread d.numbers d.turn) c.args.grant c.args.frame c.args.node.now.node)
    c.carry_out.result c.args.node.now c.carry_out.new.node =
    rw (c.thread.ensures.same, c.numbers.ensures.same, c.turn.ensures.same) at c.carry_out.ensures.answer in
    subst (λ (p : Program). Meets (calls.exec c.args.node.now.job
    (ended p d.thread d.numbers d.turn) c.args.grant c.args.frame c.args.node.now.node) c.carry_out.result
    c.args.node.now c.carry_out.new.node) (sym c.requires) met

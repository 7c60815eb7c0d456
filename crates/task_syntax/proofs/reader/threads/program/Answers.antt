use Rattle.task_syntax.specs.Meeting.{here, behind}
use Rattle.task_syntax.proofs.Meeting.{failed}
use Rattle.task_syntax.proofs.reader.threads.program.Goals as goal

pub returns-in_err-threads-clause-met : goal.returns-in_err-threads-clause-met
returns-in_err-threads-clause-met c =
    failed _ _ _ c.from_residual.ensures.1 (λ m. here (c.in_err-threads.ensures.met m))

pub returns-in_err-length-clause-met : goal.returns-in_err-length-clause-met
returns-in_err-length-clause-met c =
    failed _ _ _ c.from_residual-in_err-length.ensures.1
    (λ m. behind c.in_ok-threads.ensures.parts (c.in_err-length.ensures.met m))

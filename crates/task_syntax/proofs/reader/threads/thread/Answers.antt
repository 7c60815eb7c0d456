use Rattle.task_syntax.specs.Grammar.{thread}
use Rattle.task_syntax.specs.Meeting.{here, behind, both, named}
use Rattle.task_syntax.proofs.Meeting.{failed}
use Rattle.task_syntax.proofs.reader.threads.thread.Goals as goal

pub returns-clause-read : goal.returns-clause-read
returns-clause-read c =
    thread c.in_ok-rest.ensures.ok c.in_ok-title.ensures.read c.in_ok-rest-2.ensures.ok
    c.in_ok-continuation.ensures.read c.in_ok-numbers.ensures.read c.in_ok-rest-3.ensures.ok
    c.in_ok-body.ensures.read

pub returns-in_err-rest-clause-met : goal.returns-in_err-rest-clause-met
returns-in_err-rest-clause-met c = failed _ _ _ c.from_residual.ensures.1 (λ m. here c.in_err-rest.ensures.err)

pub returns-in_err-title-clause-met : goal.returns-in_err-title-clause-met
returns-in_err-title-clause-met c = failed _ _ _ c.from_residual-in_err-title.ensures.1
    (λ m. behind c.in_ok-rest.ensures.ok (here (c.in_err-title.ensures.met m)))

pub returns-in_err-rest-2-clause-met : goal.returns-in_err-rest-2-clause-met
returns-in_err-rest-2-clause-met c =
    failed _ _ _ c.from_residual-in_err-rest-2.ensures.1
    (λ m. behind c.in_ok-rest.ensures.ok (behind (named c.in_ok-title.ensures.read) (here c.in_err-rest-2.ensures.err)))

pub returns-in_err-continuation-clause-met : goal.returns-in_err-continuation-clause-met
returns-in_err-continuation-clause-met c =
    failed _ _ _ c.from_residual-in_err-continuation.ensures.1
    (λ m. behind c.in_ok-rest.ensures.ok
    (behind (named c.in_ok-title.ensures.read)
    (behind c.in_ok-rest-2.ensures.ok (here (c.in_err-continuation.ensures.met m)))))

pub returns-in_err-numbers-clause-met : goal.returns-in_err-numbers-clause-met
returns-in_err-numbers-clause-met c =
    failed _ _ _ c.from_residual-in_err-numbers.ensures.1
    (λ m. behind c.in_ok-rest.ensures.ok
    (behind (named c.in_ok-title.ensures.read)
    (behind c.in_ok-rest-2.ensures.ok (behind (named c.in_ok-continuation.ensures.read)
    (here (c.in_err-numbers.ensures.met m))))))

pub returns-in_err-rest-3-clause-met : goal.returns-in_err-rest-3-clause-met
returns-in_err-rest-3-clause-met c =
    failed _ _ _ c.from_residual-in_err-rest-3.ensures.1
    (λ m. behind c.in_ok-rest.ensures.ok
    (behind (named c.in_ok-title.ensures.read)
    (behind c.in_ok-rest-2.ensures.ok (behind (named c.in_ok-continuation.ensures.read)
    (behind c.in_ok-numbers.ensures.parts (here c.in_err-rest-3.ensures.err))))))

pub returns-in_err-body-clause-met : goal.returns-in_err-body-clause-met
returns-in_err-body-clause-met c = failed _ _ _ c.from_residual-in_err-body.ensures.1
    (λ m. behind c.in_ok-rest.ensures.ok
    (behind (named c.in_ok-title.ensures.read)
    (behind c.in_ok-rest-2.ensures.ok (behind (named c.in_ok-continuation.ensures.read)
    (behind c.in_ok-numbers.ensures.parts (behind c.in_ok-rest-3.ensures.ok (c.in_err-body.ensures.met m)))))))

pub returns-clause-parts : goal.returns-clause-parts
returns-clause-parts c = both c.in_ok-rest.ensures.ok
    (both (named c.in_ok-title.ensures.read)
    (both c.in_ok-rest-2.ensures.ok (both (named c.in_ok-continuation.ensures.read)
    (both c.in_ok-numbers.ensures.parts (both c.in_ok-rest-3.ensures.ok c.in_ok-body.ensures.parts)))))

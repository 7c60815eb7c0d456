use Rattle.task_syntax.specs.Grammar.{send}
use Rattle.task_syntax.specs.Meeting.{here, behind, both, named, valued}
use Rattle.task_syntax.proofs.Meeting.{failed}
use Rattle.task_syntax.proofs.reader.statements.send.Goals as goal

pub returns-clause-read : goal.returns-clause-read
returns-clause-read c =
    send c.in_ok-rest.ensures.ok c.in_ok-rest-2.ensures.ok c.in_ok-target.ensures.read c.in_ok-rest-3.ensures.ok
    c.in_ok-sent.ensures.read c.in_ok-rest-4.ensures.ok c.in_ok-rest-5.ensures.ok

pub returns-in_err-rest-clause-met : goal.returns-in_err-rest-clause-met
returns-in_err-rest-clause-met c = failed _ _ _ c.from_residual.ensures.1 (λ m. here c.in_err-rest.ensures.err)

pub returns-in_err-rest-2-clause-met : goal.returns-in_err-rest-2-clause-met
returns-in_err-rest-2-clause-met c =
    failed _ _ _ c.from_residual-in_err-rest-2.ensures.1
    (λ m. behind c.in_ok-rest.ensures.ok (here c.in_err-rest-2.ensures.err))

pub returns-in_err-target-clause-met : goal.returns-in_err-target-clause-met
returns-in_err-target-clause-met c =
    failed _ _ _ c.from_residual-in_err-target.ensures.1
    (λ m. behind c.in_ok-rest.ensures.ok (behind c.in_ok-rest-2.ensures.ok (here (c.in_err-target.ensures.met m))))

pub returns-in_err-rest-3-clause-met : goal.returns-in_err-rest-3-clause-met
returns-in_err-rest-3-clause-met c =
    failed _ _ _ c.from_residual-in_err-rest-3.ensures.1
    (λ m. behind c.in_ok-rest.ensures.ok
    (behind c.in_ok-rest-2.ensures.ok (behind (named c.in_ok-target.ensures.read) (here c.in_err-rest-3.ensures.err))))

pub returns-in_err-sent-clause-met : goal.returns-in_err-sent-clause-met
returns-in_err-sent-clause-met c = failed _ _ _ c.from_residual-in_err-sent.ensures.1
    (λ m. behind c.in_ok-rest.ensures.ok
    (behind c.in_ok-rest-2.ensures.ok (behind (named c.in_ok-target.ensures.read)
    (behind c.in_ok-rest-3.ensures.ok (here (c.in_err-sent.ensures.met m))))))

pub returns-in_err-rest-4-clause-met : goal.returns-in_err-rest-4-clause-met
returns-in_err-rest-4-clause-met c =
    failed _ _ _ c.from_residual-in_err-rest-4.ensures.1
    (λ m. behind c.in_ok-rest.ensures.ok
    (behind c.in_ok-rest-2.ensures.ok (behind (named c.in_ok-target.ensures.read)
    (behind c.in_ok-rest-3.ensures.ok (behind (valued c.in_ok-sent.ensures.read c.in_ok-sent.ensures.stops)
    (here c.in_err-rest-4.ensures.err))))))

pub returns-in_err-rest-5-clause-met : goal.returns-in_err-rest-5-clause-met
returns-in_err-rest-5-clause-met c =
    failed _ _ _ c.from_residual-in_err-rest-5.ensures.1
    (λ m. behind c.in_ok-rest.ensures.ok
    (behind c.in_ok-rest-2.ensures.ok (behind (named c.in_ok-target.ensures.read)
    (behind c.in_ok-rest-3.ensures.ok (behind (valued c.in_ok-sent.ensures.read c.in_ok-sent.ensures.stops)
    (behind c.in_ok-rest-4.ensures.ok c.in_err-rest-5.ensures.err))))))

pub returns-clause-parts : goal.returns-clause-parts
returns-clause-parts c = both c.in_ok-rest.ensures.ok
    (both c.in_ok-rest-2.ensures.ok (both (named c.in_ok-target.ensures.read)
    (both c.in_ok-rest-3.ensures.ok (both (valued c.in_ok-sent.ensures.read c.in_ok-sent.ensures.stops)
    (both c.in_ok-rest-4.ensures.ok c.in_ok-rest-5.ensures.ok)))))

use Rattle.task_syntax.specs.Grammar.{bound}
use Rattle.task_syntax.specs.Meeting.{here, behind, both, named, valued}
use Rattle.task_syntax.proofs.Meeting.{failed}
use Rattle.task_syntax.proofs.reader.statements.binding.Goals as goal

pub returns-clause-read : goal.returns-clause-read
returns-clause-read c =
    bound c.in_ok-rest.ensures.ok c.in_ok-name.ensures.read c.in_ok-rest-2.ensures.ok c.in_ok-value.ensures.read
    c.in_ok-rest-3.ensures.ok

pub returns-in_err-rest-clause-met : goal.returns-in_err-rest-clause-met
returns-in_err-rest-clause-met c = failed _ _ _ c.from_residual.ensures.1 (λ m. here c.in_err-rest.ensures.err)

pub returns-in_err-name-clause-met : goal.returns-in_err-name-clause-met
returns-in_err-name-clause-met c = failed _ _ _ c.from_residual-in_err-name.ensures.1
    (λ m. behind c.in_ok-rest.ensures.ok (here (c.in_err-name.ensures.met m)))

pub returns-in_err-rest-2-clause-met : goal.returns-in_err-rest-2-clause-met
returns-in_err-rest-2-clause-met c =
    failed _ _ _ c.from_residual-in_err-rest-2.ensures.1
    (λ m. behind c.in_ok-rest.ensures.ok (behind (named c.in_ok-name.ensures.read) (here c.in_err-rest-2.ensures.err)))

pub returns-in_err-value-clause-met : goal.returns-in_err-value-clause-met
returns-in_err-value-clause-met c = failed _ _ _ c.from_residual-in_err-value.ensures.1
    (λ m. behind c.in_ok-rest.ensures.ok
    (behind (named c.in_ok-name.ensures.read) (behind c.in_ok-rest-2.ensures.ok (here (c.in_err-value.ensures.met m)))))

pub returns-in_err-rest-3-clause-met : goal.returns-in_err-rest-3-clause-met
returns-in_err-rest-3-clause-met c =
    failed _ _ _ c.from_residual-in_err-rest-3.ensures.1
    (λ m. behind c.in_ok-rest.ensures.ok
    (behind (named c.in_ok-name.ensures.read)
    (behind c.in_ok-rest-2.ensures.ok (behind
    (valued c.in_ok-value.ensures.read c.in_ok-value.ensures.stops) c.in_err-rest-3.ensures.err))))

pub returns-clause-parts : goal.returns-clause-parts
returns-clause-parts c = both c.in_ok-rest.ensures.ok
    (both (named c.in_ok-name.ensures.read)
    (both c.in_ok-rest-2.ensures.ok (both
    (valued c.in_ok-value.ensures.read c.in_ok-value.ensures.stops) c.in_ok-rest-3.ensures.ok)))

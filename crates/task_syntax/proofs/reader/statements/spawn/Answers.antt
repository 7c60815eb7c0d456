use Rattle.task_syntax.specs.Grammar.{spawn, spawned}
use Rattle.task_syntax.specs.Meeting.{here, behind, both, named}
use Rattle.task_syntax.proofs.Meeting.{failed}
use Rattle.task_syntax.proofs.reader.statements.spawn.Goals as goal

pub returns-clause-read : goal.returns-clause-read
returns-clause-read c =
    spawned (spawn c.in_ok-rest.ensures.ok c.in_ok-thread.ensures.read c.in_ok-rest-2.ensures.ok
    c.in_ok-hole.ensures.read c.in_ok-values.ensures.read c.in_ok-rest-3.ensures.ok c.in_ok-rest-4.ensures.ok)

pub returns-in_err-rest-clause-met : goal.returns-in_err-rest-clause-met
returns-in_err-rest-clause-met c = failed _ _ _ c.from_residual.ensures.1 (λ m. here c.in_err-rest.ensures.err)

pub returns-in_err-thread-clause-met : goal.returns-in_err-thread-clause-met
returns-in_err-thread-clause-met c =
    failed _ _ _ c.from_residual-in_err-thread.ensures.1
    (λ m. behind c.in_ok-rest.ensures.ok (here (c.in_err-thread.ensures.met m)))

pub returns-in_err-rest-2-clause-met : goal.returns-in_err-rest-2-clause-met
returns-in_err-rest-2-clause-met c =
    failed _ _ _ c.from_residual-in_err-rest-2.ensures.1
    (λ m. behind c.in_ok-rest.ensures.ok
    (behind (named c.in_ok-thread.ensures.read) (here c.in_err-rest-2.ensures.err)))

pub returns-in_err-hole-clause-met : goal.returns-in_err-hole-clause-met
returns-in_err-hole-clause-met c = failed _ _ _ c.from_residual-in_err-hole.ensures.1
    (λ m. behind c.in_ok-rest.ensures.ok
    (behind (named c.in_ok-thread.ensures.read)
    (behind c.in_ok-rest-2.ensures.ok (here (c.in_err-hole.ensures.met m)))))

pub returns-in_err-values-clause-met : goal.returns-in_err-values-clause-met
returns-in_err-values-clause-met c =
    failed _ _ _ c.from_residual-in_err-values.ensures.1
    (λ m. behind c.in_ok-rest.ensures.ok
    (behind (named c.in_ok-thread.ensures.read)
    (behind c.in_ok-rest-2.ensures.ok (behind (named c.in_ok-hole.ensures.read)
    (here (c.in_err-values.ensures.met m))))))

pub returns-in_err-rest-3-clause-met : goal.returns-in_err-rest-3-clause-met
returns-in_err-rest-3-clause-met c =
    failed _ _ _ c.from_residual-in_err-rest-3.ensures.1
    (λ m. behind c.in_ok-rest.ensures.ok
    (behind (named c.in_ok-thread.ensures.read)
    (behind c.in_ok-rest-2.ensures.ok (behind (named c.in_ok-hole.ensures.read)
    (behind c.in_ok-values.ensures.parts (here c.in_err-rest-3.ensures.err))))))

pub returns-in_err-rest-4-clause-met : goal.returns-in_err-rest-4-clause-met
returns-in_err-rest-4-clause-met c =
    failed _ _ _ c.from_residual-in_err-rest-4.ensures.1
    (λ m. behind c.in_ok-rest.ensures.ok
    (behind (named c.in_ok-thread.ensures.read)
    (behind c.in_ok-rest-2.ensures.ok (behind (named c.in_ok-hole.ensures.read)
    (behind c.in_ok-values.ensures.parts (behind c.in_ok-rest-3.ensures.ok c.in_err-rest-4.ensures.err))))))

pub returns-clause-parts : goal.returns-clause-parts
returns-clause-parts c = both c.in_ok-rest.ensures.ok
    (both (named c.in_ok-thread.ensures.read)
    (both c.in_ok-rest-2.ensures.ok (both (named c.in_ok-hole.ensures.read)
    (both c.in_ok-values.ensures.parts (both c.in_ok-rest-3.ensures.ok c.in_ok-rest-4.ensures.ok)))))

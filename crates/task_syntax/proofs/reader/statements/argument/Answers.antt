-- A hole behind its question mark, else a value.
use Rattle.task_syntax.specs.Grammar.{hole, value}
use Rattle.task_syntax.specs.Refusals.{stands}
use Rattle.task_syntax.specs.Meeting.{behind, both, named, valued, one, other, in_one, in_other}
use Rattle.task_syntax.proofs.Meeting.{failed, lacks_stands}
use Rattle.task_syntax.proofs.reader.statements.argument.Goals as goal

pub returns-in-Some-clause-read : goal.returns-in-Some-clause-read
returns-in-Some-clause-read c = hole c.in-Some.ensures.some c.in_ok-hole.ensures.read

pub returns-in-Some-clause-parts : goal.returns-in-Some-clause-parts
returns-in-Some-clause-parts c = one (stands c.in-Some.ensures.some)
    (both c.in-Some.ensures.some (named c.in_ok-hole.ensures.read))

pub returns-in_err-hole-clause-met : goal.returns-in_err-hole-clause-met
returns-in_err-hole-clause-met c =
    failed _ _ _ c.from_residual.ensures.1
    (λ m. in_one (stands c.in-Some.ensures.some) (behind c.in-Some.ensures.some (c.in_err-hole.ensures.met m)))

pub returns-clause-read : goal.returns-clause-read
returns-clause-read c = value c.in_ok-given.ensures.read

pub returns-clause-parts : goal.returns-clause-parts
returns-clause-parts c = other (lacks_stands c.in_default.ensures.none)
    (valued c.in_ok-given.ensures.read c.in_ok-given.ensures.stops)

pub returns-in_err-given-clause-met : goal.returns-in_err-given-clause-met
returns-in_err-given-clause-met c =
    failed _ _ _ c.from_residual-in_err-given.ensures.1
    (λ m. in_other (lacks_stands c.in_default.ensures.none) (c.in_err-given.ensures.met m))

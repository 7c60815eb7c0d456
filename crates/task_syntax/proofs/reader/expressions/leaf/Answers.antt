-- A number or a name is an expression at every level.
use Rattle.std.proofs.Common.{w64, rules, refl, ap}
use Rattle.std.proofs.lemmas.Int.{to_z-of_z}
use Rattle.task_tokens.specs.declared.kinds.TokenKind.TheVariants as kind
use Rattle.task_syntax.specs.Grammar.{number, variable}
use Rattle.task_syntax.specs.Refusals.{first_refusal, leaf_refusal}
use Rattle.task_syntax.proofs.Meeting.{failed}
use Rattle.task_syntax.proofs.Reading.{begins_from}
use Rattle.task_syntax.proofs.Refusals.{refused_kind, leaf_first}
use Rattle.task_syntax.proofs.reader.expressions.leaf.Goals as goal

pub returns-in-Numeral-clause-read : goal.returns-in-Numeral-clause-read
returns-in-Numeral-clause-read c = λ parens.
    rw (to_z-of_z w64 c.in-Numeral.n (search rules)) (number (begins_from c.in-Some.ensures.some c.in-Numeral.is))

pub returns-in_ok-variable-in_default-kind-clause-read : goal.returns-in_ok-variable-in_default-kind-clause-read
returns-in_ok-variable-in_default-kind-clause-read c = λ parens. variable c.in_ok-variable-in_default-kind.ensures.read

pub returns-in_default-clause-met : goal.returns-in_default-clause-met
returns-in_default-clause-met c = λ m. ap (first_refusal leaf_refusal) c.in_default.ensures.none

pub returns-in-LargeNumeral-clause-met : goal.returns-in-LargeNumeral-clause-met
returns-in-LargeNumeral-clause-met c =
    λ m. refused_kind _ _ _ _ kind.LargeNumeral _ c.in-Some.ensures.some c.in-LargeNumeral.is refl

pub returns-in_err-variable-in_default-kind-clause-met : goal.returns-in_err-variable-in_default-kind-clause-met
returns-in_err-variable-in_default-kind-clause-met c =
    failed _ _ _ c.from_residual.ensures.1
    (λ m. leaf_first _ _ _ _ c.in-Some.ensures.some c.in_default-kind.not-Numeral c.in_default-kind.not-LargeNumeral
    (c.in_err-variable-in_default-kind.ensures.met m))

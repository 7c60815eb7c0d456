-- Where no name stands, its refusal is met.
use Rattle.std.proofs.Common.{refl, ap}
use Rattle.std.proofs.lemmas.Result.{err_from_is_err_and}
use Rattle.task_tokens.specs.declared.kinds.TokenKind.TheVariants as kind
use Rattle.task_syntax.specs.Refusals.{first_refusal, name_refusal}
use Rattle.task_syntax.proofs.Refusals.{refused_kind, name_refusal-else}
use Rattle.task_syntax.proofs.reader.tokens.name.Goals as goal

pub returns-in_default-clause-met : goal.returns-in_default-clause-met
returns-in_default-clause-met c = λ m. ap (first_refusal name_refusal) c.in_default.ensures.none

pub returns-in_err-named-in-Ident-clause-met : goal.returns-in_err-named-in-Ident-clause-met
returns-in_err-named-in-Ident-clause-met c =
    let p = err_from_is_err_and c.from_residual.result c.from_residual.ensures.1 in rw
    (p.1, p.2, c.in_err-named-in-Ident.ensures.err) (λ m. absurd (m refl))

pub returns-in-LongIdent-clause-met : goal.returns-in-LongIdent-clause-met
returns-in-LongIdent-clause-met c = λ m.
    refused_kind _ _ _ _ kind.LongIdent _ c.in-Some.ensures.some c.in-LongIdent.is refl

pub returns-in_default-kind-clause-met : goal.returns-in_default-kind-clause-met
returns-in_default-kind-clause-met c = λ m.
    refused_kind _ _ _ _ _ _ c.in-Some.ensures.some refl
    (name_refusal-else _ _ c.in_default-kind.not-Ident c.in_default-kind.not-LongIdent)

-- A `spawn` where one stands, else a `send_argument`.
use Rattle.std.proofs.lemmas.Result.{IfOk-weaker}
use Rattle.task_syntax.specs.Grammar.{sent}
use Rattle.task_syntax.specs.Meeting.{spawn_part, use_part, one, other, in_one, in_other}
use Rattle.task_syntax.proofs.Meeting.{failed, met_more, lacks_stands}
use Rattle.task_syntax.proofs.reader.statements.hole_use.Goals as goal

pub returns-then-begins-clause-parts : goal.returns-then-begins-clause-parts
returns-then-begins-clause-parts c = IfOk-weaker _ _ _ (λ x r. one c.if-begins.ensures r) c.spawn.ensures.parts

pub returns-then-begins-clause-met : goal.returns-then-begins-clause-met
returns-then-begins-clause-met c = met_more (spawn_part.meets c.args.tokens.now) (use_part.meets c.args.tokens.now)
    (λ e h. in_one c.if-begins.ensures h) c.spawn.result c.spawn.ensures.met

pub returns-clause-read : goal.returns-clause-read
returns-clause-read c = sent c.in_ok-hole.ensures.read

pub returns-clause-parts : goal.returns-clause-parts
returns-clause-parts c = other (lacks_stands c.if-begins.ensures) c.in_ok-hole.ensures.parts

pub returns-in_err-hole-clause-met : goal.returns-in_err-hole-clause-met
returns-in_err-hole-clause-met c =
    failed _ _ _ c.from_residual.ensures.1
    (λ m. in_other (lacks_stands c.if-begins.ensures) (c.in_err-hole.ensures.met m))

-- The three ways in which a text is refused.
use Rattle.std.proofs.Common.{◌≡◌, ◌∙◌}
use Rattle.task_tokens.specs.Tokens.{tokens}
use Rattle.task_syntax.specs.Meeting.{MeetsText, program_part, too_long, not_ascii, in_program}
use Rattle.task_syntax.proofs.Meeting.{met_more}
use Rattle.task_syntax.proofs.parsing.parse.Goals as goal

pub returns-then-text-gt-LONGEST_TEXT-clause-refused : goal.returns-then-text-gt-LONGEST_TEXT-clause-refused
returns-then-text-gt-LONGEST_TEXT-clause-refused c = λ m. too_long c.if-text-gt-LONGEST_TEXT.true

pub returns-in-Some-clause-refused : goal.returns-in-Some-clause-refused
returns-in-Some-clause-refused c = λ m.
    not_ascii c.if-text-gt-LONGEST_TEXT.false c.in-Some.ensures.0 c.in-Some.ensures.1 c.in-Some.ensures.2

pub returns-clause-refused : goal.returns-clause-refused
returns-clause-refused c =
    let text = c.args.text.now in
    let same : c.as_slice.result.now ≡ tokens 0 0 text = c.as_slice.ensures ∙ c.in_ok-tokens.ensures in
    met_more (program_part.meets c.as_slice.result.now) (MeetsText text)
    (λ e h. in_program c.if-text-gt-LONGEST_TEXT.false c.in_default.ensures (rw (← same) h)) c.program.result
    c.program.ensures.met
